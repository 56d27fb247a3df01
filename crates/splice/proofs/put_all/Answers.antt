use Prim.Native.Nat.{◌*◌, ◌+◌, ◌-◌, ◌≤◌}
use Rattle.std.proofs.Common.{◌≡◌, arith}
use lib.ListN.{length}
use Rattle.table.specs.Numbers.{record_length}
use Rattle.table.specs.Table.{record_count}
use Rattle.splice.specs.Laws.Splicing.{all-put, one-put, place-room, rest-room, stands_on}
use Rattle.splice.proofs.put_all.Goals.{After-next_place-place}
use Rattle.splice.proofs.put_all.Goals as goal

-- there is room for the records before the next place, and for what is put there
room : (c : After-next_place-place) → let loop = c in
    record_length * (loop.loop-k.at + (c.next_place-place.result - loop.loop-k.i) + (record_count loop.args.sent.now + 2)) ≤ length loop.loop-k.out
room c =
    let loop = c in
    let found = c.next_place-place.ensures in
    place-room _ _ _ _ _ _ _ _ _ _ loop.loop-k.invariant _ found.0 found.1 found.2 loop.requires.fact_3

pub copy_records-end-requires : goal.copy_records-end-requires
copy_records-end-requires c =
    let found = c.next_place-place.ensures in
    (omega (arith, found.0.onward, found.1), omega (arith, room (goal.at.copy_records-end-requires c).After-next_place-place))

pub put_place-at-requires-clause-fact_1 : goal.put_place-at-requires-clause-fact_1
put_place-at-requires-clause-fact_1 c = c.requires.fact_2

pub put_place-at-requires-clause-fact_2 : goal.put_place-at-requires-clause-fact_2
put_place-at-requires-clause-fact_2 c = stands_on _ _ _ _ _ c.copy_records-end.ensures.1 c.loop-k.invariant.stands

pub put_place-at-requires-clause-fact_3 : goal.put_place-at-requires-clause-fact_3
put_place-at-requires-clause-fact_3 c = omega (arith, room (goal.at.put_place-at-requires-clause-fact_3 c).After-next_place-place, c.copy_records-end.ensures.0, c.copy_records-end.auto)

pub loop-k-preserved : goal.loop-k-preserved
loop-k-preserved c =
    let found = c.next_place-place.ensures in
    let left : c.args.count - (c.loop-k._k + 1) ≡ c.args.count - c.loop-k._k - 1 = omega arith in
    rw left (one-put _ _ _ _ _ _ _ _ _ _ c.loop-k.invariant _ found.0 found.1 found.2 _ _ _ _ _ c.node_at.ensures c.copy_records-end.auto.out c.put_place-at.auto.out (omega (arith, room (goal.at.loop-k-preserved c).After-next_place-place, c.copy_records-end.ensures.0, c.copy_records-end.auto)) c.copy_records-end.ensures c.put_place-at.ensures)

pub copy_rest-requires : goal.copy_rest-requires
copy_rest-requires c =
    (c.loop-k.invariant.within, rest-room _ _ _ _ _ _ _ _ _ _ c.loop-k.invariant c.requires.fact_3)

pub returns : goal.returns
returns c =
    all-put _ _ _ _ _ _ _ _ _ _ c.loop-k.invariant (omega arith) _ _ c.copy_rest.ensures
