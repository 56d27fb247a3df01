-- Where a child is shared rule 8 fits (`FitsAt`); what is written is the definition's bytes, part by part.
use Rattle.std.proofs.Common.{◌≡◌, ap, ◌+◌, arith}
use Rattle.simplify.specs.Rules.{firsts}
use Rattle.table.specs.Trees.{records_in}
use Rattle.table.proofs.Laws.Tables.{few-records, length-is}
use Rattle.rules8and9.specs.Laws.Sharing.{FitsAt, fits-at, fits-firsts, fits-pairs, no_sharing, sharing-written}
use Rattle.rules8and9.proofs.rule8_at.Goals.{In_ok-second}
use Rattle.rules8and9.proofs.rule8_at.Goals.{After-copy_firsts-firsts}
use Rattle.rules8and9.proofs.rule8_at.Goals as goal

found : (c : In_ok-second) → let a = c.args in FitsAt a.view.table.now a.view.facts.now a.i c.in_ok-second.second
found c = fits-at _ _ c.args.view.sized _ _ c.requires.inside c.in_ok-second.ensures

-- and the record that the copies of the firsts reach
firsts-end : (c : After-copy_firsts-firsts) (x : FitsAt c.args.view.table.now c.args.view.facts.now c.args.i c.in_ok-second.second) → c.copy_firsts-firsts.result ≡ 2 + records_in (firsts x.kids)
firsts-end c x = omega (arith, c.copy_firsts-firsts.ensures.0, c.put_tops-tops.ensures.0, ap records_in (fits-firsts x _ c.children_at-count.ensures.0))

pub returns-in_err-second : goal.returns-in_err-second
returns-in_err-second c = rw c.from_residual.ensures (no_sharing _ c.args.view.sized.table _ _ c.requires.inside c.in_err-second.ensures)

pub put_tops-tops-requires-clause-room : goal.put_tops-tops-requires-clause-room
put_tops-tops-requires-clause-room c =
    let x = found (goal.at.put_tops-tops-requires-clause-room c).In_ok-second in
    omega (arith, x.small, length-is _ x.table, c.requires.room)

pub copy_firsts-firsts-requires-clause-pairs : goal.copy_firsts-firsts-requires-clause-pairs
copy_firsts-firsts-requires-clause-pairs c = fits-pairs (found (goal.at.copy_firsts-firsts-requires-clause-pairs c).In_ok-second) _ c.children_at-count.ensures.0

pub copy_firsts-firsts-requires-clause-room : goal.copy_firsts-firsts-requires-clause-room
copy_firsts-firsts-requires-clause-room c =
    let x = found (goal.at.copy_firsts-firsts-requires-clause-room c).In_ok-second in
    let total = ap records_in (fits-firsts x _ c.children_at-count.ensures.0) in
    omega (arith, x.small, length-is _ x.table, c.requires.room, total, c.put_tops-tops.ensures.0, c.put_tops-tops.auto)

pub offset_bounds-view-second : goal.offset_bounds-view-second
offset_bounds-view-second c =
    let x = found (goal.at.offset_bounds-view-second c).In_ok-second in
    omega (arith, x.inside, few-records _ x.table)

pub bounds-view-second : goal.bounds-view-second
bounds-view-second c = (found (goal.at.bounds-view-second c).In_ok-second).sized

pub copy_records-at-requires : goal.copy_records-at-requires
copy_records-at-requires c =
    let x = found (goal.at.copy_records-at-requires c).In_ok-second in
    omega (arith, x.small, x.inner, length-is _ x.table, c.requires.room, firsts-end (goal.at.copy_records-at-requires c).After-copy_firsts-firsts x, c.put_tops-tops.auto, c.copy_firsts-firsts.auto)

pub overflow_add-from : goal.overflow_add-from
overflow_add-from c =
    let x = found (goal.at.overflow_add-from c).In_ok-second in
    omega (arith, x.within, few-records _ x.table)

pub copy_rest-requires : goal.copy_rest-requires
copy_rest-requires c =
    let x = found (goal.at.copy_rest-requires c).In_ok-second in
    omega (arith, x.small, x.within, length-is _ x.table, c.requires.room, c.copy_records-at.ensures.0, firsts-end (goal.at.copy_rest-requires c).After-copy_firsts-firsts x, c.put_tops-tops.auto, c.copy_firsts-firsts.auto, c.copy_records-at.auto)

pub returns : goal.returns
returns c =
    sharing-written (found (goal.at.returns c).In_ok-second) _ c.children_at-count.ensures.0 _ _ _ _ _ _ _ _
    c.put_tops-tops.ensures.0 c.put_tops-tops.ensures.1 c.copy_firsts-firsts.ensures.0 c.copy_firsts-firsts.ensures.1
    c.copy_records-at.ensures.0 c.copy_records-at.ensures.1 c.copy_rest.ensures.0 c.copy_rest.ensures.1
