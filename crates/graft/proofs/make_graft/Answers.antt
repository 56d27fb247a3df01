use Prim.Native.Nat.{◌*◌, ◌+◌, ◌≤◌}
use native.Mathlib.Omega.{arith}
use Rattle.table.specs.Numbers.{most_records}
use Rattle.table.specs.Table.{record_count}
use Rattle.graft.proofs.Laws.Making.{made_all, made-long, made-room, product_small}
use Rattle.table.proofs.Laws.Tables.{few-records}
use Rattle.graft.proofs.make_graft.Goals.{After-count_occurrences-count}
use Rattle.graft.proofs.make_graft.Goals as goal

-- no more than the most records, each of them a block that so many more take the place of
small : (c : After-count_occurrences-count) → c.count_occurrences-count.result * (record_count c.args.sent.now + 1) ≤ most_records * (most_records + 1)
small c =
    let s = c in
    product_small c.count_occurrences-count.result (record_count s.args.sent.now) (omega (arith, few-records s.args.host.now s.requires.fact_1, c.count_occurrences-count.ensures.1)) (few-records s.args.sent.now s.requires.fact_2)

pub overflow_mul-count : goal.overflow_mul-count
overflow_mul-count c = omega (arith, small (goal.at.overflow_mul-count c).After-count_occurrences-count)

pub overflow_add-n : goal.overflow_add-n
overflow_add-n c = omega (arith, small (goal.at.overflow_add-n c).After-count_occurrences-count, few-records c.args.host.now c.requires.fact_1)

pub returns-then-n-count-gt-MOST_RECORDS : goal.returns-then-n-count-gt-MOST_RECORDS
returns-then-n-count-gt-MOST_RECORDS c = made-long _ _ _ c.requires.fact_1 c.requires.fact_2 c.args.work.now _ c.count_occurrences-count.ensures.0 c.if-n-count-gt-MOST_RECORDS.true

pub put_all-requires : goal.put_all-requires
put_all-requires c =
    let count = c.count_occurrences-count.ensures.0 in
    let room = made-room c.args.host.now c.args.sent.now c.args.symbol c.requires.fact_1 c.requires.fact_2 _ count c.if-n-count-gt-MOST_RECORDS.false in
    record {
      fact_1 = count;
      fact_2 = c.requires.fact_2;
      fact_3 = omega (arith, room, c.requires.fact_3);
    }

pub returns : goal.returns
returns c =
    made_all _ _ _ c.requires.fact_1 c.requires.fact_2 _ c.count_occurrences-count.ensures.0 c.if-n-count-gt-MOST_RECORDS.false _ _ (omega (arith, c.put_all.auto, c.requires.fact_3)) c.put_all.ensures
