-- By the other list: one value for ever, one run and 0 after, or any.
use native.Mathlib.Omega.{arith}
use Rattle.inplace.proofs.InPlace.{copied, ever-is, few-run, room-run, run_is}
use Rattle.inplace.proofs.merge_in.Goals as goal

pub floor_in-requires : goal.floor_in-requires
floor_in-requires c = c.requires.left

pub returns-then-other-eq1 : goal.returns-then-other-eq1
returns-then-other-eq1 c = rw (ever-is c.args.other.now c.if-other-eq1.true, ← c.value_at-v.ensures) c.floor_in.ensures

pub insert_run-requires : goal.insert_run-requires
insert_run-requires c =
    let q = c.requires in
    let r = run_is q.right c.is_run.ensures c.if-is_run.true in
    record {
      fact_1 = q.left;
      fact_2 = room-run q.left r q.narrow;
      fact_3 = few-run q r c.count_at.ensures;
      fact_4 = omega (arith, c.count_at.ensures, r.times);
      fact_5 = omega (arith, c.value_at-v.ensures, r.some);
    }

pub returns-then-is_run : goal.returns-then-is_run
returns-then-is_run c =
    let q = c.requires in
    let r = run_is q.right c.is_run.ensures c.if-is_run.true in
    rw (r.pairs, ← c.value_at-v.ensures, ← c.count_at.ensures) c.insert_run.ensures

pub returns : goal.returns
returns c = copied c.merge_onto.ensures c.copy_from.ensures
