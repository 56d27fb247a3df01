-- By the other list: one value for ever, one run and 0 after, or any.
use native.Mathlib.Omega.{arith}
use Rattle.inplace.proofs.InPlace.{copied, ever-is, low_first, room-run, run_is}
use Rattle.inplace.proofs.add_in.Goals as goal

pub raise_in-requires : goal.raise_in-requires
raise_in-requires c = record { fact_1 = c.requires.left; fact_2 = low_first c.requires c.value_at-v.ensures }

pub returns-then-other-eq1 : goal.returns-then-other-eq1
returns-then-other-eq1 c = rw (ever-is c.args.other.now c.if-other-eq1.true, ← c.value_at-v.ensures) c.raise_in.ensures

pub raise_front-requires : goal.raise_front-requires
raise_front-requires c =
    let q = c.requires in
    let r = run_is q.right c.is_run.ensures c.if-is_run.true in
    record {
      fact_1 = q.left;
      fact_2 = room-run q.left r q.narrow;
      fact_3 = low_first q c.value_at-v.ensures;
      fact_4 = omega (arith, c.count_at.ensures, r.times);
      fact_5 = omega (arith, c.value_at-v.ensures, r.some);
    }

pub returns-then-is_run : goal.returns-then-is_run
returns-then-is_run c =
    let q = c.requires in
    let r = run_is q.right c.is_run.ensures c.if-is_run.true in
    rw (r.pairs, ← c.value_at-v.ensures, ← c.count_at.ensures) c.raise_front.ensures

pub returns : goal.returns
returns c = copied c.add_onto.ensures c.copy_from.ensures
