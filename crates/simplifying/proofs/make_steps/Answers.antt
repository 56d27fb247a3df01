-- The copy holds the table, and what the steps make of it is written.
use mathlib.Core.Path.{sym, subst}
use native.Mathlib.Omega.{arith}
use Rattle.table.proofs.Laws.Tables.{not-long}
use Rattle.subtrees.specs.Parts.{Simplifiable}
use Rattle.simplifying.specs.Laws.Simplifying.{copy_is, made-is}
use Rattle.simplifying.proofs.make_steps.Goals as goal

pub write_front-requires : goal.write_front-requires
write_front-requires c =
    (omega arith, omega (arith, not-long _ c.requires.fact_1.table))

pub steps_in-run-requires : goal.steps_in-run-requires
steps_in-run-requires c =
    let l = not-long _ c.requires.fact_1.table in
    record {
      simplifiable_1 = subst Simplifiable (sym (copy_is _ _ _ c.write_front.ensures)) c.requires.fact_1;
      simplifiable_2 = omega (arith, l, c.write_front.auto);
      simplifiable_3 = omega (arith, l);
      len_bound = omega (arith, l);
    }

pub write_front-requires-2 : goal.write_front-requires-2
write_front-requires-2 c =
    let short = c.steps_in-run.ensures.fact_2 in
    (omega (arith, short, not-long _ c.requires.fact_1.table, c.steps_in-run.auto, c.write_front.auto), omega (arith, short, c.requires.fact_2))

pub returns : goal.returns
returns c =
    made-is _ _ _ _ _ _ _ _ _ _ (copy_is _ _ _ c.write_front.ensures) c.steps_in-run.ensures.fact_1
    (omega (arith, c.steps_in-run.ensures.fact_2, not-long _ c.requires.fact_1.table, c.steps_in-run.auto, c.write_front.auto)) c.from.ensures c.write_front-2.ensures
