-- The pairs are stored, and checked.
use Rattle.std.specs.Prelude.{not}
use Rattle.std.proofs.Math.Path.{ap}
use mathlib.Core.Path.{sym, ◌∙◌}
use native.Mathlib.Omega.{arith}
use borrow.Author.Tests.{not-true}
use Rattle.evaluate.specs.Evaluate.{values_of}
use Rattle.evaluate.specs.Evaluator.{time_pairs}
use Rattle.evaluate.proofs.Laws.Children.{time-single}
use Rattle.evaluate.proofs.Laws.Times.{later-le}
use Rattle.evaluate.proofs.block_in.Goals as goal

pub returns-then-not-is_paired : goal.returns-then-not-is_paired
returns-then-not-is_paired c =
    let unpaired = sym c.is_paired.ensures ∙ not-true _ (ap not c.if-not-is_paired.true) in
    rw (time-single _ _ unpaired, ← c.amount_of-first.ensures) c.repeat_in.ensures

pub once_then-requires : goal.once_then-requires
once_then-requires c = omega (arith, c.amount_of-first.ensures, c.later_of.ensures, later-le (values_of c.args.values.now) c.args.time)

pub returns : goal.returns
unfolding time_pairs
returns c =
    rw (← c.amount_of-first.ensures, ← c.later_of.ensures, ← c.once_then.ensures.pairs) c.check_top.ensures
