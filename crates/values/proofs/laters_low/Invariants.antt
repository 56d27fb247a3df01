-- The invariant: the paired symbols before s are in order.
use Rattle.evaluate.specs.Evaluate.{values_of}
use Rattle.values.proofs.Laws.Values.{Ordered}
use Rattle.values.proofs.laters_low.Given as goal

abbrev pub invariant-loop-s : goal.invariant-loop-s
invariant-loop-s l = Ordered (values_of l.values) l.s
