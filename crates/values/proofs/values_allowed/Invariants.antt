-- The invariant: the values before i are in range.
use Rattle.values.proofs.Laws.Values.{Asked}
use Rattle.values.proofs.values_allowed.Given as goal

abbrev pub invariant-loop-i : goal.invariant-loop-i
invariant-loop-i l = Asked l.values l.i
