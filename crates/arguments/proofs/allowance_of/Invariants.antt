-- The invariant: the digits so far are read.
use Prim.Native.Nat.{◌≤◌}
use Rattle.arguments.specs.Allowances.{most_steps}
use Rattle.arguments.specs.Laws.Reading.{Read}
use Rattle.arguments.proofs.allowance_of.Given as goal

abbrev pub invariant-loop-c : goal.invariant-loop-c
invariant-loop-c l = (l.number ≤ most_steps) × Read l.characters l.number l.c-index
