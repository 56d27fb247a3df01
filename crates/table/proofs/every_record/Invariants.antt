-- The invariant: the records before i passed whatever the test computes.
use Rattle.std.specs.Prelude.{Bool, List, ℕ}
use Rattle.table.specs.Passes.{TestsRecords}
use Rattle.table.proofs.Laws.Reading.{Passed}
use Rattle.table.proofs.every_record.Given as goal

abbrev pub invariant-loop-i : goal.invariant-loop-i
invariant-loop-i g l = (p : List ℕ → Bool) → TestsRecords g.F.Fn l.fn.test p → Passed p l.table l.i
