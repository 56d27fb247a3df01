-- The invariant: the first k records are the same but for their addresses (`Agreed`).
use Rattle.rules8and9.specs.Laws.Comparing.{Agreed}
use Rattle.rules8and9.proofs.same_records.Given as goal

abbrev pub invariant-loop-k : goal.invariant-loop-k
invariant-loop-k l = Agreed l.table l.a l.b l.n l.k
