-- The invariant: the first k words agree.
use Rattle.words.specs.Laws.Compare.{Agree}
use Rattle.words.proofs.compare.Given as goal

abbrev pub invariant-loop-k : goal.invariant-loop-k
invariant-loop-k l = Agree l.a l.b l.k
