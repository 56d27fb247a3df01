-- Invariant of the loop of `find_in`: the values of the pairs before k are above v (`Finding`).
use Rattle.inplace.proofs.InPlace.{Finding}
use Rattle.inplace.proofs.find_in.Given as goal

abbrev pub invariant-loop-k : goal.invariant-loop-k
invariant-loop-k l = Finding l.list l.v l.k
