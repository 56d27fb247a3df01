-- Invariant of the loop of `copy_from`: the first k pairs are copied.
use Rattle.lists.proofs.Copies.{Copying}
use Rattle.lists.proofs.List.copy_from.Given as goal

abbrev pub invariant-loop-k : goal.invariant-loop-k
invariant-loop-k l = Copying l.other l.self.pairs l.k
