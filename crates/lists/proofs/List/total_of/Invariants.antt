-- Invariant of the loop of `total_of`: the sum, and then what is left of the first n members from pair k on, come to the total (`Totalling`).
use Rattle.lists.specs.Reading.{count_at}
use Rattle.lists.proofs.Totals.{Totalling}
use Rattle.lists.proofs.List.total_of.Given as goal

abbrev pub invariant-loop-k : goal.invariant-loop-k
invariant-loop-k l = Totalling l.self l.n l.k l.left l.sum (count_at l.self.pairs l.k)
