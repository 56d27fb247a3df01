-- Invariant of the loop of `group_from`: the pairs stored, and then the groups of the list from pair k on, are the groups (`Grouping`).
use Rattle.lists.specs.Reading.{count_at}
use Rattle.grouping.proofs.Groups.{Grouping}
use Rattle.grouping.proofs.group_from.Given as goal

abbrev pub invariant-loop-k : goal.invariant-loop-k
invariant-loop-k l = Grouping l.n l.list l.out.pairs l.o l.k l.held l.sum (count_at l.list.pairs l.k)
