-- The invariant: the records from i on are to form the wanted trees.
use Rattle.table.proofs.Laws.Reading.{Wanted}
use Rattle.table.proofs.one_tree.Given as goal

abbrev pub invariant-loop-i : goal.invariant-loop-i
invariant-loop-i l = Wanted l.table l.wanted l.i
