-- The invariant: the records before record i are put, renamed, and the counts are those of the loops around.
use Rattle.splice.specs.Laws.Renaming.{Renamed}
use Rattle.splice.proofs.put_renamed.Given as goal

abbrev pub invariant-loop-i : goal.invariant-loop-i
invariant-loop-i l = Renamed l.sent l.around.ends l.around.outer l.around.wanted l.at l.i l.initial.out l.out
