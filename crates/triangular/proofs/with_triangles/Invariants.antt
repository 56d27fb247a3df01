-- The invariant: the first i values and their triangular numbers are there.
use Rattle.triangular.proofs.Laws.Entries.{Filled}
use Rattle.triangular.proofs.with_triangles.Given as goal

abbrev pub invariant-loop-i : goal.invariant-loop-i
invariant-loop-i l = Filled l.values l.out l.i
