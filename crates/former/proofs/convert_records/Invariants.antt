-- The invariant: the first i records are made (`Making`).
use Rattle.former.proofs.Laws.Converting.{Making}
use Rattle.former.proofs.convert_records.Given as goal

abbrev pub invariant-loop-i : goal.invariant-loop-i
invariant-loop-i l = Making l.old l.n l.initial.out l.i l.out
