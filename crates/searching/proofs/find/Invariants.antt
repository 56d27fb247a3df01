-- The invariant: no rule fits before record i, and the step is found from there on. The measure: the records left.
use Rattle.std.proofs.Common.{◌≡◌, ◌-◌, length}
use Rattle.searching.specs.Found.{Quiet}
use Rattle.searching.specs.Laws.Search.{Sought}
use Rattle.searching.proofs.find.Given as goal

abbrev pub invariant-loop-i : goal.invariant-loop-i
invariant-loop-i l = record { sought : Sought l.view.table.now l.i; quiet : Quiet l.view.table.now l.i; long : length l.out ≡ length l.initial.out }

abbrev pub decreases-loop-i : goal.decreases-loop-i
decreases-loop-i l = l.n - l.i
