-- The invariant: what was found, and what the children left add, come to the children's (`Gathering`). The measure: the records left.
use Rattle.std.proofs.Common.{◌-◌}
use Rattle.rules2to7.specs.Laws.Blocks.{Gathering}
use Rattle.rules2to7.proofs.bares_in.Given as goal

abbrev pub invariant-loop-p : goal.invariant-loop-p
invariant-loop-p l = Gathering l.view.table.now l.i l.end l.p l.found

abbrev pub decreases-loop-p : goal.decreases-loop-p
decreases-loop-p l = l.end - l.p
