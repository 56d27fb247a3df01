-- The invariant: the others up to record p are copied (`Copying`). The measure: the records left.
use Rattle.std.proofs.Common.{◌-◌}
use Rattle.subtrees.specs.Parts.{trees_at}
use Rattle.rules2to7.specs.Blocks.{spanning}
use Rattle.rules2to7.specs.Laws.Blocks.{Copying}
use Rattle.rules2to7.proofs.copy_others.Given as goal

abbrev pub invariant-loop-p : goal.invariant-loop-p
invariant-loop-p l = Copying l.view.table.now l.initial.out l.out (spanning (trees_at l.view.table.now l.start) (l.end - l.start)) l.at l.end l.p l.to

abbrev pub decreases-loop-p : goal.decreases-loop-p
decreases-loop-p l = l.end - l.p
