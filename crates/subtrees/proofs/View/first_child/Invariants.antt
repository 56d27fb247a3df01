-- The invariant: the first child that is wanted is among those left.
use Rattle.std.proofs.Common.{◌-◌}
use Rattle.subtrees.specs.Laws.Children.{Looking}
use Rattle.subtrees.proofs.View.first_child.Given as goal

abbrev pub invariant-loop : goal.invariant-loop
invariant-loop g l = Looking l.self.table.now (goal.F-post g l.wanted) l.i (l.end - l.counter) l.p
