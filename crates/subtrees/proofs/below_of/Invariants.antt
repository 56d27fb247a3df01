-- The invariant: the children left, after those found, come to all.
use Rattle.std.proofs.Common.{◌-◌}
use Rattle.subtrees.specs.Parts.{trees_at}
use Rattle.subtrees.specs.Facts.{below_at}
use Rattle.subtrees.specs.Laws.Survey.{Walk}
use Rattle.subtrees.proofs.below_of.Given as goal

abbrev pub invariant-loop : goal.invariant-loop
invariant-loop l = Walk l.table l.i (below_at (trees_at l.table l.i)) l.found l.body (l.end - l.counter) l.p
