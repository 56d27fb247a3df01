-- The depth falls from a node to its children and stays from the children to each of them; the children's loop counts them up to how many there are.
use Rattle.std.proofs.Common.{◌+◌, ◌*◌, ◌-◌}
use Rattle.evaluate.specs.Evaluate.{values_of}
use Rattle.evaluate.specs.Shown.{evaluate_children}
use Rattle.walking.proofs.Walk.{Walked}
use Rattle.walking.proofs.+evaluate_children_evaluate_node.Given as goal

abbrev pub decreases-evaluate_children : goal.decreases-evaluate_children
decreases-evaluate_children l = l.depth * 2 + 1

abbrev pub decreases-evaluate_node : goal.decreases-evaluate_node
decreases-evaluate_node l = l.depth * 2

-- the children left, after those done, give the whole answer
abbrev pub invariant-evaluate_children-loop-number : goal.invariant-evaluate_children-loop-number
invariant-evaluate_children-loop-number l =
    Walked (values_of l.values) l.depth l.table (evaluate_children (values_of l.values) l.depth l.initial.seen_as l.count l.table) l.seen_as l.number (l.count - l.number) l.done l.out
