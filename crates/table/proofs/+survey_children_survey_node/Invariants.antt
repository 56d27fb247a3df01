-- The depth falls from a node to its children and stays from the children to each of them.
use Rattle.std.proofs.Common.{◌≡◌, ◌+◌, ◌-◌, ◌*◌}
use Rattle.table.specs.Survey.{survey_more, survey_node, survey_children, Small}
use Rattle.table.proofs.+survey_children_survey_node.Given as goal

abbrev pub decreases-survey_children : goal.decreases-survey_children
decreases-survey_children l = l.depth * 2 + 1

abbrev pub decreases-survey_node : goal.decreases-survey_node
decreases-survey_node l = l.depth * 2

-- the children left, after those found, give the whole answer
abbrev pub invariant-survey_children-loop-i : goal.invariant-survey_children-loop-i
invariant-survey_children-loop-i l =
    Small l.table l.found × (survey_more (survey_node l.depth) l.outer l.others (l.count - l._i) l.table l.found ≡ survey_children l.depth l.first l.others l.count l.table)
