-- The evaluator finds the children before the node's own limit.
use mathlib.Core.Path.{◌∙◌}
use Rattle.rules2to7.specs.Laws.Settled.{settled, short-part}
use Rattle.rules2to7.proofs.settled_value.Goals as goal

pub evaluate_children-requires : goal.evaluate_children-requires
evaluate_children-requires c = short-part _ c.requires.fact_1 c.args.i c.requires.fact_2 _

pub returns : goal.returns
returns c =
    c.value_at.ensures ∙ settled _ c.requires.fact_1 _ c.requires.fact_2 c.requires.fact_3 _ _ c.node_at-node.ensures c.children_at-count.ensures.0 c.evaluate_children.ensures
