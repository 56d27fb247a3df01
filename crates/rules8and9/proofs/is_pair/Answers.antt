use Rattle.std.proofs.Common.{◌∙◌}
use Rattle.rewrite.specs.Laws.Tests.{equal-kinds}
use Rattle.rules8and9.specs.Laws.Sharing.{pair-test}
use Rattle.rules8and9.proofs.is_pair.Goals as goal

pub returns : goal.returns
returns c =
    pair-test _ _ c.args.view.sized.table c.requires c.node_at-node.ensures (c.eq.ensures ∙ equal-kinds _ _) c.is_unlimited.ensures c.children_at.ensures.0
