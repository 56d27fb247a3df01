-- The three tests are the definition's, of the node that stands there.
use Rattle.std.proofs.Common.{◌∙◌}
use Rattle.subtrees.specs.Laws.Parts.{here-at}
use Rattle.rewrite.specs.Laws.Tests.{equal-kinds}
use Rattle.rules2to7.specs.Laws.Children.{gives_at}
use Rattle.rules2to7.proofs.gives_way.Goals as goal

pub returns : goal.returns
returns c =
    gives_at _ _ (here-at _ c.args.view.sized.table c.args.p c.requires) c.args.kind c.args.count
    c.node_at-own.ensures c.children_at-more.ensures.0 (c.eq.ensures ∙ equal-kinds _ _) c.is_unlimited.ensures c.has_room.ensures
