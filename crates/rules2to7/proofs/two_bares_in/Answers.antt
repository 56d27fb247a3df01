use Rattle.std.proofs.Common.{ap, not, ◌∙◌}
use Rattle.rewrite.specs.Laws.Tests.{equal-kinds}
use Rattle.rules2to7.specs.Laws.Blocks.{two-both, two-few, two-other}
use Rattle.rules2to7.proofs.two_bares_in.Goals as goal

pub returns-then-ne : goal.returns-then-ne
returns-then-ne c =
    two-other _ c.args.view.sized.table _ c.requires c.args.kind c.node_at.ensures (c.ne.ensures ∙ ap not (equal-kinds _ _)) c.if-ne.true

pub returns-then-found-lt2 : goal.returns-then-found-lt2
returns-then-found-lt2 c = two-few _ c.args.view.sized.table _ c.requires c.args.kind _ c.bares_in-found.ensures c.if-found-lt2.true

pub returns : goal.returns
returns c =
    two-both _ c.args.view.sized.table _ c.requires c.args.kind _ c.node_at.ensures (c.ne.ensures ∙ ap not (equal-kinds _ _)) c.if-ne.false c.bares_in-found.ensures c.if-found-lt2.false
