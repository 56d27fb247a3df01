use Rattle.rules2to7.specs.Laws.Blocks.{kept-all, kept-none}
use Rattle.rules2to7.proofs.kept.Goals as goal

pub returns-then-is_bare : goal.returns-then-is_bare
returns-then-is_bare c = kept-none _ _ c.is_bare.ensures c.if-is_bare.true

pub returns : goal.returns
returns c = kept-all _ _ _ c.is_bare.ensures c.if-is_bare.false (c.args.view.sized.each _ c.requires)
