use Rattle.graft.proofs.Laws.Making.{asked-11}
use Rattle.graft.proofs.symbol_allowed.Goals as goal

pub returns : goal.returns
returns c = asked-11 _ c.requires _ _ c.sendable-sendable.ensures
