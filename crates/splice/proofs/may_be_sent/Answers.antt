use Rattle.splice.specs.Laws.Splice.{may-send}
use Rattle.splice.proofs.may_be_sent.Goals as goal

pub returns : goal.returns
returns c = may-send _ _ c.read_kind-kind.ensures c.is_symbol.ensures c.is_paired_block.ensures
