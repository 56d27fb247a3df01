use Rattle.deskfiles.specs.Files.{symbol_value}
use Rattle.deskfiles.proofs.ValuesFile.symbol_value.Goals as goal

pub returns : goal.returns
unfolding symbol_value
returns c = rw (← c.ceiling_of.ensures) c.value_or.ensures
