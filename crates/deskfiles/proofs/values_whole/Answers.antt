use Rattle.booleans.specs.Laws.{and_is}
use Rattle.deskfiles.specs.Files.{values_whole}
use Rattle.deskfiles.proofs.values_whole.Goals as goal

pub returns : goal.returns
unfolding values_whole
returns c = simp and_is
