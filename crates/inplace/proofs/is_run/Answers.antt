use mathlib.Core.Path.{refl}
use Rattle.inplace.proofs.is_run.Goals as goal

pub returns : goal.returns
returns c = rw c.value_at.ensures refl
