-- `value_at` reads the even index of its pair.
use mathlib.Core.Path.{refl}
use Rattle.lists.specs.Reading.{value_at}
use Rattle.lists.proofs.List.value_at.Goals as goal

pub returns : goal.returns
unfolding value_at
returns c = refl
