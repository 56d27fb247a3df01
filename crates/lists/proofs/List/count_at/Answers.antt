-- `count_at` reads the odd index of its pair.
use mathlib.Core.Path.{refl}
use Rattle.lists.specs.Reading.{count_at}
use Rattle.lists.proofs.List.count_at.Goals as goal

pub returns : goal.returns
unfolding count_at
returns c = refl
