-- `put_pair` stores a value and the count after it.
use mathlib.Core.Path.{refl}
use Rattle.lists.specs.Reading.{stored}
use Rattle.lists.proofs.List.put_pair.Goals as goal

pub returns : goal.returns
unfolding stored
returns c = refl
