-- Pair k is stored, and 0 after it or over it.
use mathlib.Core.Path.{refl}
use Rattle.lists.specs.Reading.{ended}
use Rattle.lists.proofs.List.end_at.Goals as goal

pub returns : goal.returns
unfolding ended
returns c = rw (c.put_pair-2.ensures, c.put_pair.ensures, c.lasts.ensures.0, c.value_at-v.ensures) refl
