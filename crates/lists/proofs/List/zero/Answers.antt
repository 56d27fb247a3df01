-- The zero list is one pair, 0 for ever.
use mathlib.Core.Path.{refl}
use native.Mathlib.Omega.{arith}
use Rattle.lists.specs.Pairs.{Canonical}
use Rattle.lists.specs.Reading.{count_at, pairs_of, runs_then, value_at}
use Rattle.lists.proofs.List.zero.Goals as goal

pub returns : goal.returns
unfolding Canonical count_at pairs_of runs_then value_at
returns c = record { proper = record { long = refl; some = omega arith; room = omega arith; ends = refl; canonical = tt }; pairs = refl }
