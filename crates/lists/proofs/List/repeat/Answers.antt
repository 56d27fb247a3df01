-- One pair is stored, the last.
use mathlib.Core.Path.{refl}
use native.Mathlib.Omega.{arith}
use borrow.Author.Rules.{rules}
use Rattle.lists.specs.Pairs.{Canonical, ever}
use Rattle.lists.specs.Reading.{runs_then}
use Rattle.lists.proofs.Stored.{put_last}
use Rattle.lists.proofs.List.repeat.Goals as goal

pub returns : goal.returns
unfolding runs_then Canonical
returns c = rw c.put_pair.ensures (put_last _ 0 _ (ever _) (omega arith) (search rules) refl tt)
