-- `some_of` is 0 at 0 alone.
use mathlib.Core.Path.{◌≡◌, refl}
use mathlib.Core.Bool.{Bool, false, not, true}
use lib.Dec.{eqb}
use mir.Val.{bool_byte}
use borrow.Author.Tests.{eqb-false, eqb-true}
use Rattle.lists.specs.Operations.{some}
use Rattle.lists.specs.Laws.Add.{positive}
use Rattle.lists.specs.Laws.Group.{some-none, some_one}
use Rattle.lists.proofs.some_of.Goals as goal

pub returns : goal.returns
returns c = rw c.from.ensures (go (eqb c.args.x 0) refl)
  where
    go : (b : Bool) → eqb c.args.x 0 ≡ b → bool_byte (not b) ≡ some c.args.x
    go true e = rw (some-none _ (eqb-true _ _ e)) refl
    go false e = rw (some_one _ (positive _ (eqb-false _ _ e))) refl
