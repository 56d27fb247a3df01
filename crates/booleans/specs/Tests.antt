-- How tests are joined.
use Rattle.std.specs.Prelude.{Bool, true, false}

-- tests joined
infixl 30 ◌and◌
unfoldable pub ◌and◌ : Bool → Bool → Bool
true and b = b
false and b = false
