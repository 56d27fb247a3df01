-- Document 01, "Evaluation": an endless list as pairs of value and count, values strictly falling, the last for ever.
use Rattle.std.specs.Prelude.{◌≡◌, cond, List, [], ◌∷◌, ℕ, zero, suc, ◌+◌, ◌-◌, ◌<◌, eqb, ltb}
use Rattle.lists.specs.Streams.{Stream}

pub data Pairs : Type 0 where
  -- a value for ever
  ever : ℕ → Pairs
  -- a value, how often it comes, and what comes then
  run : ℕ → ℕ → Pairs → Pairs

-- the endless list that pairs stand for
unfoldable pub expand : Pairs → Stream
expand (ever v) i = v
expand (run v c r) i = cond (ltb i c) v (expand r (i - c))

-- the first value
unfoldable pub top : Pairs → ℕ
top (ever v) = v
top (run v c r) = v

-- values strictly falling, each that does not last coming at least once
unfoldable pub Canonical : Pairs → Type 0
Canonical (ever v) = Unit {0}
Canonical (run v c r) = (0 < c) × (top r < v) × Canonical r

-- these pairs are the stream's
pub record ArePairs (f : Stream) (r : Pairs) : Type 0 where
  pub canonical : Canonical r
  pub means : (i : ℕ) → expand r i ≡ f i

-- how many pairs come before the last, and how many members they hold
unfoldable pub width : Pairs → ℕ
width (ever v) = 0
width (run v c r) = suc (width r)

unfoldable pub places : Pairs → ℕ
places (ever v) = 0
places (run v c r) = c + places r

-- ---- the pairs of a stream

-- one more member in front
unfoldable pub in_front : ℕ → Pairs → Pairs
in_front x (ever v) = cond (eqb x v) (ever v) (run x 1 (ever v))
in_front x (run v c r) = cond (eqb x v) (run v (suc c) r) (run x 1 (run v c r))

unfoldable pub tail : Stream → Stream
tail f i = f (suc i)

-- of a stream that is constant from place P on
unfoldable pub pairs : Stream → ℕ → Pairs
pairs f zero = ever (f 0)
pairs f (suc P) = in_front (f 0) (pairs (tail f) P)

-- the numbers that the list call writes, value then count; the last count is 0, for ever
unfoldable pub numbers : Pairs → List ℕ
numbers (ever v) = v ∷ 0 ∷ []
numbers (run v c r) = v ∷ c ∷ numbers r
