-- The table of triangular numbers, and values with theirs.
use Rattle.std.specs.Prelude.{◌≡◌, List, [], ◌∷◌, ℕ, zero, suc, ◌+◌, ◌<◌, get_or, length}
use Rattle.triangular.specs.Triangular.{most_triangular, rule, triangular}

-- n values of f, from i on
abbrev pub listed : (ℕ → ℕ) → ℕ → ℕ → List ℕ
listed f i zero = []
listed f i (suc n) = f i ∷ listed f (suc i) n

-- the rule's values, of 0 to the largest
unfoldable pub entries : List ℕ
entries = listed rule 0 (suc most_triangular)

-- the values at the front, and the triangular number of each behind them
pub record Triangles (values out : List ℕ) : Type 0 where
  pub own : (k : ℕ) → k < length values → get_or out k 0 ≡ get_or values k 0
  pub behind : (k : ℕ) → k < length values → get_or out (length values + k) 0 ≡ triangular (get_or values k 0)
