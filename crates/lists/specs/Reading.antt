-- What a program's list holds: pairs in an array, value and count by turns.
use Rattle.std.specs.Prelude.{◌≡◌, Bool, ◌&&◌, cond, not, List, ◌*◌, ◌+◌, ◌-◌, ◌<◌, ◌^◌, ◌≤◌, suc, zero, ℕ, eqb, leb, ltb, get_or, length, set}
use Rattle.lists.specs.declared.Head.{Head}
use Rattle.lists.specs.declared.List.{List as Listed}
use Rattle.lists.specs.declared.Place.{Place}
use Rattle.lists.specs.Pairs.{Canonical, Pairs, ever, places, run, top, width}
use Rattle.lists.specs.Operations.{joined, some}

-- as MOST_PAIRS
abbrev pub most_pairs : ℕ
most_pairs = 256

-- a list in a lent array
abbrev pub list_in : List ℕ → ℕ → Listed
list_in ps n = record { pairs = ps; len = n }

-- the value of pair k, and how often it comes
unfoldable pub value_at : List ℕ → ℕ → ℕ
value_at ps k = get_or ps (2 * k) 0

unfoldable pub count_at : List ℕ → ℕ → ℕ
count_at ps k = get_or ps (2 * k + 1) 0

-- the array with pair k stored
unfoldable pub stored : List ℕ → ℕ → ℕ → ℕ → List ℕ
stored ps k v c = set (set ps (2 * k) v) (2 * k + 1) c

-- n pairs from pair i on, and then r
unfoldable pub runs_then : List ℕ → ℕ → ℕ → Pairs → Pairs
runs_then ps i zero r = r
runs_then ps i (suc n) r = run (value_at ps i) (count_at ps i) (runs_then ps (suc i) n r)

-- a list's pairs: the last is for ever
unfoldable pub pairs_of : Listed → Pairs
pairs_of l = runs_then l.pairs 0 (l.len - 1) (ever (value_at l.pairs (l.len - 1)))

-- what every list keeps; that its array is whole is said, since a lent array's type does not tell a proof
pub record Proper (l : Listed) : Type 0 where
  pub long : length l.pairs ≡ 2 * most_pairs
  pub some : 1 ≤ l.len
  pub room : l.len ≤ most_pairs
  pub ends : count_at l.pairs (l.len - 1) ≡ 0
  pub canonical : Canonical (pairs_of l)

-- a list with these pairs
pub record Is (l : Listed) (p : Pairs) : Type 0 where
  pub proper : Proper l
  pub pairs : pairs_of l ≡ p

-- ---- what the operations ask

pub record Addable (a b : Listed) : Type 0 where
  pub left : Proper a
  pub right : Proper b
  pub narrow : width (pairs_of a) + width (pairs_of b) < most_pairs
  pub low : top (pairs_of a) + top (pairs_of b) < 2 ^ 64

pub record Mergeable (a b : Listed) : Type 0 where
  pub left : Proper a
  pub right : Proper b
  pub narrow : width (pairs_of a) + width (pairs_of b) < most_pairs
  pub few : places (pairs_of a) + places (pairs_of b) < 2 ^ 64

pub record Groupable (a : Listed) (n : ℕ) : Type 0 where
  pub list : Proper a
  pub narrow : 2 * width (pairs_of a) < most_pairs
  pub low : n * top (pairs_of a) < 2 ^ 64

pub record Cappable (a : Listed) : Type 0 where
  pub list : Proper a
  pub narrow : suc (width (pairs_of a)) < most_pairs

pub record Summable (a : Listed) (n : ℕ) : Type 0 where
  pub list : Proper a
  pub low : n * top (pairs_of a) < 2 ^ 64

-- ---- what their steps compute

-- sequence: the place after m members that lie in the pair
unfoldable pub passed : List ℕ → ℕ → ℕ → ℕ → Place
passed ps at left m =
    cond (eqb left 0) (record { at = at; left = 0 })
    (cond (leb left m) (record { at = at + 1; left = count_at ps (at + 1) })
    (record { at = at; left = left - m }))

-- choice: the first pair of a union by the first pairs of the two lists, and how many pairs of each it uses up
unfoldable pub head_of : ℕ → ℕ → ℕ → ℕ → Head
head_of v c w d =
    cond (ltb w v) (record { value = v; count = c; left = 1; right = 0 })
    (cond (ltb v w) (record { value = w; count = d; left = 0; right = 1 })
    (record { value = v; count = joined c d; left = 1; right = 1 }))

-- limit: a pair of count c ends before it
abbrev pub passes_of : ℕ → ℕ → Bool
passes_of c left = not (eqb c 0) && ltb c left

-- whether a pair remains of the value at which the limit falls
unfoldable pub lasts_of : ℕ → ℕ → ℕ
lasts_of zero left = 0
lasts_of (suc v) left = some left

-- limit: the list that ends in pair k, whose value comes `left` times, and is 0 after
unfoldable pub ended : Listed → ℕ → ℕ → Listed
ended l k left =
    let v = value_at l.pairs k in
    let end = k + lasts_of v left in
    list_in (stored (stored l.pairs k v left) end 0 0) (end + 1)
