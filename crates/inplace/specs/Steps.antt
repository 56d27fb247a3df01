-- What the steps of sequence and choice in place find and compute.
use Rattle.std.specs.Prelude.{◌≡◌, Bool, ◌&&◌, List, ◌*◌, ◌+◌, ◌-◌, ◌<◌, ◌≤◌, suc, ℕ, eqb, length}
use Rattle.lists.specs.declared.List.{List as Listed}
use Rattle.lists.specs.Reading.{count_at, most_pairs, stored, value_at}

-- k is the first pair whose value is at most v
pub record Under (ps : List ℕ) (len v k : ℕ) : Type 0 where
  pub inside : k < len
  pub above : (j : ℕ) → j < k → v < value_at ps j
  pub under : value_at ps k ≤ v

-- one more pair in front of pair k, and the len pairs of old otherwise
pub record Inserted (old new : List ℕ) (len k v c : ℕ) : Type 0 where
  pub long : length new ≡ 2 * most_pairs
  pub value : value_at new k ≡ v
  pub count : count_at new k ≡ c
  pub values-below : (j : ℕ) → j < k → value_at new j ≡ value_at old j
  pub counts-below : (j : ℕ) → j < k → count_at new j ≡ count_at old j
  pub values-above : (j : ℕ) → k ≤ j → j < len → value_at new (suc j) ≡ value_at old j
  pub counts-above : (j : ℕ) → k ≤ j → j < len → count_at new (suc j) ≡ count_at old j

-- the first `left` members of pair k, none or not all of them, raised by v: they are a pair more, in front of it
pub record Parted (old new : Listed) (k v left : ℕ) : Type 0 where
  pub whole : left ≡ 0 → new ≡ old
  pub longer : (left ≡ 0 → ⊥) → new.len ≡ old.len + 1
  pub parts : (left ≡ 0 → ⊥) → let x = value_at old.pairs k in
      Inserted (stored old.pairs k x (count_at old.pairs k - left)) new.pairs old.len k (x + v) left

-- a list of so many pairs is one run, and 0 after
abbrev pub is_run : List ℕ → ℕ → Bool
is_run ps len = eqb len 2 && eqb (value_at ps 1) 0
