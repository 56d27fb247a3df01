-- Two stretches of bytes, compared word by word.
use Rattle.std.specs.Prelude.{◌≡◌, List, Option, None, Some, ℕ, ◌*◌, ◌%◌, ◌<◌, drop, length, take}

abbrev pub word_length : ℕ
word_length = 8

-- word k of a stretch, counted from 0: its eight bytes
abbrev pub word : ℕ → List ℕ → List ℕ
word k b = take word_length (drop (word_length * k) b)

-- both have the same number of words, and these are whole
abbrev pub SameWords : List ℕ → List ℕ → Type 0
SameWords a b = (length a ≡ length b) × (length a % word_length ≡ 0)

-- what the comparison answers: the first word that differs, or none where every byte agrees
unfoldable pub Compared : List ℕ → List ℕ → Option ℕ → Type 0
Compared a b (Some k) = ((j : ℕ) → j < k → word j a ≡ word j b) × (word k a ≡ word k b → ⊥)
Compared a b None = a ≡ b
