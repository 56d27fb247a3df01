-- What the numbers of a probe say.
use Rattle.std.specs.Prelude.{◌≡◌, List, None, Some, ℕ, zero, suc, get_or, length, take}
use Rattle.words.specs.Words.{Compared, SameWords}

-- verdict and word: 0 equal, 1 the first word that differs, 2 where the stretches are not the same number of whole words
unfoldable pub Probed : List ℕ → List ℕ → ℕ → ℕ → Type 0
Probed a b zero k = SameWords a b × (Compared a b None × (k ≡ 0))
Probed a b (suc zero) k = SameWords a b × Compared a b (Some k)
Probed a b (suc (suc zero)) k = (SameWords a b → ⊥) × (k ≡ 0)
Probed a b (suc (suc (suc n))) k = ⊥

-- verdict and byte: 0 equal, 1 the first byte that differs, 2 where the stretches are not equally long
unfoldable pub ProbedBytes : List ℕ → List ℕ → ℕ → ℕ → Type 0
ProbedBytes a b zero k = (a ≡ b) × (k ≡ 0)
ProbedBytes a b (suc zero) k = (length a ≡ length b) × ((take k a ≡ take k b) × (get_or a k 0 ≡ get_or b k 0 → ⊥))
ProbedBytes a b (suc (suc zero)) k = (length a ≡ length b → ⊥) × (k ≡ 0)
ProbedBytes a b (suc (suc (suc n))) k = ⊥
