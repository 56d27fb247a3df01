-- Document 01, "Questions put to a call": numbered questions in the order in which they are put, the first that says no, and the answer by its number.
use Rattle.std.specs.Prelude.{Bool, true, false, List, [], ◌∷◌, ℕ, zero, suc}

-- a question: its number, and whether it says yes
infix 70 ◌asks◌
pub data Question : Type 0 where
  ◌asks◌ : (number : ℕ) (yes : Bool) → Question

-- the number of the first that says no, or 0
unfoldable pub first_no : List Question → ℕ
first_no [] = 0
first_no (n asks true ∷ qs) = first_no qs
first_no (n asks false ∷ qs) = n

-- an answer by that number: what was asked for where it is 0, else the refusal
unfoldable pub by_refusal {ℓ} : {A : Type ℓ} → (number : ℕ) (asked : A) (refused : ℕ → A) → A
by_refusal zero asked refused = asked
by_refusal (suc n) asked refused = refused (suc n)
