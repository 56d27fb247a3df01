-- The first no of questions put one after the other, and the answer by it.
use Rattle.std.specs.Prelude.{◌≡◌, refl, Bool, true, false, List, [], ◌∷◌, ◌++◌, ℕ, zero, suc, T}
use Rattle.std.proofs.Common.{ap, sym, arith}
use Rattle.table.specs.Asking.{Question, ◌asks◌, by_refusal, first_no}

-- ---- all of them

-- none has number 0, which is to say that there is no refusal
unfoldable pub numbered : List Question → Bool
numbered [] = true
numbered (zero asks q ∷ qs) = false
numbered (suc n asks q ∷ qs) = numbered qs

unfoldable pub Yes : List Question → Type 0
Yes [] = Unit {0}
Yes (n asks q ∷ qs) = T q × Yes qs

pub yes-all : (qs : List Question) → Yes qs → first_no qs ≡ 0
unfolding first_no Yes
yes-all [] h = refl
yes-all (n asks true ∷ qs) h = yes-all qs h.1
yes-all (n asks false ∷ qs) h = absurd h.0

pub all_yes : (qs : List Question) → T (numbered qs) → first_no qs ≡ 0 → Yes qs
unfolding first_no numbered Yes
all_yes [] h e = tt
all_yes (zero asks q ∷ qs) h e = absurd h
all_yes (suc n asks true ∷ qs) h e = (tt, all_yes qs h e)
all_yes (suc n asks false ∷ qs) h e = absurd (omega arith)

-- ---- some, then others

-- a no among the first stands
pub stops : (qs rs : List Question) {n : ℕ} → n ≡ first_no qs → (n ≡ 0 → ⊥) → first_no (qs ++ rs) ≡ n
unfolding first_no
stops [] rs e z = absurd (z e)
stops (k asks true ∷ qs) rs e z = stops qs rs e z
stops (k asks false ∷ qs) rs e z = sym e

-- where the first say yes, the others are put
pub passes : (qs rs : List Question) → T (numbered qs) → first_no qs ≡ 0 → first_no (qs ++ rs) ≡ first_no rs
unfolding first_no numbered
passes [] rs h e = refl
passes (zero asks q ∷ qs) rs h e = absurd h
passes (suc n asks true ∷ qs) rs h e = passes qs rs h e
passes (suc n asks false ∷ qs) rs h e = absurd (omega arith)

-- where none says no, neither do the first nor the others
pub passed : (qs rs : List Question) → T (numbered qs) → first_no (qs ++ rs) ≡ 0 → (first_no qs ≡ 0) × (first_no rs ≡ 0)
unfolding first_no numbered
passed [] rs h e = (refl, e)
passed (zero asks q ∷ qs) rs h e = absurd h
passed (suc n asks true ∷ qs) rs h e = passed qs rs h e
passed (suc n asks false ∷ qs) rs h e = absurd (omega arith)

-- the first no of the first, or else of the others
pub in-turn : (qs rs : List Question) → T (numbered qs) → first_no (qs ++ rs) ≡ by_refusal (first_no qs) (first_no rs) (λ n. n)
unfolding first_no numbered by_refusal
in-turn [] rs h = refl
in-turn (zero asks q ∷ qs) rs h = absurd h
in-turn (suc n asks true ∷ qs) rs h = in-turn qs rs h
in-turn (suc n asks false ∷ qs) rs h = refl

-- a yes may be left out
pub left_out : (qs rs : List Question) (n : ℕ) {q : Bool} → q ≡ true → first_no (qs ++ n asks q ∷ rs) ≡ first_no (qs ++ rs)
unfolding first_no
left_out [] rs n e = rw e refl
left_out (k asks true ∷ qs) rs n e = left_out qs rs n e
left_out (k asks false ∷ qs) rs n e = refl

-- ---- the answer by the number

pub answered {ℓ} : {A : Type ℓ} (n : ℕ) (x : A) (f : ℕ → A) → n ≡ 0 → by_refusal n x f ≡ x
unfolding by_refusal
answered n x f e = rw e refl

pub refused {ℓ} : {A : Type ℓ} (n : ℕ) (x : A) (f : ℕ → A) {q : ℕ} → n ≡ q → (q ≡ 0 → ⊥) → by_refusal n x f ≡ f q
unfolding by_refusal
refused zero x f e z = absurd (z (sym e))
refused (suc n) x f e z = ap f e

-- the number that an answer tells
pub number_is {ℓ} : {A : Type ℓ} (number : A → ℕ) (n : ℕ) (x : A) (f : ℕ → A) → number x ≡ 0 → ((q : ℕ) → number (f q) ≡ q) → number (by_refusal n x f) ≡ n
unfolding by_refusal
number_is number zero x f e g = e
number_is number (suc n) x f e g = g (suc n)

-- what holds of two answers by one number
pub by-refusals {ℓ κ μ} : {A : Type ℓ} {B : Type κ} (Q : A → B → Type μ) (n : ℕ) (x : A) (f : ℕ → A) (y : B) (g : ℕ → B)
    → (n ≡ 0 → Q x y) → ((n ≡ 0 → ⊥) → Q (f n) (g n)) → Q (by_refusal n x f) (by_refusal n y g)
unfolding by_refusal
by-refusals Q zero x f y g a r = a refl
by-refusals Q (suc n) x f y g a r = r (λ e. omega (arith, e))
