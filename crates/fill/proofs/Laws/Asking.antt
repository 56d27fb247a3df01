-- Question 15, and the questions of both calls: as the program puts them, and what they say.
use Rattle.std.specs.Prelude.{◌≡◌, refl, Bool, true, false, not, ◌&&◌, List, [], ◌∷◌, ◌++◌, ℕ, ◌*◌, ◌<◌, ◌≤◌, T, leb, drop}
use Rattle.std.proofs.Common.{ap₂, ◌∙◌}
use Rattle.std.proofs.Math.Path.{sym}
use Rattle.std.proofs.Math.Dec.{leb→le, ltb→lt}
use borrow.Author.Tests.{not-false, not-true}
use Rattle.booleans.specs.Tests.{◌and◌}
use Rattle.booleans.specs.Laws.{and_is, both}
use Rattle.table.specs.Numbers.{first_paired_symbol, record_length}
use Rattle.table.specs.Table.{each, record_count}
use Rattle.table.specs.Asking.{Question, ◌asks◌, first_no}
use Rattle.table.specs.Checking.{questions, refusal}
use Rattle.table.proofs.Laws.Asking.{Yes, all_yes, numbered, passed, passes, stops}
use Rattle.table.proofs.Laws.Refusal.{check-passed, check-passes, check-stops}
use Rattle.table.proofs.Laws.Reading.{each_at}
use Rattle.values.specs.Values.{ceiling}
use Rattle.fill.specs.Answers.{both_ask, fillable, question15, record_free}

-- ---- as the program puts it

-- the symbol and the number alone
unfoldable pub number_allowed : (s x : ℕ) → Bool
number_allowed s x = fillable s and leb x (ceiling s)

pub number-told : (s x c : ℕ) (r : Bool) → r ≡ fillable s → c ≡ ceiling s → (r && leb x c) ≡ number_allowed s x
unfolding number_allowed
number-told s x c r e f = ap₂ (λ a y. a && leb x y) e f ∙ and_is (fillable s) (leb x (ceiling s))

pub number-yes : (s x : ℕ) (r : Bool) → r ≡ number_allowed s x → not r ≡ false → number_allowed s x ≡ true
number-yes s x r e t = sym e ∙ not-false r t

module _ (b : List ℕ) (s x : ℕ) where
  pub number-no : (r : Bool) → r ≡ number_allowed s x → not r ≡ true → false ≡ question15 b s x
  unfolding number_allowed question15 ◌and◌
  number-no r e t = sym (rw (sym e ∙ not-true r t) refl)

  -- as the pass over the records answers
  pub records-told : number_allowed s x ≡ true → (r : Bool) → r ≡ each (record_free s) (record_count b) b → r ≡ question15 b s x
  unfolding number_allowed question15 ◌and◌
  records-told e r f = f ∙ sym (rw e refl)

-- ---- what it says

module _ (b : List ℕ) (s x : ℕ) (q : T (question15 b s x)) where
  pub symbol-is : s < first_paired_symbol
  unfolding question15 fillable
  symbol-is = ltb→lt s first_paired_symbol (both _ _ (both _ _ q).0).0

  pub number_is : x ≤ ceiling s
  unfolding question15
  number_is = leb→le x (ceiling s) (both _ _ (both _ _ q).0).1

  pub record-free : (j : ℕ) → j < record_count b → T (record_free s (drop (record_length * j) b))
  unfolding question15
  record-free j l = each_at record_length (record_free s) (record_count b) b j (both _ _ q).1 l

-- ---- the questions of both calls

module _ (b : List ℕ) (roomy : Bool) (s x : ℕ) where
  pub both-refused : {n : ℕ} → n ≡ refusal b → (n ≡ 0 → ⊥) → n ≡ first_no (both_ask b roomy s x)
  unfolding both_ask
  both-refused e z = sym (check-stops b _ e z)

  module _ (p : refusal b ≡ 0) where
    pub both-short : not roomy ≡ true → 8 ≡ first_no (both_ask b roomy s x)
    unfolding both_ask first_no
    both-short e = sym (check-passes b _ p ∙ rw (not-true roomy e) refl)

    module _ (r : Bool) (q : r ≡ question15 b s x) (e : not roomy ≡ false) where
      pub both-fine : r ≡ true → 0 ≡ first_no (both_ask b roomy s x)
      unfolding both_ask first_no
      both-fine y = sym (check-passes b _ p ∙ rw (not-false roomy e, sym q ∙ y) refl)

      pub both-number : r ≡ false → 15 ≡ first_no (both_ask b roomy s x)
      unfolding both_ask first_no
      both-number y = sym (check-passes b _ p ∙ rw (not-false roomy e, sym q ∙ y) refl)

  -- where none says no
  pub both_yes : first_no (both_ask b roomy s x) ≡ 0 → (refusal b ≡ 0) × (T roomy × T (question15 b s x))
  unfolding both_ask numbered Yes
  both_yes e =
      let (one, k) = check-passed b (8 asks roomy ∷ 15 asks question15 b s x ∷ []) e in
      let y = all_yes (8 asks roomy ∷ 15 asks question15 b s x ∷ []) tt k in
      (one, (y.0, y.1.0))

  -- and others come after them
  pub both-stop : (qs : List Question) {n : ℕ} → n ≡ first_no (both_ask b roomy s x) → (n ≡ 0 → ⊥) → first_no (both_ask b roomy s x ++ qs) ≡ n
  both-stop qs = stops (both_ask b roomy s x) qs

  both-numbered : T (numbered (both_ask b roomy s x))
  unfolding both_ask questions numbered
  both-numbered = tt

  pub both-pass : (qs : List Question) → first_no (both_ask b roomy s x) ≡ 0 → first_no (both_ask b roomy s x ++ qs) ≡ first_no qs
  both-pass qs = passes (both_ask b roomy s x) qs both-numbered

  pub both-passed : (qs : List Question) → first_no (both_ask b roomy s x ++ qs) ≡ 0 → (first_no (both_ask b roomy s x) ≡ 0) × (first_no qs ≡ 0)
  both-passed qs = passed (both_ask b roomy s x) qs both-numbered
