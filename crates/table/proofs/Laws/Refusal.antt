-- The refusal's number, by the answers to the questions in their order; and what is put after them.
use Rattle.std.specs.Prelude.{◌≡◌, Bool, Option, None, Some, List, [], ◌∷◌, ◌++◌, ℕ, ◌*◌, ◌≤◌, leb, length}
use Rattle.std.proofs.Math.Path.{refl}
use Rattle.std.proofs.Common.{ap, arith}
use Rattle.std.proofs.Math.Bool.{true, false}
use Rattle.std.proofs.Math.Dec.{leb→le}
use Rattle.booleans.specs.Laws.{both, is_T}
use Rattle.table.specs.declared.Survey.{Survey}
use Rattle.table.specs.Numbers.{record_length, most_records, most_weight}
use Rattle.table.specs.Bytes.{AreBytes}
use Rattle.table.specs.Table.{decode}
use Rattle.table.specs.Asking.{Question, ◌asks◌, first_no}
use Rattle.table.specs.Checking.{question1, question2, question3, question4, question6, question7, questions, refusal}
use Rattle.table.specs.Survey.{survey_refusal}
use Rattle.table.proofs.Laws.Asking.{numbered, passed, passes, stops}
use Rattle.table.proofs.Laws.RoundTrip.{length-encode}
use Rattle.table.proofs.Laws.Accepted.{is-table}
use Rattle.table.proofs.Laws.Survey.{Answers}

module _ (b : List ℕ) where
  pub no-1 : question1 b ≡ false → 1 ≡ refusal b
  unfolding refusal questions first_no
  no-1 e = rw e refl

  pub short : question1 b ≡ true → length b ≤ record_length * most_records
  unfolding question1
  short e = leb→le _ _ (both _ _ (is_T _ e)).1

  module _ (one : question1 b ≡ true) where
    pub no-2 : question2 b ≡ false → 2 ≡ refusal b
    unfolding refusal questions first_no
    no-2 e = rw (one, e) refl

    module _ (two : question2 b ≡ true) where
      pub no-3 : question3 b ≡ false → 3 ≡ refusal b
      unfolding refusal questions first_no
      no-3 e = rw (one, two, e) refl

      module _ (three : question3 b ≡ true) where
        pub no-4 : question4 b ≡ false → 4 ≡ refusal b
        unfolding refusal questions first_no
        no-4 e = rw (one, two, three, e) refl

        -- and 5 to 7 by the walk
        pub surveyed : question4 b ≡ true → (found : Option Survey) → Answers b found → survey_refusal found ≡ refusal b
        unfolding refusal questions first_no
        surveyed four None a = rw (one, two, three, four, a.five) refl
        surveyed four (Some s) a = go s.named (leb s.weight most_weight) (a.six s refl) (a.seven s refl)
          where
            go : (y z : Bool) → question6 b ≡ y → question7 b ≡ z → first_no (6 asks y ∷ 7 asks z ∷ []) ≡ first_no (questions b)
            go true true f g = rw (one, two, three, four, a.five, f, g) refl
            go true false f g = rw (one, two, three, four, a.five, f, g) refl
            go false z f g = rw (one, two, three, four, a.five, f) refl

-- a table that is not refused is short
pub accepted-short : (b : List ℕ) → AreBytes b → refusal b ≡ 0 → length b ≤ record_length * most_records
accepted-short b h e = let t = is-table b h e in omega (arith, ap length t.back, length-encode (decode b), t.accepted.short)

-- ---- other questions after these

pub check-stops : (b : List ℕ) (qs : List Question) {n : ℕ} → n ≡ refusal b → (n ≡ 0 → ⊥) → first_no (questions b ++ qs) ≡ n
unfolding refusal
check-stops b qs = stops (questions b) qs

pub check-passes : (b : List ℕ) (qs : List Question) → refusal b ≡ 0 → first_no (questions b ++ qs) ≡ first_no qs
unfolding refusal questions numbered
check-passes b qs = passes (questions b) qs tt

pub check-passed : (b : List ℕ) (qs : List Question) → first_no (questions b ++ qs) ≡ 0 → (refusal b ≡ 0) × (first_no qs ≡ 0)
unfolding refusal questions numbered
check-passed b qs = passed (questions b) qs tt
