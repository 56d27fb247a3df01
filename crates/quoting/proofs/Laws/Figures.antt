-- What is asked of a table with a desk's values, and what it says of both that the figure call answers a figure.
use Rattle.std.specs.Prelude.{◌≡◌, List, [], ◌∷◌, ℕ, zero, suc, ◌≤◌, T}
use Rattle.std.proofs.Math.Path.{refl, ap}
use Rattle.std.proofs.Common.{sym, ◌∙◌, arith}
use Rattle.booleans.specs.Laws.{T-is}
use Rattle.refusals.specs.Refusals.{Given, Refused, refused}
use Rattle.table.specs.Table.{decode, record_count}
use Rattle.table.specs.Asking.{◌asks◌, by_refusal, first_no}
use Rattle.table.specs.Checking.{refusal}
use Rattle.table.proofs.Laws.Asking.{Yes, all_yes, answered, number_is, numbered, passed, passes, stops}
use Rattle.table.proofs.Laws.Refusal.{check-passed, check-passes}
use Rattle.evaluate.specs.Evaluate.{values_of, figure, branch, fits}
use Rattle.evaluate.proofs.Laws.Monotone.{figure-mono}
use Rattle.values.specs.Values.{NoneLower, value_questions, values_refusal}
use Rattle.quoting.specs.Answers.{check_answer, figure_answer, figure_refusal, quote_of, quote_questions, quoted_branch, quoted_figure}

module _ (b vs : List ℕ) where
  -- a question about the values says no
  pub quote-values : {n : ℕ} → n ≡ values_refusal b vs → (n ≡ 0 → ⊥) → first_no (quote_questions b vs) ≡ n
  unfolding quote_questions values_refusal
  quote-values = stops (value_questions b vs) _

  -- none does, and 10 is asked
  pub quote-fits : values_refusal b vs ≡ 0 → first_no (quote_questions b vs) ≡ first_no (10 asks fits (values_of vs) (decode b) ∷ [])
  unfolding quote_questions values_refusal value_questions numbered
  quote-fits = passes (value_questions b vs) _ tt

  -- the figure call on an accepted table
  pub figure-asked : refusal b ≡ 0 → figure_answer b vs ≡ by_refusal (first_no (quote_questions b vs)) (Given (quote_of b vs)) Refused
  unfolding figure_answer figure_refusal
  figure-asked e = ap (λ x. by_refusal x (Given (quote_of b vs)) Refused) (check-passes b _ e)

  pub figure-is : refusal b ≡ 0 → values_refusal b vs ≡ 0 → T (fits (values_of vs) (decode b)) → figure_answer b vs ≡ Given (quote_of b vs)
  unfolding by_refusal first_no
  figure-is e q f = figure-asked e ∙ rw (quote-fits q, T-is (fits (values_of vs) (decode b)) f) refl

  pub record Figured : Type 0 where
    pub accepted : refusal b ≡ 0
    pub allowed : values_refusal b vs ≡ 0
    pub small : T (fits (values_of vs) (decode b))
    pub is : quoted_figure (figure_answer b vs) ≡ figure (values_of vs) (decode b)
    pub branches : quoted_branch (figure_answer b vs) ≡ branch (values_of vs) (decode b)

  asked : refused (figure_answer b vs) ≡ figure_refusal b vs
  unfolding figure_answer
  asked = number_is refused (figure_refusal b vs) _ Refused refl (λ q. refl)

  pub figured : refused (figure_answer b vs) ≡ 0 → Figured
  unfolding figure_refusal quote_questions values_refusal value_questions quoted_figure quoted_branch numbered Yes
  figured p =
      let (e, m) = check-passed b (quote_questions b vs) (sym asked ∙ p) in
      let (q, l) = passed (value_questions b vs) _ tt m in
      let f = (all_yes (10 asks fits (values_of vs) (decode b) ∷ []) tt l).0 in
      record { accepted = e; allowed = q; small = f; is = ap quoted_figure (figure-is e q f); branches = ap quoted_branch (figure-is e q f) }

-- The figure call answers the same of two accepted tables, each with values of its own, where the questions about values say the same and, where none says
-- no, 10, the figure and the branch are the same.
pub quotes-alike : (b c vs ws : List ℕ) → refusal b ≡ 0 → refusal c ≡ 0 → values_refusal b vs ≡ values_refusal c ws
    → (values_refusal b vs ≡ 0
    → (fits (values_of vs) (decode b) ≡ fits (values_of ws) (decode c)) × ((figure (values_of vs) (decode b) ≡ figure (values_of ws) (decode c)) × (branch (values_of vs) (decode b) ≡ branch (values_of ws) (decode c))))
    → figure_answer b vs ≡ figure_answer c ws
quotes-alike b c vs ws e f q w = figure-asked b vs e ∙ go (values_refusal b vs) refl ∙ sym (figure-asked c ws f)
  where
    go : (n : ℕ) → values_refusal b vs ≡ n → by_refusal (first_no (quote_questions b vs)) (Given (quote_of b vs)) Refused ≡ by_refusal (first_no (quote_questions c ws)) (Given (quote_of c ws)) Refused
    go zero z = let (x, (y, u)) = w z in rw (quote-fits b vs z, quote-fits c ws (sym q ∙ z), x, y, u) refl
    go (suc n) z = unfold by_refusal in rw (quote-values b vs (sym z) (λ k. omega (arith, k)), quote-values c ws (sym z ∙ q) (λ k. omega (arith, k))) refl

-- checking answers an accepted table's number of records
pub checked-accepted : (b : List ℕ) → refusal b ≡ 0 → check_answer b ≡ Given (record_count b)
unfolding check_answer
checked-accepted b e = answered (refusal b) _ Refused e

-- the number of its refusal is the table's
checked-number : (b : List ℕ) → refused (check_answer b) ≡ refusal b
unfolding check_answer
checked-number b = number_is refused (refusal b) _ Refused refl (λ q. refl)

pub checked-no : (b : List ℕ) {q : ℕ} → Refused q ≡ check_answer b → q ≡ refusal b
checked-no b e = ap refused e ∙ checked-number b

pub checked-yes : (b : List ℕ) {n : ℕ} → Given n ≡ check_answer b → refusal b ≡ 0
checked-yes b e = sym (ap refused e ∙ checked-number b)

-- values none lower give no lower figure, where both get one
pub figure-monotone : (b vs ws : List ℕ) → NoneLower vs ws → refused (figure_answer b vs) ≡ 0 → refused (figure_answer b ws) ≡ 0
    → quoted_figure (figure_answer b vs) ≤ quoted_figure (figure_answer b ws)
figure-monotone b vs ws l p q = omega (arith, (figured b vs p).is, (figured b ws q).is, figure-mono (values_of vs) (values_of ws) l (decode b))
