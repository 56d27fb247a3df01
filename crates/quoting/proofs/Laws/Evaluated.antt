-- What the evaluator's walk finds of a table, as the figure call and the list call answer it.
use Rattle.std.specs.Prelude.{◌≡◌, Bool, true, false, List, [], ◌∷◌, T, length}
use Rattle.std.proofs.Math.Path.{refl, sym, ap}
use Rattle.std.proofs.Common.{ap₂, ◌∙◌, arith, le-leb}
use Prim.Native.Nat.{ℕ, suc, ◌≤◌, ◌<◌}
use Rattle.std.proofs.lemmas.Bool.{lt-leb}
use Rattle.booleans.specs.Laws.{is_T}
use Rattle.refusals.specs.Refusals.{Answer, Given, Refused}
use Rattle.table.specs.Numbers.{most_depth, list_room}
use Rattle.table.specs.Bytes.{AreBytes}
use Rattle.table.specs.Table.{decode}
use Rattle.table.specs.Asking.{◌asks◌, first_no}
use Rattle.table.specs.Checking.{IsTable, refusal}
use Rattle.table.specs.Limits.{every_most}
use Rattle.table.proofs.Laws.Accepted.{is-table}
use Rattle.table.proofs.Laws.Asking.{refused}
use Rattle.table.proofs.Laws.Refusal.{check-passes, check-stops}
use Rattle.lists.specs.Pairs.{top, width, numbers}
use Rattle.evaluate.specs.Evaluate.{Values, fits, values_of}
use Rattle.evaluate.specs.ListPairs.{list_pairs}
use Rattle.evaluate.specs.Evaluator.{Agree, alike, evaluate_node}
use Rattle.evaluate.proofs.Laws.Evaluator.{Evaluated, evaluated-table}
use Rattle.quoting.specs.declared.Quote.{Quote}
use Rattle.values.specs.Values.{values_refusal}
use Rattle.writing.specs.Over.{over}
use Rattle.quoting.specs.Answers.{figure_answer, figure_refusal, list_answer, list_refusal, list_writes, quote_questions}
use Rattle.quoting.proofs.Laws.Answers.{refuses, writes}
use Rattle.quoting.proofs.Laws.Figures.{figure-is, quote-fits}
use Rattle.values.proofs.Laws.Values.{counts-ranged, values-nine}

-- ---- the walk answers question 10

abbrev pub quote_found : (x c : ℕ) → Quote
quote_found x c = record { figure = x; branch = c }

module _ (b vs : List ℕ) (e : refusal b ≡ 0) (h : AreBytes b) (q : values_refusal b vs ≡ 0) (u : Values) (a : Agree u (values_of vs)) (y : IsTable b → T (every_most (alike u (values_of vs)) (decode b))) where
  walk : Evaluated (values_of vs) (decode b) (evaluate_node u most_depth b)
  walk = evaluated-table u (values_of vs) a (counts-ranged vs (values-nine b vs q)) b h e (y (is-table b h e))

  quote-walked : {x : Bool} → (evaluate_node u most_depth b).fits ≡ x → first_no (quote_questions b vs) ≡ first_no (10 asks x ∷ [])
  quote-walked n = quote-fits b vs q ∙ ap (λ x. first_no (10 asks x ∷ [])) (sym walk.fits ∙ n)

  pub quote-large : (evaluate_node u most_depth b).fits ≡ false → first_no (quote_questions b vs) ≡ 10
  unfolding first_no
  quote-large = quote-walked

  pub quote-found : (evaluate_node u most_depth b).fits ≡ true → first_no (quote_questions b vs) ≡ 0
  unfolding first_no
  quote-found = quote-walked

  pub figure-found : (evaluate_node u most_depth b).fits ≡ true → Given (quote_found (top (evaluate_node u most_depth b).pairs) (evaluate_node u most_depth b).branch) ≡ figure_answer b vs
  figure-found n =
      let f = is_T (fits (values_of vs) (decode b)) (sym walk.fits ∙ n) in
      ap₂ (λ x c. Given (quote_found x c)) (walk.figure f) (walk.branch f) ∙ sym (figure-is b vs e q f)

-- ---- the figure call

module _ (b vs : List ℕ) where
  pub figure-refused : {n : ℕ} → n ≡ refusal b → (n ≡ 0 → ⊥) → Refused n ≡ figure_answer b vs
  unfolding figure_answer figure_refusal
  figure-refused e z = sym (refused _ _ Refused (check-stops b (quote_questions b vs) e z) z)

  pub figure-no : refusal b ≡ 0 → {n : ℕ} → first_no (quote_questions b vs) ≡ n → (n ≡ 0 → ⊥) → Refused n ≡ figure_answer b vs
  unfolding figure_answer figure_refusal
  figure-no e f z = sym (refused _ _ Refused (check-passes b _ e ∙ f) z)

-- ---- the list call

module _ (b vs out : List ℕ) where
  -- what it answers, and what its buffer then holds
  abbrev pub Lists : Answer ℕ → (new : List ℕ) → Type 0
  Lists r new = (r ≡ list_answer b vs out) × (new ≡ over (list_writes b vs out) out)

  by-refusal : {n : ℕ} → list_refusal b vs out ≡ n → (n ≡ 0 → ⊥) → Lists (Refused n) out
  unfolding list_answer list_writes
  by-refusal = refuses _ _ Refused _ out

  pub list-refused : {n : ℕ} → n ≡ refusal b → (n ≡ 0 → ⊥) → Lists (Refused n) out
  unfolding list_refusal
  list-refused e z = by-refusal (check-stops b _ e z) z

  module _ (e : refusal b ≡ 0) where
    pub list-short : length out < list_room → Lists (Refused 8) out
    unfolding list_refusal first_no
    list-short s = by-refusal (check-passes b _ e ∙ rw (lt-leb list_room (length out) s) refl) (λ z. omega (arith, z))

    module _ (r : list_room ≤ length out) where
      asked : list_refusal b vs out ≡ first_no (quote_questions b vs)
      unfolding list_refusal first_no
      asked = check-passes b _ e ∙ rw (le-leb list_room (length out) r) refl

      pub list-no : {n : ℕ} → first_no (quote_questions b vs) ≡ n → (n ≡ 0 → ⊥) → Lists (Refused n) out
      list-no f z = by-refusal (asked ∙ f) z

      pub list-found : (h : AreBytes b) (q : values_refusal b vs ≡ 0) (u : Values) (a : Agree u (values_of vs)) (y : IsTable b → T (every_most (alike u (values_of vs)) (decode b))) → (evaluate_node u most_depth b).fits ≡ true
          → {k : ℕ} {ns new : List ℕ} → let p = (evaluate_node u most_depth b).pairs in
          k ≡ suc (width p) → ns ≡ numbers p → new ≡ over ns out → Lists (Given k) new
      unfolding list_answer list_writes
      list-found h q u a y n l w i =
          let p : (evaluate_node u most_depth b).pairs ≡ list_pairs (values_of vs) (decode b) = (walk b vs e h q u a y).pairs (is_T _ (sym (walk b vs e h q u a y).fits ∙ n)) in
          writes _ _ Refused _ out (asked ∙ quote-found b vs e h q u a y n) (ap Given (l ∙ ap (λ x. suc (width x)) p)) (i ∙ ap (λ x. over x out) (w ∙ ap numbers p))
