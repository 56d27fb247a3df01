-- Every former table of whole records is answered as before, once it is made into a table with address 0, where question 7 passes that and each
-- later value equals its first.
use Rattle.std.proofs.Math.Path.{◌≡◌, refl, ap₂}
use Rattle.std.proofs.Common.{ap, subst, ◌∙◌}
use Rattle.std.specs.Prelude.{false, true, List, [], ◌∷◌, ◌++◌, ℕ, zero, suc, ◌≤◌, ◌%◌, length}
use Rattle.std.proofs.Math.Dec.{T, leb}
use Rattle.booleans.specs.Laws.{T-is, both, join-and}
use Rattle.refusals.specs.Refusals.{Given, Refused}
use Rattle.table.specs.Asking.{Question, ◌asks◌, by_refusal, first_no}
use Rattle.table.specs.Checking.{limit_count, question7, record_in_range, refusal}
use Rattle.table.specs.Limits.{most_holds}
use Rattle.table.specs.Numbers.{list_room}
use Rattle.table.specs.Questions.{kind_in_range}
use Rattle.table.specs.Table.{decode, each_by, top}
use Rattle.table.specs.Trees.{Forest, every_node, every_node_in, nil, ◌▸◌}
use Rattle.table.proofs.Laws.EveryNode.{forest-nodes}
use Rattle.table.proofs.Laws.Asking.{Yes, all_yes, by-refusals, left_out, numbered, passed}
use Rattle.lists.specs.Pairs.{Pairs, numbers, width}
use Rattle.evaluate.specs.Evaluate.{Values, fits, values_of}
use Rattle.evaluate.specs.ListPairs.{list_pairs}
use Rattle.values.specs.Values.{question13, question14, record_small, triangle_small, value_questions}
use Rattle.quoting.specs.Answers.{check_answer, figure_answer, figure_refusal, list_answer, list_refusal, list_writes, quote_questions}
use Rattle.quoting.proofs.Laws.Evaluated.{quote_found}
use Rattle.former.specs.Former.{former_count, former_length, former_node, former_questions, former_refusal, former_tree}
use Rattle.former.specs.Converted.{new_record, new_table}
use Rattle.former.proofs.Laws.Records.{same-node}
use Rattle.former.proofs.Laws.Converted.{same_count, same-each, same-questions, same-refusal, same-tree}
use Rattle.formerquotes.specs.Evaluation.{former_fits, former_pairs}
use Rattle.formerquotes.specs.Answers.{Agrees, former_check_answer, former_list_refusal, former_list_answer, former_figure_answer, former_quote_questions, former_question9, former_list_writes, with_laters}
use Rattle.formerquotes.proofs.Laws.Evaluation.{branch-was, figure-was, fits-was, in_range, pairs-was}
use Rattle.formerquotes.proofs.Laws.Values.{fourteen-now, nine-was, repeats, thirteen-was}

-- ---- question 3, of the tree's nodes

top-ranged : (f : Forest) → T (every_node_in in_range f) → T (every_node in_range (top f))
unfolding top every_node kind_in_range limit_count
top-ranged nil h = join-and _ _ (join-and _ _ tt tt) tt
top-ranged (t ▸ f) h = (both _ _ h).0

-- ---- questions after questions that say yes

after : (qs rs ss : List Question) → (first_no qs ≡ 0 → first_no rs ≡ first_no ss) → first_no (qs ++ rs) ≡ first_no (qs ++ ss)
unfolding first_no
after [] rs ss h = h refl
after (k asks true ∷ qs) rs ss h = after qs rs ss h
after (k asks false ∷ qs) rs ss h = refl

-- 7 after them, where it says no
seven-last : (n : ℕ) (qs : List Question) → T (numbered qs) → by_refusal (first_no (qs ++ 7 asks false ∷ [])) (Given n) Refused ≡ Refused (by_refusal (first_no qs) 7 (λ q. q))
unfolding first_no by_refusal numbered
seven-last n [] h = refl
seven-last n (zero asks q ∷ qs) h = absurd h
seven-last n (suc k asks true ∷ qs) h = seven-last n qs h
seven-last n (suc k asks false ∷ qs) h = refl

-- 13 of a record
same-small : (v : Values) (b r : List ℕ) → former_length ≤ length b → record_small v (new_record b ++ r) ≡ record_small v b
unfolding record_small former_node
same-small v b r l = ap (λ n. most_holds (triangle_small v) n.limit) (same-node b r l)

module _ (b : List ℕ) where
  each-ranged : former_refusal b ≡ 0 → T (each_by former_length record_in_range (former_count b) b)
  unfolding former_refusal former_questions numbered Yes
  each-ranged e = (all_yes (former_questions b) tt e).1.1.0

  nodes-ranged : former_refusal b ≡ 0 → T (every_node in_range (former_tree b))
  unfolding former_tree former_node record_in_range
  nodes-ranged e = top-ranged _ (subst T (forest-nodes in_range former_length former_node (former_count b) b) (each-ranged e))

  module _ (vs : List ℕ) where
    thirteen : former_refusal b ≡ 0 → T (former_question9 vs) → question13 (new_table b) (with_laters vs) ≡ each_by former_length (record_small (values_of vs)) (former_count b) b
    unfolding question13
    thirteen e l =
        let w = values_of (with_laters vs) in
        same-each b (record_small w) (record_small w) (same-small w) ∙ thirteen-was (values_of vs) w (repeats vs l) (former_count b) b (each-ranged e)

    ten : former_refusal b ≡ 0 → T (former_question9 vs) → fits (values_of (with_laters vs)) (decode (new_table b)) ≡ former_fits (values_of vs) (former_tree b)
    ten e l = ap (fits (values_of (with_laters vs))) (same-tree b) ∙ fits-was (values_of vs) (values_of (with_laters vs)) (repeats vs l) (former_tree b) (nodes-ranged e)

    -- the questions about a desk's values
    quoting-was : former_refusal b ≡ 0 → first_no (quote_questions (new_table b) (with_laters vs)) ≡ first_no (former_quote_questions b vs)
    unfolding quote_questions value_questions former_quote_questions numbered Yes
    quoting-was e =
        rw (nine-was vs)
        (after (9 asks former_question9 vs ∷ []) _ _ (λ y.
        let l : T (former_question9 vs) = (all_yes (9 asks former_question9 vs ∷ []) tt y).0 in
        ap₂ (λ p q. first_no (13 asks p ∷ 14 asks question14 (with_laters vs) ∷ 10 asks q ∷ [])) (thirteen e l) (ten e l)
        ∙ left_out (13 asks each_by former_length (record_small (values_of vs)) (former_count b) b ∷ []) (10 asks former_fits (values_of vs) (former_tree b) ∷ []) 14 (T-is _ (fourteen-now vs l))))

    -- what they let pass
    values-passed : first_no (former_quote_questions b vs) ≡ 0 → T (former_question9 vs)
    unfolding former_quote_questions numbered Yes
    values-passed e = (all_yes (former_quote_questions b vs) tt e).0

    module _ (h : length b % former_length ≡ 0) (y : T (question7 (new_table b))) where
      figure-refusal : figure_refusal (new_table b) (with_laters vs) ≡ first_no (former_questions b ++ former_quote_questions b vs)
      unfolding figure_refusal former_refusal
      figure-refusal = rw (same-questions b h y) (after (former_questions b) _ _ quoting-was)

      list-refusal : (out : List ℕ) → list_refusal (new_table b) (with_laters vs) out ≡ former_list_refusal b vs out
      unfolding list_refusal former_list_refusal former_refusal
      list-refusal out =
          rw (same-questions b h y)
          (after (former_questions b) _ _ (λ e. after (8 asks leb list_room (length out) ∷ []) (quote_questions (new_table b) (with_laters vs)) (former_quote_questions b vs) (λ i. quoting-was e)))

      -- where nothing is refused
      figure-passed : first_no (former_questions b ++ former_quote_questions b vs) ≡ 0 → (former_refusal b ≡ 0) × T (former_question9 vs)
      unfolding former_refusal former_questions numbered
      figure-passed e = let (x, z) = passed (former_questions b) (former_quote_questions b vs) tt e in (x, values-passed z)

      list-passed : (out : List ℕ) → former_list_refusal b vs out ≡ 0 → (former_refusal b ≡ 0) × T (former_question9 vs)
      unfolding former_list_refusal former_refusal former_questions numbered
      list-passed out e =
          let (x, z) = passed (former_questions b) (8 asks leb list_room (length out) ∷ former_quote_questions b vs) tt e in
          (x, values-passed (passed (8 asks leb list_room (length out) ∷ []) (former_quote_questions b vs) tt z).1)

      quoted-was : figure_answer (new_table b) (with_laters vs) ≡ former_figure_answer b vs
      unfolding figure_answer former_figure_answer
      quoted-was =
          rw (figure-refusal, same-tree b)
          (by-refusals ◌≡◌ (first_no (former_questions b ++ former_quote_questions b vs)) _ _ _ _
          (λ e.
          let (r, l) = figure-passed e in
          ap₂ (λ x c. Given (quote_found x c)) (figure-was (values_of vs) (values_of (with_laters vs)) (repeats vs l) (former_tree b) (nodes-ranged r)) (branch-was (values_of vs) (values_of (with_laters vs)) (repeats vs l) (former_tree b) (nodes-ranged r)))
          (λ z. refl))

      -- whatever is taken of the list's pairs
      of-pairs : (A : Type 0) (f : Pairs → A) (g : ℕ → A) (out : List ℕ)
          → by_refusal (list_refusal (new_table b) (with_laters vs) out) (f (list_pairs (values_of (with_laters vs)) (decode (new_table b)))) g
          ≡ by_refusal (former_list_refusal b vs out) (f (former_pairs (values_of vs) (former_tree b))) g
      of-pairs A f g out =
          rw (list-refusal out, same-tree b)
          (by-refusals ◌≡◌ (former_list_refusal b vs out) _ _ _ _
          (λ e. let (r, l) = list-passed out e in ap f (pairs-was (values_of vs) (values_of (with_laters vs)) (repeats vs l) (former_tree b) (nodes-ranged r)))
          (λ z. refl))

  module _ (h : length b % former_length ≡ 0) where
    checked-was : T (question7 (new_table b)) → check_answer (new_table b) ≡ former_check_answer b
    unfolding check_answer former_check_answer refusal former_refusal
    checked-was y = rw (same-questions b h y, same_count b) refl

    heavier-now : question7 (new_table b) ≡ false → check_answer (new_table b) ≡ Refused (by_refusal (former_refusal b) 7 (λ q. q))
    unfolding check_answer former_refusal
    heavier-now e = rw (same-refusal b h, e) (seven-last _ (former_questions b) (unfold numbered in unfold former_questions in tt))

    pub agrees : Agrees b
    agrees = record {
      same = λ y. record {
        checked = checked-was y;
        quoted = λ vs. quoted-was vs h y;
        listed = λ vs out. unfold list_answer in unfold former_list_answer in of-pairs vs h y _ (λ p. Given (suc (width p))) Refused out;
        written = λ vs out. unfold list_writes in unfold former_list_writes in of-pairs vs h y _ numbers (λ q. []) out;
      };
      heavier = heavier-now;
    }
