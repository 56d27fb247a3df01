-- The table that is made of a former one: its tree is the former one's, and each of questions 1 to 7 says of it what it said of that, but for the weight of
-- paired symbols.
use Rattle.std.specs.Prelude.{◌≡◌, Bool, true, false, List, [], ◌∷◌, ◌++◌, ℕ, zero, suc, ◌*◌, ◌≤◌, ◌%◌, leb, eqb, drop}
use Rattle.std.proofs.Math.Path.{refl, ap, sym}
use Rattle.std.proofs.Common.{subst, ◌∙◌, le_trans, le→leb, length-append, length-drop}
use native.Mathlib.Omega.{arith}
use Rattle.std.proofs.Math.Dec.{T, leb→le}
use Rattle.std.proofs.Math.ListN.{length}
use Rattle.booleans.specs.Laws.{T-is, both, join-and, same_test}
use Rattle.table.specs.Asking.{Question, ◌asks◌, first_no}
use Rattle.table.specs.Checking.{fields_listed, question1, question2, question3, question4, question5, question6, question7, questions, record_in_range, record_listed, refusal}
use Rattle.table.specs.Numbers.{most_records, most_weight, record_length}
use Rattle.table.specs.Questions.{unpaired, weight}
use Rattle.table.specs.Table.{decode, each, each_by, forest, forest_by, form_trees, form_trees_by, record_count, top}
use Rattle.former.specs.Former.{former_count, former_length, former_node, former_question1, former_questions, former_refusal, former_six, former_tree, former_weight}
use Rattle.former.specs.Converted.{new_record, new_table, converted}
use Rattle.former.proofs.Laws.Weights.{former-lighter, same-weight}
use Rattle.former.proofs.Laws.Records.{next, record-long, same-children, same-listed, same-node, same-range}

fewer : (n : ℕ) (b : List ℕ) → former_length * suc n ≤ length b → former_length * n ≤ length (drop former_length b)
fewer n b l = rw length-drop (omega arith)

pub converted-long : (n : ℕ) (b : List ℕ) → former_length * n ≤ length b → length (converted n b) ≡ record_length * n
unfolding converted
converted-long zero b l = refl
converted-long (suc n) b l =
    length-append (new_record b) (converted n (drop former_length b))
    ∙ omega (arith, record-long b (omega arith), converted-long n (drop former_length b) (fewer n b l))

-- ---- record after record

pub each_same : (p q : List ℕ → Bool) → ((b r : List ℕ) → former_length ≤ length b → p (new_record b ++ r) ≡ q b) → (n : ℕ) (b : List ℕ) → former_length * n ≤ length b
    → each p n (converted n b) ≡ each_by former_length q n b
unfolding each_by converted
each_same p q h zero b l = refl
each_same p q h (suc n) b l =
    let r = converted n (drop former_length b) in
    rw (h b r (omega arith), next b r (omega arith), each_same p q h n (drop former_length b) (fewer n b l)) refl

form-same : (n k : ℕ) (b : List ℕ) → former_length * n ≤ length b → form_trees n k (converted n b) ≡ form_trees_by former_length n k b
unfolding form_trees_by converted
form-same zero k b l = refl
form-same (suc n) zero b l = refl
form-same (suc n) (suc k) b l =
    let r = converted n (drop former_length b) in
    rw (same-children b r (omega arith), next b r (omega arith)) (form-same n _ (drop former_length b) (fewer n b l))

forest-same : (n : ℕ) (b : List ℕ) → former_length * n ≤ length b → forest n (converted n b) ≡ forest_by former_length former_node n b
unfolding forest_by converted
forest-same zero b l = refl
forest-same (suc n) b l =
    let r = converted n (drop former_length b) in
    rw (same-node b r (omega arith), same-children b r (omega arith), next b r (omega arith), forest-same n (drop former_length b) (fewer n b l)) refl

-- a question that is put again, more strictly
twice : (qs : List Question) (n : ℕ) (p q : Bool) → (T p → T q) → first_no (qs ++ n asks p ∷ []) ≡ first_no ((qs ++ n asks q ∷ []) ++ n asks p ∷ [])
unfolding first_no
twice [] n true true h = refl
twice [] n true false h = absurd (h tt)
twice [] n false true h = refl
twice [] n false false h = refl
twice (k asks true ∷ qs) n p q h = twice qs n p q h
twice (k asks false ∷ qs) n p q h = refl

-- ---- the whole table

module _ (b : List ℕ) where
  whole : former_length * former_count b ≤ length b
  whole = omega arith

  pub same_count : record_count (new_table b) ≡ former_count b
  same_count = rw (converted-long (former_count b) b whole) (omega arith)

  pub same-each : (p q : List ℕ → Bool) → ((c r : List ℕ) → former_length ≤ length c → p (new_record c ++ r) ≡ q c) → each p (record_count (new_table b)) (new_table b) ≡ each_by former_length q (former_count b) b
  same-each p q h = rw same_count (each_same p q h (former_count b) b whole)

  pub same-tree : decode (new_table b) ≡ former_tree b
  unfolding decode former_tree
  same-tree = rw same_count (ap top (forest-same (former_count b) b whole))

  long-enough : T (former_question1 b) → T (question1 (new_table b))
  unfolding former_question1 question1
  long-enough h =
      let (p, s) = both _ _ h in
      let (z, o) = both _ _ p in
      let w = converted-long (former_count b) b whole in
      let few : length b ≤ former_length * most_records = leb→le _ _ s in
      let some : former_length ≤ length b = leb→le _ _ o in
      let even : length (new_table b) % record_length ≡ 0 = omega arith in
      let least : record_length ≤ length (new_table b) = omega arith in
      let most : length (new_table b) ≤ record_length * most_records = omega arith in
      join-and _ _ (join-and _ _ (subst (λ x. T (eqb x 0)) (sym even) tt) (le→leb _ _ least)) (le→leb _ _ most)

  long-before : length b % former_length ≡ 0 → T (question1 (new_table b)) → T (former_question1 b)
  unfolding former_question1 question1
  long-before even h =
      let (p, s) = both _ _ h in
      let (z, o) = both _ _ p in
      let w = converted-long (former_count b) b whole in
      let few : length (new_table b) ≤ record_length * most_records = leb→le _ _ s in
      let some : record_length ≤ length (new_table b) = leb→le _ _ o in
      let least : former_length ≤ length b = omega arith in
      let most : length b ≤ former_length * most_records = omega arith in
      join-and _ _ (join-and _ _ (subst (λ x. T (eqb x 0)) (sym even) tt) (le→leb _ _ least)) (le→leb _ _ most)

  -- questions 1 to 6 say what they said
  first-six : length b % former_length ≡ 0 → questions (new_table b) ≡ former_six b ++ 7 asks question7 (new_table b) ∷ []
  unfolding questions question2 question3 question4 question5 question6
  first-six h =
      let one : question1 (new_table b) ≡ former_question1 b = same_test _ _ (long-before h) long-enough in
      let two = same-each record_listed fields_listed same-listed in
      let three = same-each record_in_range record_in_range same-range in
      let four : form_trees (record_count (new_table b)) 1 (new_table b) ≡ form_trees_by former_length (former_count b) 1 b = rw same_count (form-same (former_count b) 1 b whole) in
      rw (one, two, three, four, same-tree) refl

  seven_is : question7 (new_table b) ≡ leb (weight (former_tree b) 0) most_weight
  unfolding question7
  seven_is = rw same-tree refl

  -- where 7 says yes it said so
  seven-was : T (question7 (new_table b)) → T (leb (former_weight (former_tree b) 0) most_weight)
  seven-was h =
      let now = leb→le (weight (former_tree b) 0) most_weight (subst T seven_is h) in
      le→leb (former_weight (former_tree b) 0) most_weight (le_trans (former-lighter (former_tree b) 0) now)

  pub same-questions : length b % former_length ≡ 0 → T (question7 (new_table b)) → questions (new_table b) ≡ former_questions b
  unfolding former_questions
  same-questions h y = first-six h ∙ ap (λ x. former_six b ++ 7 asks x ∷ []) (T-is _ y ∙ sym (T-is _ (seven-was y)))

  pub same-refusal : length b % former_length ≡ 0 → refusal (new_table b) ≡ first_no (former_questions b ++ 7 asks question7 (new_table b) ∷ [])
  unfolding refusal former_questions
  same-refusal h = ap first_no (first-six h) ∙ twice (former_six b) 7 _ _ seven-was

  pub same-unpaired : length b % former_length ≡ 0 → T (unpaired (former_tree b)) → refusal (new_table b) ≡ former_refusal b
  unfolding refusal former_refusal former_questions
  same-unpaired h u = ap first_no (first-six h) ∙ rw (seven_is, same-weight (former_tree b) 0 u) refl
