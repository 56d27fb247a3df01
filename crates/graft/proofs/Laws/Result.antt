-- The result of grafting accepted tables passes questions 2, 3, 4 and 6 always: it is accepted exactly where 1, 5 and 7 say yes.
use Rattle.std.specs.Prelude.{◌≡◌, Bool, cond, Some, ℕ, ◌*◌, ◌%◌, ◌≤◌}
use Rattle.std.proofs.Math.Path.{refl, ap}
use Rattle.std.proofs.Common.{sym, subst, ◌∙◌}
use Rattle.std.proofs.Math.Bool.{true, false}
use mathlib.Core.List.{List, [], ◌∷◌, append-nil}
use native.Mathlib.Omega.{arith}
use Rattle.std.proofs.Math.Dec.{T, eqb, leb, leb→le}
use Rattle.std.proofs.Math.ListN.{length}
use borrow.Author.Tests.{eq-eqb, le-leb}
use Rattle.booleans.specs.Tests.{◌and◌}
use Rattle.booleans.specs.Laws.{both, T-is}
use Rattle.table.specs.Numbers.{most_depth, most_loops, most_records, most_weight, record_length}
use Rattle.table.specs.Questions.{Accepted, depth, listed, loops, named, weight}
use Rattle.table.specs.Table.{decode, encode}
use Rattle.table.specs.Trees.{Tree, records}
use Rattle.table.specs.Survey.{survey_node, survey_refusal, unfit}
use Rattle.table.specs.Asking.{◌asks◌, first_no}
use Rattle.table.specs.Checking.{IsTable, question1, question5, question7}
use Rattle.table.proofs.Laws.NotRefused.{reads-back}
use Rattle.table.proofs.Laws.RoundTrip.{length-encode}
use Rattle.table.proofs.Laws.Survey.{fitting, survey_of, tree-surveyed}
use Rattle.table.proofs.Laws.Tables.{written-table}
use Rattle.table.proofs.Laws.Trees.{some-records}
use Rattle.evaluate.proofs.Laws.Evaluator.{Fair}
use Rattle.splice.specs.Graft.{graft, uses}
use Rattle.graft.specs.Answers.{graft_table, question12}
use Rattle.graft.proofs.Laws.Grafted.{accepted-fair, graft-listed, graft-named, graft-unused}

-- ---- a tree that is as questions 2, 3 and 6 ask

module _ (t : Tree) (l : T (listed t)) (m : T (named t 0)) where
  asked-accepted : T (question12 (encode t)) → Accepted t
  unfolding question12 question1 question5 question7
  asked-accepted h =
      let (p, w) = both _ _ h in
      let (one, five) = both _ _ p in
      let e = reads-back t l in
      let (a, b) = both _ _ (subst (λ (u : Tree). T (leb (depth u) most_depth and leb (loops u 0) most_loops)) e five) in
      record {
        short = omega (arith, length-encode t, leb→le (length (encode t)) (record_length * most_records) (both _ _ one).1);
        listed = l;
        deep = leb→le _ _ a;
        nested = leb→le _ _ b;
        named = m;
        weighed = leb→le _ _ (subst (λ (u : Tree). T (leb (weight u 0) most_weight)) e w);
      }

  length-asked : records t ≤ most_records → question1 (encode t) ≡ true
  unfolding question1 ◌and◌
  length-asked s =
      let w : length (encode t) ≡ record_length * records t = length-encode t in
      let z : length (encode t) % record_length ≡ 0 = omega arith in
      let o : record_length ≤ length (encode t) = omega (arith, some-records t) in
      let n : length (encode t) ≤ record_length * most_records = omega arith in
      rw (eq-eqb _ 0 z, le-leb _ _ o, le-leb _ _ n) refl

  walk-asked : (p : Bool) → eqb (survey_refusal (cond p (Some (survey_of t 0)) unfit)) 0 ≡ ((true and p) and leb (weight t 0) most_weight)
  unfolding ◌and◌ first_no
  walk-asked true = rw (T-is (named t 0) m) (seven (leb (weight t 0) most_weight))
    where
      seven : (b : Bool) → eqb (first_no (7 asks b ∷ [])) 0 ≡ b
      seven true = refl
      seven false = refl
  walk-asked false = refl

  -- where it is not too long, the walk for questions 5 to 7 answers question 12
  pub surveyed-asked : records t ≤ most_records → eqb (survey_refusal (survey_node most_depth 0 (encode t))) 0 ≡ question12 (encode t)
  unfolding question12 question5 question7
  surveyed-asked s =
      let e = ap (survey_node most_depth 0) (sym (append-nil (encode t))) ∙ tree-surveyed t l most_depth 0 [] in
      rw (e, length-asked s, reads-back t l) (walk-asked (fitting t most_depth 0))

-- ---- accepted tables

module _ (h b : List ℕ) (s : ℕ) (H : IsTable h) (B : IsTable b) where
  pub sent_is : Fair (decode b) 0
  sent_is = accepted-fair (decode b) B.accepted

  result-listed : T (listed (graft s (decode b) (decode h)))
  result-listed = graft-listed s (decode b) sent_is (decode h) H.accepted.listed

  result-named : T (named (graft s (decode b) (decode h)) 0)
  result-named = graft-named s (decode b) sent_is (decode h) 0 H.accepted.named

  pub result-reads : decode (graft_table h b s) ≡ graft s (decode b) (decode h)
  unfolding graft_table
  result-reads = reads-back _ result-listed

  pub result-unused : uses s (decode h) ≡ false → graft_table h b s ≡ h
  unfolding graft_table
  result-unused e = ap encode (graft-unused s (decode b) (decode h) e) ∙ H.back

  pub result-table : T (question12 (graft_table h b s)) → IsTable (graft_table h b s)
  unfolding graft_table
  result-table z = written-table _ (asked-accepted _ result-listed result-named z)

  pub result-surveyed : records (graft s (decode b) (decode h)) ≤ most_records → eqb (survey_refusal (survey_node most_depth 0 (graft_table h b s))) 0 ≡ question12 (graft_table h b s)
  unfolding graft_table
  result-surveyed = surveyed-asked _ result-listed result-named
