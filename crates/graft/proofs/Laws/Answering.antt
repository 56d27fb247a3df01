-- What grafting answers and writes, by the questions in their order; and that it keeps its promises.
use Rattle.std.specs.Prelude.{◌≡◌, true, false, not, Err, Ok, Result, List, [], ◌∷◌, ◌++◌, ℕ, ◌*◌, ◌-◌, ◌<◌, ◌≤◌, eqb, leb, drop, take}
use Rattle.std.proofs.Math.Path.{refl, ap, subst}
use Rattle.std.proofs.Common.{sym, ◌∙◌, arith, length-take-le}
use Rattle.std.proofs.Math.ListN.{length}
use borrow.Author.Tests.{le-leb, lt-leb, ne_eqb}
use Rattle.booleans.specs.Laws.{T-is}
use Rattle.std.specs.Result.{is_err}
use Rattle.refusals.specs.Laws.{number-some}
use Rattle.refusals.specs.Refusals.{Answer, Given, Refused, answer, number, refused}
use Rattle.refusals.specs.declared.Refusal.{Refusal}
use Rattle.table.specs.Asking.{◌asks◌, first_no}
use Rattle.table.specs.Bytes.{AreBytes}
use Rattle.table.specs.Checking.{questions, refusal}
use Rattle.table.specs.Numbers.{most_depth, most_records, record_length}
use Rattle.table.specs.Table.{decode}
use Rattle.table.specs.Trees.{records}
use Rattle.table.specs.Survey.{survey_node, survey_refusal}
use Rattle.table.proofs.Laws.Accepted.{is-table}
use Rattle.table.proofs.Laws.Asking.{Yes, all_yes, by-refusals, numbered}
use Rattle.table.proofs.Laws.Reading.{part-to}
use Rattle.table.proofs.Laws.Refusal.{check-passed, check-passes, check-stops}
use Rattle.table.proofs.Laws.RoundTrip.{length-encode}
use Rattle.writing.specs.Over.{over}
use Rattle.quoting.proofs.Laws.Answers.{refuses, writes}
use Rattle.writing.specs.Laws.Over.{take-over}
use Rattle.splice.specs.Graft.{graft}
use Rattle.graft.specs.Answers.{graft_answer, graft_questions, graft_refusal, graft_table, graft_writes, question11, question12}
use Rattle.graft.specs.Promises.{GraftPromised, GraftPromises}
use Rattle.graft.specs.Making.{Allowed, Made}
use Rattle.graft.proofs.Laws.Figures.{graft-promised}
use Rattle.table.proofs.Laws.Tables.{accepted-table}
use Rattle.graft.proofs.Laws.Result.{result-surveyed}

module _ (h b : List ℕ) (s : ℕ) (out : List ℕ) where
  -- the answer, and what the buffer then holds
  abbrev pub Answered : Answer ℕ → (new : List ℕ) → Type 0
  Answered r new = (r ≡ graft_answer h b s out) × (new ≡ over (graft_writes h b s out) out)

  by-refusal : {n : ℕ} → graft_refusal h b s out ≡ n → (n ≡ 0 → ⊥) → Answered (Refused n) out
  unfolding graft_answer graft_writes
  by-refusal = refuses _ _ Refused _ out

  pub host-refused : {n : ℕ} → n ≡ refusal h → (n ≡ 0 → ⊥) → Answered (Refused n) out
  unfolding graft_refusal
  host-refused e z = by-refusal (check-stops h _ e z) z

  pub sent-refused : refusal h ≡ 0 → {n : ℕ} → n ≡ refusal b → (n ≡ 0 → ⊥) → Answered (Refused n) out
  unfolding graft_refusal
  sent-refused p e z = by-refusal (check-passes h _ p ∙ check-stops b _ e z) z

  -- both tables are accepted
  asked : refusal h ≡ 0 → refusal b ≡ 0 → graft_refusal h b s out ≡ first_no (graft_questions h b s out)
  unfolding graft_refusal
  asked p q = check-passes h _ p ∙ check-passes b _ q

  pub symbol-refused : refusal h ≡ 0 → refusal b ≡ 0 → question11 b s ≡ false → Answered (Refused 11) out
  unfolding graft_questions first_no
  symbol-refused p q z = by-refusal (asked p q ∙ rw z refl) (λ k. omega (arith, k))

  module _ (a : Allowed h b s) where
    -- and so is the symbol
    allowed : graft_refusal h b s out ≡ first_no (12 asks question12 (graft_table h b s) ∷ 8 asks leb (length (graft_table h b s)) (length out) ∷ [])
    unfolding graft_questions first_no
    allowed = asked (accepted-table h a.host) (accepted-table b a.sent) ∙ rw (T-is (question11 b s) a.eleven) refl

    pub result-refused : question12 (graft_table h b s) ≡ false → Answered (Refused 12) out
    unfolding first_no
    result-refused z = by-refusal (allowed ∙ rw z refl) (λ k. omega (arith, k))

    module _ (t : question12 (graft_table h b s) ≡ true) where
      pub short-refused : length out < length (graft_table h b s) → Answered (Refused 8) out
      unfolding first_no
      short-refused l = by-refusal (allowed ∙ rw (t, lt-leb (length (graft_table h b s)) (length out) l) refl) (λ k. omega (arith, k))

      pub all-written : (n : ℕ) (x new : List ℕ) → length (graft_table h b s) ≤ length out → x ≡ graft_table h b s → n ≡ length x → new ≡ over x out → Answered (Given n) new
      unfolding graft_answer graft_writes first_no
      all-written n x new l i k w =
          writes _ _ Refused _ out (allowed ∙ rw (t, le-leb (length (graft_table h b s)) (length out) l) refl) (ap Given (k ∙ ap length i)) (w ∙ ap (λ y. over y out) i)

  -- ---- the promises

  accepts : AreBytes h → AreBytes b → graft_refusal h b s out ≡ 0 → GraftPromised h b s (graft_table h b s)
  unfolding graft_refusal graft_questions numbered Yes
  accepts H B n =
      let (one, m) = check-passed h (questions b ++ graft_questions h b s out) n in
      let (two, l) = check-passed b (graft_questions h b s out) m in
      let y = all_yes (graft_questions h b s out) tt l in
      graft-promised h b s (is-table h H one) (is-table b B two) y.0 y.1.0

  kept : AreBytes h → AreBytes b → GraftPromises h b s (over (graft_writes h b s out) out) (graft_answer h b s out)
  unfolding GraftPromises graft_answer graft_writes
  kept H B =
      by-refusals (λ r y. GraftPromises h b s (over y out) r) (graft_refusal h b s out) _ Refused _ _
      (λ n z. subst (GraftPromised h b s) (sym (take-over (graft_table h b s) out)) (accepts H B n))
      (λ n z. absurd (n z))

  pub promised : {r : Answer ℕ} {new : List ℕ} → AreBytes h → AreBytes b → Answered r new → (r ≡ graft_answer h b s out) × ((new ≡ over (graft_writes h b s out) out) × GraftPromises h b s new r)
  promised {r} H B (a, w) = (a, (w, subst (λ (x : List ℕ). GraftPromises h b s x r) (sym w) (subst (GraftPromises h b s (over (graft_writes h b s out) out)) (sym a) (kept H B))))

-- ---- what was made

module _ (h b : List ℕ) (s : ℕ) (n : ℕ) (work : List ℕ) (m : Made h b s n work) where
  pub made-length : length (graft_table h b s) ≡ record_length * n
  made-length = ap length (sym m.bytes) ∙ length-take-le (record_length * n) work m.room

  made-short : length work ≤ record_length * most_records → records (graft s (decode b) (decode h)) ≤ most_records
  made-short l = omega (arith, sym result-length ∙ made-length, m.room)
    where
      result-length : length (graft_table h b s) ≡ record_length * records (graft s (decode b) (decode h))
      result-length = unfold graft_table in length-encode _

  pub made-asked : Allowed h b s → length work ≤ record_length * most_records → (r : ℕ) → r ≡ survey_refusal (survey_node most_depth 0 (take (record_length * n - 0) (drop 0 work))) → eqb r 0 ≡ question12 (graft_table h b s)
  made-asked a l r f =
      ap (λ k. eqb k 0) (f ∙ ap (λ x. survey_refusal (survey_node most_depth 0 x)) (part-to work (record_length * n) ∙ m.bytes)) ∙ result-surveyed h b s a.host a.sent (made-short l)

-- a result that is no error has no refusal
pub refusal-told : {A : Type 0} (r : Result A Refusal) → eqb (refused (answer r)) 0 ≡ not (is_err r)
refusal-told (Ok x) = refl
refusal-told (Err e) = ne_eqb (number e) 0 (number-some e)
