-- Steps on a copy of a table, as the simplifying call answers them.
use Rattle.std.specs.Prelude.{◌≡◌, Bool, false, true, List, [], ◌∷◌, ℕ, ◌<◌, ◌≤◌, length, take}
use Rattle.std.proofs.Math.Path.{refl, sym}
use Rattle.std.proofs.Common.{ap, ◌∙◌, arith, length-take-le, le-leb}
use Rattle.std.proofs.Math.Seq.{take-length}
use Rattle.std.proofs.lemmas.Bool.{lt-leb}
use Rattle.booleans.specs.Laws.{is_T}
use Rattle.refusals.specs.Refusals.{Answer, Given, Refused}
use Rattle.table.specs.Asking.{◌asks◌, first_no}
use Rattle.table.specs.Bytes.{AreBytes}
use Rattle.table.specs.Checking.{refusal}
use Rattle.table.specs.Numbers.{most_depth}
use Rattle.table.specs.Table.{decode, encode}
use Rattle.table.proofs.Laws.Accepted.{is-table}
use Rattle.table.proofs.Laws.Refusal.{check-passes, check-stops}
use Rattle.evaluate.specs.Evaluate.{zeros}
use Rattle.evaluate.specs.Evaluator.{evaluate_node}
use Rattle.evaluate.proofs.Laws.Alike.{zeros-alike}
use Rattle.evaluate.proofs.Laws.Evaluator.{Evaluated, evaluated-table}
use Rattle.simplify.specs.Steps.{steps}
use Rattle.subtrees.specs.Parts.{Simplifiable}
use Rattle.stepping.specs.Steps.{Ends}
use Rattle.writing.specs.Over.{over}
use Rattle.simplifying.specs.Answers.{ending_of, made, made_answer, simplify_answer, simplify_refusal, simplify_writes}
use Rattle.writing.specs.Laws.Over.{take-over}
use Rattle.quoting.proofs.Laws.Answers.{refuses, writes}
use Rattle.simplifying.specs.declared.Ending.{Ending}
use Rattle.simplifying.specs.declared.Simplified.{Simplified}

-- ---- the steps in a copy

-- the table stands at the copy's front
pub copy_is : (b work copy : List ℕ) → copy ≡ over (take (length b) b) work → take (length b) copy ≡ b
copy_is b work copy e = ap (take (length b)) (e ∙ ap (λ x. over x work) (take-length b)) ∙ take-over b work

abbrev pub made_of : (long count : ℕ) → Ending → Simplified
made_of long count end = record { length = long; steps = count; ending = end }

pub made-is : (b copy work out new : List ℕ) (n long count : ℕ) (finished : Bool) (end : Ending) → copy ≡ b → Ends copy n (take long work) count finished → long ≤ length work
    → end ≡ ending_of finished → new ≡ over (take long work) out → (made_of long count end ≡ made_answer b n) × (new ≡ over (encode (made b n).tree) out)
unfolding made made_answer
made-is b copy work out new n long count finished end c e l f w =
    let d : Ends b n (take long work) count finished = rw c at e in
    let size : long ≡ length (encode (steps n (decode b)).tree) = sym (ap length d.bytes ∙ length-take-le long work l) in
    let told : end ≡ ending_of (steps n (decode b)).finished = f ∙ ap ending_of (sym d.ending) in
    ((λ i. made_of (size i) (sym d.taken i) (told i)), w ∙ ap (λ x. over x out) (sym d.bytes))

-- ---- the questions

module _ (b : List ℕ) (n : ℕ) (out : List ℕ) where
  -- what the call answers, and what its buffer then holds
  abbrev pub Simplifies : Answer Simplified → (new : List ℕ) → Type 0
  Simplifies r new = (r ≡ simplify_answer b n out) × (new ≡ over (simplify_writes b n out) out)

  by-refusal : {q : ℕ} → simplify_refusal b out ≡ q → (q ≡ 0 → ⊥) → Simplifies (Refused q) out
  unfolding simplify_answer simplify_writes
  by-refusal = refuses _ _ Refused _ out

  pub simplify-refused : {q : ℕ} → q ≡ refusal b → (q ≡ 0 → ⊥) → Simplifies (Refused q) out
  unfolding simplify_refusal
  simplify-refused e z = by-refusal (check-stops b _ e z) z

  module _ (e : refusal b ≡ 0) where
    pub simplify-short : length out < length b → Simplifies (Refused 8) out
    unfolding simplify_refusal first_no
    simplify-short s = by-refusal (check-passes b _ e ∙ rw (lt-leb (length b) (length out) s) refl) (λ z. omega (arith, z))

    module _ (r : length b ≤ length out) (h : AreBytes b) where
      walk : Evaluated zeros (decode b) (evaluate_node zeros most_depth b)
      walk = evaluated-table zeros zeros (λ k l. refl) (λ k q. omega arith) b h e (zeros-alike (decode b) (is-table b h e).accepted.listed)

      walked : {x : Bool} → (evaluate_node zeros most_depth b).fits ≡ x → simplify_refusal b out ≡ first_no (10 asks x ∷ [])
      unfolding simplify_refusal first_no
      walked z = check-passes b _ e ∙ rw (le-leb (length b) (length out) r, sym walk.fits ∙ z) refl

      pub simplify-large : (evaluate_node zeros most_depth b).fits ≡ false → Simplifies (Refused 10) out
      unfolding first_no
      simplify-large z = by-refusal (walked z) (λ q. omega (arith, q))

      pub simplify-able : (evaluate_node zeros most_depth b).fits ≡ true → Simplifiable b
      simplify-able z = let t = is-table b h e in record { table = t; fits = is_T _ (sym walk.fits ∙ z) }

      pub simplify-made : (evaluate_node zeros most_depth b).fits ≡ true → {x : Simplified} {new : List ℕ} → (x ≡ made_answer b n) × (new ≡ over (encode (made b n).tree) out) → Simplifies (Given x) new
      unfolding simplify_answer simplify_writes first_no
      simplify-made z (a, w) = writes _ _ Refused _ out (walked z) (ap Given a) w
