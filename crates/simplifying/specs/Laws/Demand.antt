-- Demand 3 holds of the calls together.
use Rattle.std.specs.Prelude.{◌≡◌, Bool, List, [], ◌∷◌, ℕ, zero, suc, ◌-◌, ◌≤◌, take, drop, Result, Ok, Err, MatchResult}
use Rattle.std.proofs.Math.Path.{refl, sym, ap, subst}
use Rattle.std.proofs.Common.{◌∙◌, arith}
use Rattle.std.proofs.Math.Bool.{true, false}
use Rattle.std.proofs.Math.Dec.{T, leb}
use Rattle.std.proofs.Math.ListN.{length}
use Rattle.refusals.specs.Refusals.{Answer, Given, Refused, answer, refused}
use Rattle.refusals.specs.declared.Refusal.{Refusal}
use Rattle.table.specs.Asking.{◌asks◌, by_refusal, first_no}
use Rattle.table.specs.Bytes.{AreBytes}
use Rattle.table.specs.Table.{encode, decode, record_count}
use Rattle.table.specs.Questions.{Accepted}
use Rattle.table.specs.Checking.{IsTable, refusal}
use Rattle.table.proofs.Laws.Asking.{Yes, all_yes, by-refusals, numbered}
use Rattle.table.proofs.Laws.Reading.{part-to}
use Rattle.table.proofs.Laws.Refusal.{check-passes}
use Rattle.table.proofs.Laws.RoundTrip.{length-encode}
use Rattle.table.proofs.Laws.Accepted.{is-table}
use Rattle.table.proofs.Laws.NotRefused.{reads-back}
use Rattle.table.proofs.Laws.Tables.{accepted-table, written-table}
use Rattle.evaluate.specs.Evaluate.{values_of, figure, fits, zeros}
use Rattle.evaluate.proofs.Laws.Monotone.{figure-mono, fits-zeros}
use Rattle.simplify.specs.Steps.{Made, is_none, step, steps}
use Rattle.simplify.proofs.Laws.Keeps.{Kept}
use Rattle.simplify.proofs.Laws.Stepwise.{steps-kept, steps-made, steps-within, steps-spent, steps-finished}
use Rattle.quoting.specs.declared.Quote.{Quote}
use Rattle.simplifying.specs.declared.Simplified.{Simplified}
use Rattle.values.specs.Values.{values_refusal}
use Rattle.writing.specs.Over.{over}
use Rattle.quoting.specs.Answers.{check_answer, figure_answer, quote_of, quoted_figure}
use Rattle.simplifying.specs.Answers.{ending_of, finished_number, made, made_answer, simplified_finished, simplified_length, simplified_steps, simplify_answer, simplify_refusal, simplify_writes}
use Rattle.quoting.specs.Promises.{Promises}
use Rattle.simplifying.specs.Demand.{Asked, Demand3, FigureNumbers, SimplifyNumbers, Sold, quoted_numbers, simplified_numbers, sold_bytes}
use Rattle.writing.specs.Laws.Over.{long-over, take-over}
use Rattle.quoting.proofs.Laws.Figures.{figure-is, figured}
use Rattle.values.proofs.Laws.Values.{values-carry}

spent-not : (finished : Bool) → finished_number (ending_of finished) ≡ 0 → finished ≡ false
spent-not true e = absurd (omega arith)
spent-not false e = refl

-- the claim where the figure call's answers are its own, of simplifying's answer with its buffer and of checking's number
abbrev pub Claimed : (b : List ℕ) (n : ℕ) (v w : List ℕ) → Answer Simplified → (buffer : List ℕ) (checked : ℕ) → Type 0
Claimed b n v w answer buffer checked =
    Demand3 b n v w buffer checked (simplified_numbers answer) (quoted_numbers (figure_answer b v)) (quoted_numbers (figure_answer (sold_bytes (simplified_numbers answer) buffer) w))

module _ (b : List ℕ) (n : ℕ) (v w : List ℕ) (h : AreBytes b) (e : refusal b ≡ 0) where
  sold : T (fits zeros (decode b)) → Sold b n v w (encode (steps n (decode b)).tree) (steps n (decode b)).taken (finished_number (ending_of (steps n (decode b)).finished)) (quoted_numbers (figure_answer b v)) (quoted_numbers (figure_answer (encode (steps n (decode b)).tree) w))
  unfolding quoted_figure
  sold f =
      let t = decode b in
      let i : IsTable b = is-table b h e in
      let m : Made = steps n t in
      let k : Kept true m.tree t = steps-kept n t in
      let a : Accepted m.tree = k.still_accepted (λ x. f) i.accepted in
      let back : decode (encode m.tree) ≡ m.tree = reads-back m.tree a.listed in
      let j : IsTable (encode m.tree) = written-table m.tree a in
      let ok : refusal (encode m.tree) ≡ 0 = accepted-table _ j in
      let long : length (encode t) ≡ length b = ap length i.back in
      record {
        tree = m.tree;
        made = steps-made n t;
        wrote = refl;
        accepted = ok;
        no_longer = omega (arith, length-encode m.tree, length-encode t, k.no_more (λ x. f) i.accepted);
        within = steps-within n t;
        spent = λ q. steps-spent n t (spent-not _ q);
        ends = ap (λ x. finished_number (ending_of x)) (steps-finished n t ∙ ap (λ u. is_none (step u)) (sym back));
        not_below = λ q p z.
            omega (arith, (figured b v p).is, (figured _ w z).is, ap (figure (values_of w)) back, k.same_figure (values_of w), figure-mono (values_of v) (values_of w) q t);
        same_figure = λ q p.
            let f = figured b v p in
            let allowed : values_refusal (encode m.tree) v ≡ 0 = values-carry b _ v i j (λ q x. rw back (k.limits (λ n m. q m) x)) f.allowed in
            let small : T (fits (values_of v) (decode (encode m.tree))) = rw back (k.still_fits (values_of v) f.small) in
            let same : figure_answer (encode m.tree) w ≡ Given (quote_of (encode m.tree) v) = ap (figure_answer (encode m.tree)) (sym q) ∙ figure-is _ v ok allowed small in
            (ap refused same, ap quoted_figure same ∙ ap (figure (values_of v)) back ∙ k.same_figure (values_of v) ∙ sym f.is);
      }

  too-large : fits zeros (decode b) ≡ false → (u : List ℕ) → refused (figure_answer b u) ≡ 0 → ⊥
  too-large z u p = subst T z (fits-zeros (values_of u) (decode b) (figured b u p).small)

  -- what is asked after questions 1 to 7
  asked : (out : List ℕ) → simplify_refusal b out ≡ first_no (8 asks leb (length b) (length out) ∷ 10 asks fits zeros (decode b) ∷ [])
  unfolding simplify_refusal
  asked out = check-passes b _ e

  -- where all say yes, or 10 is the first no
  accepted-fits : (out : List ℕ) → simplify_refusal b out ≡ 0 → T (fits zeros (decode b))
  unfolding numbered Yes
  accepted-fits out z = (all_yes (8 asks leb (length b) (length out) ∷ 10 asks fits zeros (decode b) ∷ []) tt (sym (asked out) ∙ z)).1.0

  ten-large : (out : List ℕ) → simplify_refusal b out ≡ 10 → fits zeros (decode b) ≡ false
  ten-large out z = go (leb (length b) (length out)) (fits zeros (decode b)) (sym (asked out) ∙ z)
    where
      go : (x y : Bool) → first_no (8 asks x ∷ 10 asks y ∷ []) ≡ 10 → y ≡ false
      go true true q = absurd (unfold first_no in omega (arith, q))
      go true false q = refl
      go false y q = absurd (unfold first_no in omega (arith, q))

  accepted : (out : List ℕ) → Claimed b n v w (simplify_answer b n out) (over (simplify_writes b n out) out) 0
  unfolding simplify_answer made_answer simplify_writes made simplified_length simplified_steps simplified_finished
  accepted out =
      let m = steps n (decode b) in
      by-refusals (λ (a : Answer Simplified) y. Claimed b n v w a (over y out) 0) (simplify_refusal b out) _ Refused _ _
      (λ z. record {
        inside = λ c s. long-over (encode m.tree) out;
        sold = λ c s.
            subst (λ x. Sold b n v w x m.taken (finished_number (ending_of m.finished)) (quoted_numbers (figure_answer b v)) (quoted_numbers (figure_answer x w))) (sym (take-over (encode m.tree) out)) (sold (accepted-fits out z));
        too_large = λ c s. absurd (omega (arith, s));
      })
      (λ z. record { inside = λ c s. absurd (z s); sold = λ c s. absurd (z s); too_large = λ c s. too-large (ten-large out s) })

-- for every table, every allowance, every output buffer and whatever values the two desks hold
pub demand3 : (b : List ℕ) → AreBytes b → (n : ℕ) (v w out : List ℕ) → Claimed b n v w (simplify_answer b n out) (over (simplify_writes b n out) out) (refused (check_answer b))
unfolding check_answer by_refusal
demand3 b h n v w out = go (refusal b) refl
  where
    go : (q : ℕ) → refusal b ≡ q → Claimed b n v w (simplify_answer b n out) (over (simplify_writes b n out) out) (refused (by_refusal q (Given (record_count b)) Refused))
    go zero e = accepted b n v w h e out
    -- a table that is not accepted
    go (suc q) e = record { inside = λ c s. absurd (omega (arith, c)); sold = λ c s. absurd (omega (arith, c)); too_large = λ c s. absurd (omega (arith, c)) }

-- and so of any numbers that are the four calls' own
pub numbers-claimed : (b : List ℕ) → AreBytes b → (n : ℕ) (v w out : List ℕ) {buffer : List ℕ} {checked : ℕ} {answer : SimplifyNumbers} {reception sales : FigureNumbers}
    → checked ≡ refused (check_answer b) → answer ≡ simplified_numbers (simplify_answer b n out) → buffer ≡ over (simplify_writes b n out) out
    → reception ≡ quoted_numbers (figure_answer b v) → sales ≡ quoted_numbers (figure_answer (sold_bytes answer buffer) w) → Demand3 b n v w buffer checked answer reception sales
numbers-claimed b h n v w out c a o r s = rw (s, r, o, a, c) (demand3 b h n v w out)

-- how many bytes simplifying wrote, as a program reads it of the answer
pub length-told : (r : Result Simplified Refusal) (n : ℕ) (P : Simplified → Type 0) → ((x : Simplified) → P x → n ≡ x.length) → MatchResult r P (λ e. n ≡ 0) → n ≡ simplified_length (answer r)
unfolding simplified_length
length-told (Ok x) n P p h = p x h
length-told (Err e) n P p h = h

-- and of the four calls, where sales are lent the first k bytes of the buffer
pub both-asked : (b : List ℕ) (n : ℕ) (v w out buffer : List ℕ) (checked : Answer ℕ) (answer : Answer Simplified) (reception sales : Answer Quote) (k : ℕ) → AreBytes b
    → checked ≡ check_answer b → answer ≡ simplify_answer b n out → buffer ≡ over (simplify_writes b n out) out → reception ≡ figure_answer b v
    → k ≡ simplified_length answer → sales ≡ figure_answer (take (k - 0) (drop 0 buffer)) w → Promises b v reception → Promises (take (k - 0) (drop 0 buffer)) w sales
    → Demand3 b n v w buffer (refused checked) (simplified_numbers answer) (quoted_numbers reception) (quoted_numbers sales) × Asked b n v w out buffer checked answer reception sales
both-asked b n v w out buffer checked answer reception sales k h c a o r e s p q =
    let part : take (k - 0) (drop 0 buffer) ≡ sold_bytes (simplified_numbers answer) buffer = part-to buffer k ∙ ap (λ x. take x buffer) e in
    let lent : sales ≡ figure_answer (sold_bytes (simplified_numbers answer) buffer) w = s ∙ ap (λ x. figure_answer x w) part in (
      numbers-claimed b h n v w out (ap refused c) (ap simplified_numbers a) o (ap quoted_numbers r) (ap quoted_numbers lent),
      record { checks = c; simplifies = a; writes = o; quotes = r; sells = lent; promised = p; promised_sales = subst (λ x. Promises x w sales) part q },
    )

-- what simplifying wrote stands within the buffer
pub written-within : (b : List ℕ) (n : ℕ) (out buffer : List ℕ) (answer : Answer Simplified) → answer ≡ simplify_answer b n out → buffer ≡ over (simplify_writes b n out) out → simplified_length answer ≤ length buffer
unfolding simplify_answer simplify_writes made_answer simplified_length
written-within b n out buffer answer e w =
    rw (e, w)
    (by-refusals (λ (a : Answer Simplified) y. simplified_length a ≤ length (over y out)) (simplify_refusal b out) _ Refused _ _ (λ z. long-over (encode (made b n).tree) out) (λ z. omega arith))
