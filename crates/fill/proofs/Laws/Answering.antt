-- What filling and opening answer and write, by the questions in their order; and that they keep their promises.
use Rattle.std.specs.Prelude.{◌≡◌, true, false, not, ◌&&◌, List, [], ◌∷◌, T, leb, length, take}
use Rattle.std.proofs.Math.Path.{refl, subst}
use Rattle.std.proofs.Common.{ap, sym, ◌∙◌, arith, leb→le, le-leb}
use Prim.Native.Nat.{ℕ, zero, suc, ◌≤◌}
use Rattle.booleans.specs.Laws.{&&-both, T-is}
use Rattle.refusals.specs.Refusals.{Answer, Given, Refused}
use Rattle.table.specs.Asking.{◌asks◌, by_refusal, first_no}
use Rattle.table.specs.Bytes.{AreBytes}
use Rattle.table.specs.Checking.{IsTable}
use Rattle.table.proofs.Laws.Accepted.{is-table}
use Rattle.table.proofs.Laws.Asking.{Yes, all_yes, answered, by-refusals, numbered}
use Rattle.table.proofs.Laws.Tables.{accepted-table}
use Rattle.writing.specs.Over.{over}
use Rattle.writing.specs.Laws.Over.{front-over}
use Rattle.quoting.proofs.Laws.Answers.{refuses, writes}
use Rattle.quoting.proofs.Laws.Figures.{checked-accepted}
use Rattle.marking.specs.Marks.{mark_length, marks_of}
use Rattle.marking.specs.Opening.{question16}
use Rattle.marking.specs.Laws.Marking.{marks-long}
use Rattle.fill.specs.Answers.{both_ask, fill_answer, fill_marks, fill_refusal, fill_writes, filled, open_answer, open_refusal, open_writes, opened, question15}
use Rattle.fill.specs.Promises.{FillPromised, FillPromises, OpenPromised, OpenPromises}
use Rattle.fill.proofs.Laws.Asking.{both-fine, both-pass, both-passed, both-stop, both_yes}
use Rattle.fill.proofs.Laws.Results.{filled-back, filled-count, filled-fifteen, filled-length, filled-quoted, filled-sixteen, filled-table, opened-count, opened-length, opened-quoted, opened-table}

-- ---- opening

module _ (b m : List ℕ) (s x : ℕ) (out : List ℕ) where
  -- the answer, and what the buffer then holds
  abbrev pub OpenAnswered : Answer ℕ → (new : List ℕ) → Type 0
  OpenAnswered r new = (r ≡ open_answer b m s x out) × (new ≡ over (open_writes b m s x out) out)

  open_by : {n : ℕ} → open_refusal b m s x out ≡ n → (n ≡ 0 → ⊥) → OpenAnswered (Refused n) out
  unfolding open_answer open_writes
  open_by = refuses _ _ Refused _ out

  pub open-refused : {n : ℕ} → n ≡ first_no (both_ask b (leb (length b) (length out)) s x) → (n ≡ 0 → ⊥) → OpenAnswered (Refused n) out
  unfolding open_refusal
  open-refused e z = open_by (both-stop b _ s x _ e z) z

  module _ (p : first_no (both_ask b (leb (length b) (length out)) s x) ≡ 0) where
    pub open-marks : question16 b m s x ≡ false → OpenAnswered (Refused 16) out
    unfolding open_refusal first_no
    open-marks o = open_by (both-pass b _ s x _ p ∙ rw o refl) (λ k. omega (arith, k))

    module _ (o : question16 b m s x ≡ true) where
      open-fine : open_refusal b m s x out ≡ 0
      unfolding open_refusal first_no
      open-fine = both-pass b _ s x _ p ∙ rw o refl

      pub open-written : (new : List ℕ) → new ≡ over (opened b m s) out → OpenAnswered (Given (length b)) new
      unfolding open_answer open_writes
      open-written new w = writes _ _ Refused _ out open-fine refl w

      -- the answer and the bytes alone
      open_told : (open_answer b m s x out ≡ Given (length b)) × (open_writes b m s x out ≡ opened b m s)
      unfolding open_answer open_writes
      open_told = (answered _ _ Refused open-fine, answered _ _ (λ q. []) open-fine)

  -- ---- the promises

  module _ (h : AreBytes b) where
    open-promised : IsTable b → T (question15 b s x) → T (question16 b m s x) → OpenPromised b s x (opened b m s)
    open-promised t q o = record {
      checked = checked-accepted _ (accepted-table _ (opened-table b m s x t q o)) ∙ ap Given (opened-count b m s t);
      figures = opened-quoted b m s x t q o;
    }

    open-accepts : open_refusal b m s x out ≡ 0 → OpenPromised b s x (take (length b) (over (opened b m s) out))
    unfolding open_refusal numbered Yes
    open-accepts n =
        let (k, l) = both-passed b _ s x (16 asks question16 b m s x ∷ []) n in
        let (one, (_, q)) = both_yes b _ s x k in
        let t = is-table b h one in
        subst (OpenPromised b s x) (sym (front-over (opened b m s) out (length b) (opened-length b m s t))) (open-promised t q (all_yes (16 asks question16 b m s x ∷ []) tt l).0)

    open_kept : OpenPromises b s x (over (open_writes b m s x out) out) (open_answer b m s x out)
    unfolding OpenPromises open_answer open_writes
    open_kept =
        by-refusals (λ r y. OpenPromises b s x (over y out) r) (open_refusal b m s x out) _ Refused _ _ (λ n z. open-accepts n) (λ n z. absurd (n z))

    pub open-all : {r : Answer ℕ} {new : List ℕ} → OpenAnswered r new → (r ≡ open_answer b m s x out) × ((new ≡ over (open_writes b m s x out) out) × OpenPromises b s x new r)
    open-all {r} (a, w) = (a, (w, subst (λ (y : List ℕ). OpenPromises b s x y r) (sym w) (subst (OpenPromises b s x (over (open_writes b m s x out) out)) (sym a) open_kept)))

-- ---- filling

module _ (b : List ℕ) (s x : ℕ) (out marks : List ℕ) where
  -- the answer, and what the two buffers then hold
  abbrev pub FillAnswered : Answer ℕ → (new ms : List ℕ) → Type 0
  FillAnswered r new ms = (r ≡ fill_answer b s x out marks) × ((new ≡ over (fill_writes b s x out marks) out) × (ms ≡ over (fill_marks b s x out marks) marks))

  fill-by : {n : ℕ} → fill_refusal b s x out marks ≡ n → (n ≡ 0 → ⊥) → FillAnswered (Refused n) out marks
  unfolding fill_answer fill_writes fill_marks
  fill-by e z = let (a, w) = refuses _ (Given (length b)) Refused (filled b s x) out e z in (a, (w, (refuses _ (Given (length b)) Refused (marks_of s b) marks e z).1))

  pub fill-refused : {n : ℕ} → n ≡ first_no (both_ask b (leb (length b) (length out) && leb mark_length (length marks)) s x) → (n ≡ 0 → ⊥) → FillAnswered (Refused n) out marks
  unfolding fill_refusal
  fill-refused e z = fill-by (sym e) z

  pub fill-written : first_no (both_ask b (leb (length b) (length out) && leb mark_length (length marks)) s x) ≡ 0 → (new ms : List ℕ) → (new ≡ over (filled b s x) out) × (ms ≡ over (marks_of s b) marks)
      → FillAnswered (Given (length b)) new ms
  unfolding fill_answer fill_writes fill_marks fill_refusal
  fill-written e new ms (w, v) =
      let (a, z) = writes _ (Given (length b)) Refused (filled b s x) out e refl w in
      (a, (z, (writes _ (Given (length b)) Refused (marks_of s b) marks e refl v).1))

  -- ---- the promises

  module _ (h : AreBytes b) where
    fill-promised : IsTable b → T (question15 b s x) → FillPromised b s x (filled b s x) (marks_of s b)
    fill-promised t q =
        let c = filled-table b s x t q in record {
          checked = checked-accepted _ (accepted-table _ c) ∙ ap Given (filled-count b s x t);
          figures = filled-quoted b s x t q;
          back = λ buffer l.
              let roomy = le-leb (length (filled b s x)) (length buffer) (omega (arith, filled-length b s x t)) in
              let yes = sym (both-fine (filled b s x) _ s x (accepted-table _ c) true (sym (T-is _ (filled-fifteen b s x t q))) (ap not roomy) refl) in
              let (a, w) = open_told (filled b s x) (marks_of s b) s x buffer yes (T-is _ (filled-sixteen b s x t q)) in
              (a ∙ ap Given (filled-length b s x t), w ∙ filled-back b s x t q);
        }

    fill-accepts : fill_refusal b s x out marks ≡ 0 → FillPromised b s x (take (length b) (over (filled b s x) out)) (take mark_length (over (marks_of s b) marks))
    unfolding fill_refusal
    fill-accepts n =
        let (one, (_, q)) = both_yes b _ s x n in
        let t = is-table b h one in
        rw (front-over (filled b s x) out (length b) (filled-length b s x t), front-over (marks_of s b) marks mark_length (marks-long s b)) (fill-promised t q)

    fill-kept : FillPromises b s x (over (fill_writes b s x out marks) out) (over (fill_marks b s x out marks) marks) (fill_answer b s x out marks)
    unfolding fill_answer fill_writes fill_marks
    fill-kept = go (fill_refusal b s x out marks) refl
      where
        go : (n : ℕ) → fill_refusal b s x out marks ≡ n
            → FillPromises b s x (over (by_refusal n (filled b s x) (λ q. [])) out) (over (by_refusal n (marks_of s b) (λ q. [])) marks) (by_refusal n (Given (length b)) Refused)
        go zero e = unfold FillPromises by_refusal in λ z. fill-accepts e
        go (suc n) e = unfold FillPromises by_refusal in λ z. absurd (omega (arith, z))

    pub fill-all : {r : Answer ℕ} {new ms : List ℕ} → FillAnswered r new ms
        → (r ≡ fill_answer b s x out marks) × ((new ≡ over (fill_writes b s x out marks) out) × ((ms ≡ over (fill_marks b s x out marks) marks) × FillPromises b s x new ms r))
    fill-all (a, (w, v)) = (a, (w, (v, rw (a, w, v) fill-kept)))

-- ---- what the writing is given

pub fill-room : (b out marks : List ℕ) → T (leb (length b) (length out) && leb mark_length (length marks)) → (length b ≤ length out) × (mark_length ≤ length marks)
fill-room b out marks h = let (x, y) = &&-both (leb (length b) (length out)) (leb mark_length (length marks)) h in (leb→le _ _ x, leb→le _ _ y)
