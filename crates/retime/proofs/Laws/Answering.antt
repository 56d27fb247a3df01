-- What commit and preview answer, by the questions in their order; and that they keep their promises.
use Rattle.std.specs.Prelude.{◌≡◌, Bool, true, false, ◌&&◌, List, [], ◌∷◌, ℕ, zero, suc, ◌+◌, ◌*◌, ◌/◌, ◌<◌, ◌≤◌, leb, length}
use Rattle.std.proofs.Math.Path.{refl, ap, ap₂, sym}
use Rattle.std.proofs.Common.{◌∙◌, arith, le-ltb, lt-ltb}
use Rattle.booleans.specs.Tests.{◌and◌}
use Rattle.booleans.specs.Laws.{T-is, and_is}
use Rattle.refusals.specs.Refusals.{Answer, Given, Refused, refused}
use Rattle.table.specs.Asking.{◌asks◌, by_refusal, first_no}
use Rattle.table.specs.Bytes.{AreBytes}
use Rattle.table.specs.Checking.{questions, refusal}
use Rattle.table.specs.Numbers.{most_records, most_time, record_length}
use Rattle.table.specs.Table.{record_count}
use Rattle.marking.specs.Marks.{node_at}
use Rattle.table.proofs.Laws.Accepted.{is-table}
use Rattle.table.proofs.Laws.Asking.{Yes, all_yes, answered, by-refusals, in-turn, numbered, passed, passes, refused as refused-is, stops}
use Rattle.table.proofs.Laws.Tables.{accepted-table}
use Rattle.table.proofs.Laws.Refusal.{accepted-short, check-passed, check-passes, check-stops}
use Rattle.writing.specs.Fields.{value_at, with_value}
use Rattle.writing.specs.Laws.Fields.{field-others}
use Rattle.values.specs.Values.{value_questions}
use Rattle.quoting.specs.Answers.{check_answer, figure_answer, quote_questions}
use Rattle.quoting.proofs.Laws.Figures.{checked-accepted, figure-asked}
use Rattle.retime.specs.Nodes.{Node}
use Rattle.quoting.specs.declared.Quote.{Quote}
use Rattle.retime.specs.declared.Previewed.{Previewed}
use Rattle.retime.specs.Answers.{commit_answer, commit_leaves, commit_refusal, is_time, preview_answer, preview_of, preview_refusal, previewed_after, previewed_before, previewed_branch_after, previewed_branch_before, question17, retime_questions}
use Rattle.retime.specs.Promises.{CommitPromised, CommitPromises, PreviewPromises}
use Rattle.retime.specs.Previews.{figures}
use Rattle.retime.proofs.Laws.Retimed.{Retimable, asked-17, record-inside, retimable-back, retimed-back, retimed-length, retimed-table, retimed-there, same-time, says-17}

-- ---- question 17

pub past-last : (b : List ℕ) (i x y : ℕ) → record_count b ≤ i → false ≡ question17 b i x y
unfolding question17 ◌and◌
past-last b i x y l = rw (le-ltb i (record_count b) l) refl

pub at-record : (b : List ℕ) (i x y : ℕ) {n : Node} {q : Bool} → i < record_count b → n ≡ node_at b i → q ≡ is_time x n.kind → (q && leb y most_time) ≡ question17 b i x y
unfolding question17
at-record b i x y {n} {q} l e f =
    and_is q (leb y most_time) ∙ rw (lt-ltb i (record_count b) l, f ∙ ap (λ (m : Node). is_time x m.kind) e) (first (is_time x (node_at b i).kind))
  where
    first : (t : Bool) → (t and leb y most_time) ≡ (true and t and leb y most_time)
    first t = unfold ◌and◌ in refl

module _ (b : List ℕ) (i x y : ℕ) where
  -- ---- the refusal that both calls share

  pub table-refused : {n : ℕ} → n ≡ refusal b → (n ≡ 0 → ⊥) → n ≡ commit_refusal b i x y
  unfolding commit_refusal retime_questions
  table-refused e z = sym (check-stops b _ e z)

  pub time-asked : {q : Bool} → refusal b ≡ 0 → q ≡ question17 b i x y → first_no (17 asks q ∷ []) ≡ commit_refusal b i x y
  unfolding commit_refusal retime_questions
  time-asked e f = rw f (sym (check-passes b _ e))

  -- where there is none
  pub retimable : commit_refusal b i x y ≡ 0 → (refusal b ≡ 0) × Retimable b i x y
  unfolding commit_refusal retime_questions numbered Yes
  retimable z =
      let (e, m) = check-passed b (17 asks question17 b i x y ∷ []) z in
      (e, asked-17 b i x y (all_yes (17 asks question17 b i x y ∷ []) tt m).0)

  pub room : commit_refusal b i x y ≡ 0 → record_length * (i + 1) ≤ length b
  room z = record-inside b i (retimable z).1.inside

  pub short : AreBytes b → commit_refusal b i x y ≡ 0 → length b ≤ record_length * most_records
  short B z = accepted-short b B (retimable z).0

  pub leaves : commit_refusal b i x y ≡ 0 → commit_leaves b i x y ≡ with_value b i y
  unfolding commit_leaves
  leaves z = answered _ _ _ z

  pub answers : commit_refusal b i x y ≡ 0 → commit_answer b i x y ≡ Given (length b)
  unfolding commit_answer
  answers z = answered _ _ _ z

-- a time that can be given is given
free : (b : List ℕ) (i x y : ℕ) → refusal b ≡ 0 → Retimable b i x y → commit_refusal b i x y ≡ 0
unfolding first_no
free b i x y e r = sym (time-asked b i x y e (sym (T-is _ (says-17 b i x y r))))

-- ---- commit

module _ (b : List ℕ) (i x y : ℕ) (B : AreBytes b) (z : commit_refusal b i x y ≡ 0) where
  abbrev left : List ℕ
  left = with_value b i y

  pub left-accepted : refusal left ≡ 0
  left-accepted = let (e, r) = retimable b i x y z in accepted-table _ (retimed-table b i x y (is-table b B e) r)

  long : length left ≡ length b
  long = let (e, r) = retimable b i x y z in retimed-length b i x y (is-table b B e) r

  -- committing back is not refused
  back-free : commit_refusal left i y x ≡ 0
  back-free = let (e, r) = retimable b i x y z in free left i y x left-accepted (retimable-back b i x y (is-table b B e) r)

  checked-left : check_answer left ≡ Given (record_count b)
  checked-left = checked-accepted left left-accepted ∙ ap (λ n. Given (n / record_length)) long

  promised : CommitPromised b i x y left
  promised = let (e, r) = retimable b i x y z in record {
    checked = checked-left;
    long = long;
    there = retimed-there b i x y (is-table b B e) r;
    others = field-others b (value_at i) 8 y (omega (arith, room b i x y z));
    back = answers left i y x back-free ∙ ap Given long;
    restored = leaves left i y x back-free ∙ retimed-back b i x y (is-table b B e) r;
  }

module _ (b : List ℕ) (i x y : ℕ) (B : AreBytes b) where
  commit-kept : CommitPromises b i x y (commit_leaves b i x y) (refused (commit_answer b i x y))
  unfolding commit_answer commit_leaves
  commit-kept =
      by-refusals (λ (r : Answer ℕ) l. CommitPromises b i x y l (refused r)) (commit_refusal b i x y) _ Refused _ _
      (λ z. record {
        written = λ w. promised b i x y B z;
        refused = λ w. absurd (w refl);
        stale = λ n e w. absurd (w (same-time n x (sym e ∙ (retimable b i x y z).1.stands)));
      })
      (λ z. record { written = λ w. absurd (z w); refused = λ w. refl; stale = λ n e w. refl })

  -- an answer that is commit's, with the table that it leaves, keeps them
  abbrev pub Commits : Answer ℕ → List ℕ → Type 0
  Commits r l = (r ≡ commit_answer b i x y) × ((l ≡ commit_leaves b i x y) × CommitPromises b i x y l (refused r))

  commits : {r : Answer ℕ} {l : List ℕ} → r ≡ commit_answer b i x y → l ≡ commit_leaves b i x y → Commits r l
  commits e f = (e, (f, rw (e, f) commit-kept))

  pub commit-no : {n : ℕ} {r : Answer ℕ} → r ≡ Refused n → n ≡ commit_refusal b i x y → (n ≡ 0 → ⊥) → Commits r b
  unfolding commit_answer commit_leaves
  commit-no f e z = commits (f ∙ sym (refused-is _ _ Refused (sym e) z)) (sym (refused-is _ _ _ (sym e) z))

  pub commit-yes : {n : ℕ} {l : List ℕ} → commit_refusal b i x y ≡ 0 → l ≡ with_value b i y → n ≡ length l → Commits (Given n) l
  commit-yes z f g = commits (ap Given (g ∙ ap length f ∙ long b i x y B z) ∙ sym (answers b i x y z)) (f ∙ sym (leaves b i x y z))

-- ---- preview

both-figures : (n m : ℕ) (x y : Quote)
    → figures (by_refusal n (Given x) Refused) (by_refusal m (Given y) Refused) ≡ by_refusal (by_refusal n m (λ k. k)) (Given record { before = x; after = y }) Refused
unfolding by_refusal figures
both-figures zero zero x y = refl
both-figures zero (suc m) x y = refl
both-figures (suc n) m x y = refl

module _ (b : List ℕ) (i x y : ℕ) (vs : List ℕ) where
  abbrev next : List ℕ
  next = with_value b i y

  asked-both : commit_refusal b i x y ≡ 0 → preview_refusal b i x y vs ≡ by_refusal (first_no (quote_questions b vs)) (first_no (quote_questions next vs)) (λ n. n)
  unfolding commit_refusal preview_refusal retime_questions questions quote_questions value_questions numbered
  asked-both z = passes (retime_questions b i x y) _ tt z ∙ in-turn (quote_questions b vs) (quote_questions next vs) tt

  preview-is : AreBytes b → commit_refusal b i x y ≡ 0 → figures (figure_answer b vs) (figure_answer next vs) ≡ preview_answer b i x y vs
  unfolding preview_answer
  preview-is B z =
      ap₂ figures (figure-asked b vs (retimable b i x y z).0) (figure-asked next vs (left-accepted b i x y B z))
      ∙ both-figures _ _ _ _
      ∙ ap (λ n. by_refusal n (Given (preview_of b next vs)) Refused) (sym (asked-both z))

  preview-promised : AreBytes b → preview_refusal b i x y vs ≡ 0 → PreviewPromises b i x y vs (Given (preview_of b next vs))
  unfolding PreviewPromises previewed_before previewed_branch_before previewed_after previewed_branch_after commit_refusal preview_refusal retime_questions questions quote_questions value_questions numbered
  preview-promised B n w =
      let (z, m) = passed (retime_questions b i x y) _ tt n in
      let (o, p) = passed (quote_questions b vs) (quote_questions next vs) tt m in record {
        first = figure-asked b vs (retimable b i x y z).0 ∙ answered _ _ Refused o;
        second = ap (λ c. figure_answer c vs) (leaves b i x y z) ∙ figure-asked next vs (left-accepted b i x y B z) ∙ answered _ _ Refused p;
        commits = answers b i x y z;
      }

  preview-kept : AreBytes b → PreviewPromises b i x y vs (preview_answer b i x y vs)
  unfolding preview_answer
  preview-kept B =
      by-refusals (λ r (k : ℕ). PreviewPromises b i x y vs r) (preview_refusal b i x y vs) _ Refused 0 (λ q. 0)
      (preview-promised B)
      (λ z. unfold PreviewPromises in λ w. absurd (z w))

  -- an answer that is preview's keeps them
  abbrev pub Previews : Answer Previewed → Type 0
  Previews r = (r ≡ preview_answer b i x y vs) × PreviewPromises b i x y vs r

  previews : {r : Answer Previewed} → AreBytes b → r ≡ preview_answer b i x y vs → Previews r
  previews B e = (e, rw e (preview-kept B))

  pub preview-no : {n : ℕ} {r : Answer Previewed} → AreBytes b → r ≡ Refused n → n ≡ commit_refusal b i x y → (n ≡ 0 → ⊥) → Previews r
  unfolding commit_refusal preview_refusal preview_answer
  preview-no B f e z = previews B (f ∙ sym (refused-is _ _ Refused (stops (retime_questions b i x y) _ e z) z))

  pub preview-yes : {r : Answer Previewed} → AreBytes b → commit_refusal b i x y ≡ 0 → r ≡ figures (figure_answer b vs) (figure_answer next vs) → Previews r
  preview-yes B z e = previews B (e ∙ preview-is B z)
