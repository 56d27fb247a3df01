-- Former records made into records one after the other, and the answer.
use Rattle.std.specs.Prelude.{◌≡◌, Bool, true, false, not, ℕ, suc, ◌+◌, ◌*◌, ◌-◌, ◌<◌, ◌≤◌, length, take}
use Rattle.std.proofs.Math.Path.{refl, ap, ap₂, sym}
use Rattle.std.proofs.Common.{◌∙◌, arith, take-append-drop, drop-drop}
use mathlib.Core.List.{List, ◌++◌, append_assoc, append-nil}
use Rattle.std.proofs.Math.Nat.{sub-zero}
use Rattle.std.proofs.Math.ListN.{drop}
use borrow.Author.Tests.{le-leb, lt-leb, not-false, not-true}
use Rattle.refusals.specs.Refusals.{Given, Refused}
use Rattle.table.specs.Asking.{by_refusal, first_no}
use Rattle.table.specs.Numbers.{record_length}
use Rattle.table.specs.Table.{no_address}
use Rattle.table.proofs.Laws.Reading.{next-count, none_left}
use Rattle.writing.specs.Over.{over}
use Rattle.writing.specs.Records.{front}
use Rattle.former.specs.Former.{former_count, former_length, former_question1}
use Rattle.former.specs.Converted.{Converts, new_record, convert_answer, convert_refusal, convert_writes, converted}
use Rattle.former.proofs.Laws.Apart.{never_both}
use Rattle.former.proofs.Laws.Converted.{converted-long, same-refusal, same-tree, same-unpaired}

-- a record: its former bytes, then those that are no_address
pub record-put : (b : List ℕ) (i : ℕ) (out o₁ o₂ : List ℕ) → let at = record_length * i in
    (take (at + former_length) o₁ ≡ take at out ++ take former_length (drop (former_length * i) b)) × (drop (at + former_length) o₁ ≡ drop (at + former_length) out)
    → (take (at + former_length + 8) o₂ ≡ take (at + former_length) o₁ ++ no_address) × (drop (at + former_length + 8) o₂ ≡ drop (at + former_length + 8) o₁)
    → (front (i + 1) o₂ ≡ front i out ++ new_record (drop (former_length * i) b)) × (drop (record_length * (i + 1)) o₂ ≡ drop (record_length * (i + 1)) out)
record-put b i out o₁ o₂ (x, y) (z, w) =
    let at = record_length * i in
    let e : record_length * (i + 1) ≡ at + former_length + 8 = omega arith in (
      ap (λ k. take k o₂) e ∙ z ∙ ap (λ t. t ++ no_address) x ∙ append_assoc (take at out) _ no_address,
      ap (λ k. drop k o₂) e ∙ w ∙ sym (drop-drop 8 (at + former_length) o₁) ∙ ap (drop 8) y ∙ drop-drop 8 (at + former_length) out ∙ ap (λ k. drop k out) (sym e),
    )

-- the first i records are made, and nothing behind the last of all of them is changed
pub record Making (b : List ℕ) (n : ℕ) (out₀ : List ℕ) (i : ℕ) (out : List ℕ) : Type 0 where
  pub within : i ≤ n
  pub bytes : front i out ++ converted (n - i) (drop (former_length * i) b) ≡ converted n b
  pub behind : drop (record_length * n) out ≡ drop (record_length * n) out₀
  pub kept : length out ≡ length out₀

pub none_made : (b : List ℕ) (n : ℕ) (out : List ℕ) → Making b n out 0 out
none_made b n out = record { within = omega arith; bytes = rw sub-zero refl; behind = refl; kept = refl }

module _ (b : List ℕ) (n : ℕ) (out₀ : List ℕ) (i : ℕ) (out : List ℕ) (m : Making b n out₀ i out) where
  pub one-made : (new : List ℕ) → i < n → length new ≡ length out
      → (front (i + 1) new ≡ front i out ++ new_record (drop (former_length * i) b)) × (drop (record_length * (i + 1)) new ≡ drop (record_length * (i + 1)) out) → Making b n out₀ (i + 1) new
  one-made new l k (x, y) = record { within = omega arith; bytes = step; behind = past; kept = k ∙ m.kept }
    where
      next : drop former_length (drop (former_length * i) b) ≡ drop (former_length * (i + 1)) b
      next = let e : former_length * (i + 1) ≡ former_length * i + former_length = omega arith in rw e (drop-drop former_length (former_length * i) b)

      step : front (i + 1) new ++ converted (n - (i + 1)) (drop (former_length * (i + 1)) b) ≡ converted n b
      step = rw (x, append_assoc, ← next) (go (n - i) (n - (i + 1)) (next-count n i l) m.bytes)
        where
          go : (p q : ℕ) → p ≡ suc q → front i out ++ converted p (drop (former_length * i) b) ≡ converted n b
              → front i out ++ (new_record (drop (former_length * i) b) ++ converted q (drop former_length (drop (former_length * i) b))) ≡ converted n b
          go p q e h = unfold converted in (rw e at h)

      past : drop (record_length * n) new ≡ drop (record_length * n) out₀
      past =
          let d = record_length * n - record_length * (i + 1) in
          let e : record_length * n ≡ record_length * (i + 1) + d = omega arith in
          ap (λ k. drop k new) e ∙ sym (drop-drop d (record_length * (i + 1)) new) ∙ ap (drop d) y ∙ drop-drop d (record_length * (i + 1)) out ∙ ap (λ k. drop k out) (sym e) ∙ m.behind

  pub all_made : former_length * n ≤ length b → n ≤ i → out ≡ over (converted n b) out₀
  all_made h l = unfold over in sym (take-append-drop (record_length * n) out) ∙ ap₂ ◌++◌ all (m.behind ∙ ap (λ k. drop k out₀) (sym (converted-long n b h)))
    where
      end : i ≡ n
      end = omega (arith, m.within, l)

      nothing : (p : ℕ) → p ≡ 0 → front i out ++ converted p (drop (former_length * i) b) ≡ converted n b → front i out ≡ converted n b
      nothing p e q = unfold converted in sym (append-nil (front i out)) ∙ (rw e at q)

      all : front n out ≡ converted n b
      all = ap (λ k. front k out) (sym end) ∙ nothing (n - i) (none_left n i l) m.bytes

-- ---- the answer

module _ (b out : List ℕ) where
  pub too-odd : (r : Bool) → r ≡ former_question1 b → not r ≡ true → (Refused 1 ≡ convert_answer b out) × (out ≡ over (convert_writes b out) out)
  unfolding convert_answer convert_writes convert_refusal first_no by_refusal over
  too-odd r e t = (rw (← e, not-true r t) refl, rw (← e, not-true r t) refl)

  pub too_short : (r : Bool) → r ≡ former_question1 b → not r ≡ false → length out < record_length * former_count b → (Refused 8 ≡ convert_answer b out) × (out ≡ over (convert_writes b out) out)
  unfolding convert_answer convert_writes convert_refusal first_no by_refusal over
  too_short r e t l =
      let f = lt-leb (record_length * former_count b) (length out) l in
      (rw (← e, not-false r t, f) refl, rw (← e, not-false r t, f) refl)

  pub made-whole : (r : Bool) → r ≡ former_question1 b → not r ≡ false → record_length * former_count b ≤ length out
      → (Given (record_length * former_count b) ≡ convert_answer b out) × (converted (former_count b) b ≡ convert_writes b out)
  unfolding convert_answer convert_writes convert_refusal first_no by_refusal
  made-whole r e t l =
      let f = le-leb (record_length * former_count b) (length out) l in
      (rw (← e, not-false r t, f) refl, rw (← e, not-false r t, f) refl)

-- ---- what is promised

pub converts : (b : List ℕ) → Converts b
converts b = record { same_refusal = same-refusal b; unpaired_refusal = same-unpaired b; same_tree = same-tree b; apart = never_both b }
