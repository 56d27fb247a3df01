-- A call that writes: what it answers and what its buffer then holds, by the number of its refusal.
use Rattle.std.specs.Prelude.{◌≡◌, refl, List, [], ℕ}
use Rattle.std.proofs.Common.{ap, sym, ◌∙◌}
use Rattle.table.specs.Asking.{by_refusal}
use Rattle.table.proofs.Laws.Asking.{answered, refused}
use Rattle.writing.specs.Over.{over}

module _ {A : Type 0} (n : ℕ) (x : A) (f : ℕ → A) (front out : List ℕ) where
  abbrev pub Answers : A → (new : List ℕ) → Type 0
  Answers r new = (r ≡ by_refusal n x f) × (new ≡ over (by_refusal n front (λ q. [])) out)

  -- a refusal changes nothing
  pub refuses : {q : ℕ} → n ≡ q → (q ≡ 0 → ⊥) → Answers (f q) out
  unfolding over
  refuses e z = (sym (refused n x f e z), rw (refused n front (λ q. []) e z) refl)

  pub writes : {r : A} {new : List ℕ} → n ≡ 0 → r ≡ x → new ≡ over front out → Answers r new
  writes e i w = (i ∙ sym (answered n x f e), w ∙ ap (λ y. over y out) (sym (answered n front (λ q. []) e)))

-- another spelling of the answer does as well
pub told : {A B : Type 0} {r s a : A} → r ≡ s → (s ≡ a) × B → (r ≡ a) × B
told e h = (e ∙ h.0, h.1)
