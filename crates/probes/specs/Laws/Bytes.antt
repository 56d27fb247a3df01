-- The comparison byte by byte: what it knows after one byte more, and after all.
use Rattle.std.specs.Prelude.{◌≡◌, List, [], ◌∷◌, ◌++◌, ℕ, ◌+◌, ◌<◌, ◌≤◌, get_or, length, take}
use Rattle.std.proofs.Common.{sym, ap₂, ◌∙◌, add-one, arith, take_all, take-suc}

module _ (a b : List ℕ) (k : ℕ) where
  pub one_more : k < length a → k < length b → take k a ≡ take k b → get_or a k 0 ≡ get_or b k 0 → take (k + 1) a ≡ take (k + 1) b
  one_more l m h e = rw (add-one, take-suc a k 0 l, take-suc b k 0 m) (ap₂ (λ x y. x ++ y ∷ []) h e)

  pub all-equal : length a ≡ length b → length a ≤ k → take k a ≡ take k b → a ≡ b
  all-equal e l h = sym (take_all k a l) ∙ h ∙ take_all k b (omega (arith, e, l))
