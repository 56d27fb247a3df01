-- What calls of a pure function at one number after the other give, as the library makes an array of them.
use Rattle.std.specs.Prelude.{◌≡◌, List, ℕ, zero, suc, ◌+◌, ◌<◌, get_or}
use Rattle.std.proofs.Common.{subst, ◌∙◌, add-zero, zero-add, arith}
use Rattle.std.specs.Array.{IsFromFnResult, IsFromFnResultFrom}
use denote.Param.Members.{Called, Mut}

each-made : {F : Type 0} (g : Mut F (ℕ × Unit {0}) ℕ) (f : F) (h : ℕ → ℕ) (ys : List ℕ) → ((x r : ℕ) (q : F) → Called g f (x, tt) r q → (q ≡ f) × (r ≡ h x))
    → (i n : ℕ) → IsFromFnResultFrom g f ys i n → (k : ℕ) → k < n → get_or ys (i + k) 0 ≡ h (i + k)
each-made g f h ys pure i zero e k l = absurd (omega arith)
each-made g f h ys pure i (suc n) (q, y, at, called, rest) zero l = rw add-zero (at.1 0 ∙ (pure i y q called).1)
each-made g f h ys pure i (suc n) (q, y, at, called, rest) (suc k) l =
    let e : i + 1 + k ≡ i + suc k = omega arith in
    let here = each-made g f h ys pure (i + 1) n (subst (λ s. IsFromFnResultFrom g s ys (i + 1) n) (pure i y q called).0 rest) k (omega arith) in
    subst (λ j. get_or ys j 0 ≡ h j) e here

pub made : {F : Type 0} (g : Mut F (ℕ × Unit {0}) ℕ) (f : F) (h : ℕ → ℕ) (ys : List ℕ) (n : ℕ) → ((x r : ℕ) (q : F) → Called g f (x, tt) r q → (q ≡ f) × (r ≡ h x)) → IsFromFnResult g f ys n
    → (k : ℕ) → k < n → get_or ys k 0 ≡ h k
made g f h ys n pure e k l = subst (λ j. get_or ys j 0 ≡ h j) (zero-add k) (each-made g f h ys pure 0 n e.each k l)
