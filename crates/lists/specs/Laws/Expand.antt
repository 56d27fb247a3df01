-- Prefix sums of pairs.
use Rattle.std.specs.Prelude.{◌≡◌, refl, Bool, cond, false, true, min, ◌*◌, ◌+◌, ◌-◌, ◌<◌, ◌≤◌, suc, ℕ, zero, ltb, leb}
use Rattle.std.proofs.Common.{sym, ◌∙◌, subst, add-sub_of_le, le_of_lt, arith, ltb-false, ltb-true, leb-false, leb-true}
use Rattle.std.proofs.Math.Path.{fun_ext}
use Rattle.std.proofs.Math.Nat.{zero-sub}
use Rattle.lists.specs.Operations.{first, make, lead}
use Rattle.lists.specs.Pairs.{Pairs, ever, run, expand, Canonical, top}
use Rattle.lists.specs.Streams.{S, Stream}
use Rattle.lists.specs.Laws.Sums.{S-inj, Falls}

pub first-zero : (r : Pairs) → first r 0 ≡ 0
unfolding first
first-zero (ever v) = omega arith
first-zero (run v c r) =
    let e : min c 0 ≡ 0 = omega arith in
    rw (e, zero-sub c, first-zero r) (omega arith)

pub first_step : (r : Pairs) (P : ℕ) → first r (suc P) ≡ first r P + expand r P
unfolding first expand
first_step (ever v) P = omega arith
first_step (run v c r) P = go (ltb P c) refl (first_step r (P - c))
  where
    go : (b : Bool) → ltb P c ≡ b → first r (suc (P - c)) ≡ first r (P - c) + expand r (P - c)
        → min c (suc P) * v + first r (suc P - c) ≡ min c P * v + first r (P - c) + cond b v (expand r (P - c))
    go true e h =
        let l : P < c = ltb-true P c e in
        let e₁ : min c (suc P) ≡ suc P = omega arith in
        let e₂ : min c P ≡ P = omega arith in
        let e₃ : suc P - c ≡ 0 = omega arith in
        let e₄ : P - c ≡ 0 = omega arith in
        rw (e₁, e₂, e₃, e₄) (omega arith)
    go false e h =
        let l : c ≤ P = ltb-false P c e in
        let e₁ : min c (suc P) ≡ c = omega arith in
        let e₂ : min c P ≡ c = omega arith in
        let e₃ : suc P - c ≡ suc (P - c) = omega arith in
        rw (e₁, e₂, e₃) (omega (arith, h))

pub expand-first : (r : Pairs) (P : ℕ) → S (expand r) P ≡ first r P
unfolding S
expand-first r zero = sym (first-zero r)
expand-first r (suc P) = omega (arith, first_step r P, expand-first r P)

-- a stream is what pairs come to if the prefix sums agree
pub by_first : (r : Pairs) (f : Stream) → ((P : ℕ) → first r P ≡ S f P) → expand r ≡ f
by_first r f h = fun_ext (S-inj (expand r) f (λ P. expand-first r P ∙ h P))

-- a run is passed whole, or not at all
pub run_past : (v c : ℕ) (r : Pairs) (d : ℕ) → first (run v c r) (c + d) ≡ c * v + first r d
unfolding first
run_past v c r d =
    let e₁ : min c (c + d) ≡ c = omega arith in
    let e₂ : c + d - c ≡ d = omega arith in
    rw (e₁, e₂) refl

pub run-within : (v c : ℕ) (r : Pairs) (P : ℕ) → P ≤ c → first (run v c r) P ≡ P * v
unfolding first
run-within v c r P l =
    let e₁ : min c P ≡ P = omega arith in
    let e₂ : P - c ≡ 0 = omega arith in
    rw (e₁, e₂, first-zero r) (omega arith)

pub ever-first : (v P : ℕ) → first (ever v) P ≡ P * v
unfolding first
ever-first v P = refl

-- a claim on P by a run's end: P is within the run, or past it
pub by-run : (c : ℕ) (Q : ℕ → Type 0) → ((P : ℕ) → P ≤ c → Q P) → ((d : ℕ) → Q (c + d)) → (P : ℕ) → Q P
by-run c Q f g P = go (leb P c) refl
  where
    go : (b : Bool) → leb P c ≡ b → Q P
    go true e = f P (leb-true P c e)
    go false e = let l : c < P = leb-false P c e in subst Q (add-sub_of_le (le_of_lt l)) (g (P - c))

-- canonical pairs never rise
pub expand-le : (r : Pairs) → Canonical r → (i : ℕ) → expand r i ≤ top r
unfolding expand top Canonical
expand-le (ever v) h i = omega arith
expand-le (run v c r) h i = go (ltb i c) (expand-le r h.2 (i - c))
  where
    go : (t : Bool) → expand r (i - c) ≤ top r → cond t v (expand r (i - c)) ≤ v
    go true k = omega arith
    go false k = omega (arith, h.1)

pub expand-falls : (r : Pairs) → Canonical r → Falls (expand r)
unfolding expand Canonical
expand-falls (ever v) h i = omega arith
expand-falls (run v c r) h i = go (ltb i c) refl (ltb (suc i) c) refl (expand-falls r h.2 (i - c))
  where
    go : (x : Bool) → ltb i c ≡ x → (y : Bool) → ltb (suc i) c ≡ y → expand r (suc (i - c)) ≤ expand r (i - c)
        → cond y v (expand r (suc i - c)) ≤ cond x v (expand r (i - c))
    go true e true q k = omega arith
    go true e false q k = omega (arith, h.1, expand-le r h.2 (suc i - c))
    go false e true q k = absurd (omega (arith, ltb-false i c e, ltb-true (suc i) c q))
    go false e false q k =
        let l : c ≤ i = ltb-false i c e in
        let e₁ : suc i - c ≡ suc (i - c) = omega arith in
        rw e₁ k

pub make-run : (v c : ℕ) (r : Pairs) → 0 < c → make v c r ≡ run v c r
unfolding make
make-run v zero r l = absurd (omega arith)
make-run v (suc c) r l = refl

pub lead-run : (v c : ℕ) (r : Pairs) → 0 < c → lead v c r ≡ run v c r
unfolding lead
lead-run v zero r l = absurd (omega arith)
lead-run v (suc c) r l = refl
