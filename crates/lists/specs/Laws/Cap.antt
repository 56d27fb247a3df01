-- The limit of pairs: what it expands to, canonical, its size.
use Rattle.std.specs.Prelude.{◌≡◌, refl, Bool, cond, false, true, ◌-◌, ◌<◌, min, ℕ, ◌*◌, ◌≤◌, suc, zero, ◌+◌, leb}
use Rattle.std.proofs.Common.{ap, ◌∙◌, sym, arith, leb-false, leb-true}
use Rattle.lists.specs.Operations.{first, capped, lead, cap_pairs}
use Rattle.lists.specs.Pairs.{Canonical, Pairs, places, top, width, ever, run, expand}
use Rattle.lists.specs.Streams.{cap}
use Rattle.lists.specs.Laws.Expand.{first-zero, by_first, expand-first}
use Rattle.lists.specs.Laws.Sums.{S-cap}

cap-split : (c m P : ℕ) → c < m → min m P - c ≡ min (m - c) (P - c)
cap-split c m P l = omega arith

pub record Capped (v m : ℕ) (r : Pairs) : Type 0 where
  pub sums : (P : ℕ) → first r P ≡ min m P * v
  pub canonical : Canonical r
  pub low : top r ≤ v
  pub thin : width r ≤ 1
  pub few : places r ≤ m

pub capped_is : (v m : ℕ) → Capped v m (capped v m)
unfolding first capped lead Canonical top width places
capped_is zero m = record { sums = λ P. omega arith; canonical = tt; low = omega arith; thin = omega arith; few = omega arith }
capped_is (suc v) zero = record {
  sums = λ P.
      let e₁ : min 0 P ≡ 0 = omega arith in
      rw e₁ (omega arith);
  canonical = tt;
  low = omega arith;
  thin = omega arith;
  few = omega arith;
}
capped_is (suc v) (suc m) =
    record { sums = λ P. omega arith; canonical = (omega arith, omega arith, tt); low = omega arith; thin = omega arith; few = omega arith }

pub cap-first : (m : ℕ) (r : Pairs) (P : ℕ) → first (cap_pairs m r) P ≡ first r (min m P)
unfolding first cap_pairs
cap-first m (ever v) P = (capped_is v m).sums P
cap-first m (run v c r) P = go (leb m c) refl (cap-first (m - c) r (P - c))
  where
    go : (b : Bool) → leb m c ≡ b → first (cap_pairs (m - c) r) (P - c) ≡ first r (min (m - c) (P - c))
        → first (cond b (capped v m) (run v c (cap_pairs (m - c) r))) P ≡ min c (min m P) * v + first r (min m P - c)
    go true e h =
        let l : m ≤ c = leb-true m c e in
        let e₁ : min c (min m P) ≡ min m P = omega arith in
        let e₂ : min m P - c ≡ 0 = omega arith in
        rw (e₁, e₂, first-zero r) (omega (arith, (capped_is v m).sums P))
    go false e h =
        let l : c < m = leb-false m c e in
        let e₁ : min c (min m P) ≡ min c P = omega arith in
        rw (e₁, cap-split c m P) (ap (λ k. min c P * v + k) h)

-- a limit's pairs expand to the limit of what the pairs expand to
pub cap-is : (m : ℕ) (r : Pairs) → expand (cap_pairs m r) ≡ cap m (expand r)
cap-is m r = by_first _ _ (λ P. cap-first m r P ∙ sym (S-cap m (expand r) P ∙ expand-first r (min m P)))

pub record CapFacts (m : ℕ) (r s : Pairs) : Type 0 where
  pub canonical : Canonical s
  pub low : top s ≤ top r
  pub thin : width s ≤ suc (width r)
  pub few : places s ≤ m

pub cap-facts : (m : ℕ) (r : Pairs) → Canonical r → CapFacts m r (cap_pairs m r)
unfolding cap_pairs Canonical top width places
cap-facts m (ever v) h = let k = capped_is v m in record { canonical = k.canonical; low = k.low; thin = k.thin; few = k.few }
cap-facts m (run v c r) h = go (leb m c) refl (cap-facts (m - c) r h.2)
  where
    go : (b : Bool) → leb m c ≡ b → CapFacts (m - c) r (cap_pairs (m - c) r) → CapFacts m (run v c r) (cond b (capped v m) (run v c (cap_pairs (m - c) r)))
    go true e f = let k = capped_is v m in record { canonical = k.canonical; low = k.low; thin = omega (arith, k.thin); few = k.few }
    go false e f =
        let l : c < m = leb-false m c e in
        record { canonical = (h.0, omega (arith, f.low, h.1), f.canonical); low = omega arith; thin = omega (arith, f.thin); few = omega (arith, f.few) }
