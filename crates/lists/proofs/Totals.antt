-- The turns and the end of a sum of first members.
use mathlib.Core.Path.{◌≡◌, ap, refl}
use mathlib.Core.Bool.{false}
use Prim.Native.Nat.{◌*◌, ◌+◌, ◌-◌, ◌<◌, ◌^◌, ◌≤◌, suc, ℕ}
use native.Mathlib.Nat.{mul-le-mul_left}
use native.Mathlib.Numerals.{add-one}
use native.Mathlib.Omega.{arith}
use Rattle.lists.specs.declared.List.{List as Listed}
use Rattle.lists.specs.Pairs.{Canonical, Pairs, ever, run, top}
use Rattle.lists.specs.Operations.{count}
use Rattle.lists.specs.Operations.{first}
use Rattle.lists.specs.Laws.Expand.{ever-first, run_past, run-within}
use Rattle.lists.specs.Reading.{Summable, count_at, pairs_of, passes_of, value_at}
use Rattle.lists.proofs.Caps.{passes-false}
use Rattle.lists.proofs.Suffix.{more, suffix, suffix-canonical, suffix-count, suffix-inner, suffix-top, suffix-whole, value_low}

-- all but `left` of the first n members are in the sum, and the rest starts at pair k; c is its count
pub record Totalling (a : Listed) (n k left sum c : ℕ) : Type 0 where
  pub asked : Summable a n
  pub inside : k < a.len
  pub next : c ≡ count_at a.pairs k
  pub fits : sum + left * top (pairs_of a) ≤ n * top (pairs_of a)
  pub made : sum + first (suffix a k) left ≡ first (pairs_of a) n

pub total-start : {a : Listed} {n c : ℕ} → Summable a n → c ≡ count_at a.pairs 0 → Totalling a n 0 n 0 c
total-start {a} q e = record { asked = q; inside = q.list.some; next = e; fits = omega arith; made = rw (suffix-whole a) (omega arith) }

first-stop : (r : Pairs) (m : ℕ) → Canonical r → passes_of (count r) m ≡ false → first r m ≡ m * top r
unfolding count top Canonical
first-stop (ever v) m h e = ever-first v m
first-stop (run v c r) m h e = run-within v c r m (passes-false c m refl e h.0)

module _ {a : Listed} {n k left sum c : ℕ} (t : Totalling a n k left sum c) where
  q : Summable a n
  q = t.asked

  low : {v : ℕ} → v ≡ value_at a.pairs k → v ≤ top (pairs_of a)
  low e = rw e (value_low a q.list k t.inside)

  pub total-turn : {v d : ℕ} → 0 < c → c < left → v ≡ value_at a.pairs k → d ≡ count_at a.pairs (k + 1) → Totalling a n (k + 1) (left - c) (sum + c * v) d
  total-turn {v = v} p e g h =
      let i : suc k < a.len = more a q.list k t.inside (rw t.next at p) in
      let w = top (pairs_of a) in
      let j : ℕ = left - c in
      let e₁ : c + j ≡ left = omega (arith, e) in
      let e₂ : (c + j) * w ≡ left * w = ap (λ x. x * w) e₁ in
      let z = rw (suffix-inner a k i, ← t.next, ← e₁, ← g) at t.made in
      record {
        asked = q;
        inside = omega arith;
        next = h;
        fits = omega (arith, t.fits, e₂, mul-le-mul_left c (low g));
        made = rw (add-one k) (omega (arith, z, run_past v c (suffix a (suc k)) j));
      }

  pub total-fits : {v : ℕ} → v ≡ value_at a.pairs k → sum + left * v < 2 ^ 64
  total-fits g = omega (arith, t.fits, mul-le-mul_left left (low g), q.low)

  pub total-last : {v : ℕ} → passes_of c left ≡ false → v ≡ value_at a.pairs k → sum + left * v ≡ first (pairs_of a) n
  total-last e g =
      let e₁ = rw (t.next, ← suffix-count a q.list k t.inside) at e in
      let f = rw (suffix-top a k t.inside, ← g) at (first-stop (suffix a k) left (suffix-canonical a q.list k t.inside) e₁) in
      omega (arith, t.made, f)
