-- The groups of pairs: what they expand to, canonical, their size.
use Rattle.std.specs.Prelude.{◌≡◌, refl, Bool, false, true, cond, ◌*◌, ◌+◌, ◌<◌, ◌≤◌, ℕ, suc, zero, ◌-◌, ◌%◌, ◌/◌, leb, eqb, ltb}
use Rattle.std.proofs.Common.{ap, ◌∙◌, sym, le_of_lt, mul-le-mul_left, mul-le-mul_right, mod-lt, mul-zero, zero-add, arith, leb-false, leb-true, eqb-true, ltb-false, ltb-true}
use Rattle.std.proofs.Math.Nat.{div-add-mod, sub-zero}
use Rattle.std.proofs.lemmas.Bool.{eqb-false}
use Rattle.lists.specs.Operations.{some, first, lead, group_from, turn_of, group_pairs}
use Rattle.lists.specs.Pairs.{Canonical, Pairs, places, top, width, run, ever, expand}
use Rattle.lists.specs.Streams.{S, group}
use Rattle.lists.specs.declared.Turn.{Turn}
use Rattle.lists.specs.Laws.Add.{positive}
use Rattle.lists.specs.Laws.Expand.{first-zero, run_past, run-within, by-run, ever-first, by_first, expand-first}
use Rattle.lists.specs.Laws.Sums.{S-group}

-- a pair in front, or none
pub record Led (v c : ℕ) (r s : Pairs) : Type 0 where
  pub within : (P : ℕ) → P ≤ c → first s P ≡ P * v
  pub past : (d : ℕ) → first s (c + d) ≡ c * v + first r d
  pub canonical : Canonical r → (0 < c → top r < v) → Canonical s
  pub low : (b : ℕ) → v ≤ b → top r ≤ b → top s ≤ b
  pub thin : width s ≤ some c + width r
  pub few : places s ≤ c + places r

pub lead_is : (v c : ℕ) (r : Pairs) → Led v c r (lead v c r)
unfolding lead Canonical top width places some
lead_is v zero r = record {
  within = λ P l. let e : P ≡ 0 = omega arith in rw e (omega (arith, first-zero r));
  past = λ d. let e : 0 + d ≡ d = omega arith in rw e (omega arith);
  canonical = λ h k. h;
  low = λ b x y. y;
  thin = omega arith;
  few = omega arith;
}
lead_is v (suc c) r = record {
  within = λ P l. run-within v (suc c) r P l;
  past = λ d. run_past v (suc c) r d;
  canonical = λ h k. (omega arith, k (omega arith), h);
  low = λ b x y. x;
  thin = omega arith;
  few = omega arith;
}

-- the first k of a run
pub run_drop : (v c : ℕ) (r : Pairs) (k d : ℕ) → k ≤ c → first (run v c r) (k + d) ≡ k * v + first (run v (c - k) r) d
run_drop v c r k d l = by-run (c - k) (λ d. first (run v c r) (k + d) ≡ k * v + first (run v (c - k) r) d)
    (λ d j. omega (arith, run-within v (c - k) r d j, run-within v c r (k + d) (omega arith)))
    (λ d.
    let e₁ : k + (c - k + d) ≡ c + d = omega arith in
    let e₂ : k + (c - k) ≡ c = omega arith in
    rw e₁ (omega (arith, run_past v (c - k) r d, run_past v c r d, ap (λ x. x * v) e₂)))
    d

pub one-past : (x : ℕ) (r : Pairs) (P : ℕ) → first (run x 1 r) (suc P) ≡ x + first r P
one-past x r P =
    let e : suc P ≡ 1 + P = omega arith in
    rw e (omega (arith, run_past x 1 r P))

-- t is the groups of r, a group of n being begun with m members of the sum a
pub record Grouped (n m a : ℕ) (r t : Pairs) : Type 0 where
  pub sums : (P : ℕ) → first t (suc P) ≡ a + first r (n - m + n * P)
  pub canonical : Canonical t
  pub low : top t ≤ a + (n - m) * top r
  pub thin : width t ≤ 2 * width r + some m
  pub few : places t ≤ places r + some m

pub some-le : (h : ℕ) → some h ≤ h
unfolding some
some-le zero = omega arith
some-le (suc h) = omega arith

pub some-le-one : (x : ℕ) → some x ≤ 1
unfolding some
some-le-one zero = omega arith
some-le-one (suc x) = omega arith

pub some-none : (x : ℕ) → x ≡ 0 → some x ≡ 0
unfolding some
some-none zero l = refl
some-none (suc x) l = absurd (omega arith)

pub some_one : (x : ℕ) → 0 < x → some x ≡ 1
unfolding some
some_one zero l = absurd (omega arith)
some_one (suc x) l = refl

-- whole groups of a run, with the group begun at its end
pub record Whole (n v c : ℕ) (r u : Pairs) : Type 0 where
  pub sums : (P : ℕ) → first u P ≡ first (run v c r) (n * P)
  pub canonical : Canonical u
  pub low : top u ≤ n * v
  pub thin : width u ≤ 2 * width r + 2
  pub few : places u ≤ c + places r

pub whole_is : (n v c q h : ℕ) (r t : Pairs) → n * q + h ≡ c → h < n → top r < v → Grouped n h (h * v) r t → Whole n v c r (lead (n * v) q t)
whole_is n v c q h r t e l d g = record {
  sums = λ P. sums P (leb P q) refl;
  canonical = led.canonical g.canonical (λ p. below);
  low = led.low (n * v) (omega arith) (le_of_lt below);
  thin = omega (arith, led.thin, g.thin, some-le-one q, some-le-one h);
  few = omega (arith, led.few, g.few, some-le h, many);
}
  where
    led : Led (n * v) q t (lead (n * v) q t)
    led = lead_is (n * v) q t

    many : q ≤ n * q
    many = let k : 1 ≤ n = omega arith in omega (arith, mul-le-mul_right q k)

    below : top t < n * v
    below =
        let j : ℕ = n - h in
        let e₁ : h + j ≡ n = omega arith in
        let k : 1 ≤ j = omega arith in
        let e₂ : (h + j) * v ≡ n * v = ap (λ x. x * v) e₁ in
        let e₃ : j * suc (top r) ≤ j * v = mul-le-mul_left j d in
        let e₄ : top t ≤ h * v + j * top r = g.low in
        omega arith

    sums : (P : ℕ) (b : Bool) → leb P q ≡ b → first (lead (n * v) q t) P ≡ first (run v c r) (n * P)
    sums P true b =
        let k : P ≤ q = leb-true P q b in
        let k₂ : n * P ≤ n * q = mul-le-mul_left n k in
        omega (arith, led.within P k, run-within v c r (n * P) (omega arith))
    sums P false b =
        let k : q < P = leb-false P q b in
        let j : ℕ = P - suc q in
        let e₁ : P ≡ q + suc j = omega arith in
        let e₂ : n * P ≡ n * (q + suc j) = ap (λ x. n * x) e₁ in
        let e₃ : n * P ≡ c + (n - h + n * j) = omega arith in
        let e₄ : first (run v c r) (n * P) ≡ c * v + first r (n - h + n * j) = rw e₃ (run_past v c r (n - h + n * j)) in
        let e₅ : first (lead (n * v) q t) P ≡ q * (n * v) + (h * v + first r (n - h + n * j))
        = ap (first _) e₁ ∙ led.past (suc j) ∙ ap (λ x. q * (n * v) + x) (g.sums j) in
        let e₆ : (n * q + h) * v ≡ c * v = ap (λ x. x * v) e in
        omega (arith, e₄, e₅, e₆)

-- a begun group has members above what comes next
pub from_is : (n m a : ℕ) (r : Pairs) → Canonical r → m < n → m * suc (top r) ≤ a → (m ≡ 0 → a ≡ 0) → Grouped n m a r (group_from n m a r)
unfolding group_from Canonical top width places lead some turn_of
from_is n zero a (ever v) h l k z =
    let a₀ : a ≡ 0 = z refl in
    record {
      sums = λ P. rw sub-zero (ever-first (n * v) (suc P) ∙ omega (arith, ever-first v (n + n * P)));
      canonical = tt;
      low = rw sub-zero (omega arith);
      thin = omega arith;
      few = omega arith;
    }
from_is n (suc m) a (ever v) h l k z =
    let j : ℕ = n - suc m in
    let e₁ : suc m + j ≡ n = omega arith in
    let e₂ : (suc m + j) * v ≡ n * v = ap (λ x. x * v) e₁ in
    record {
      sums = λ P. one-past (a + j * v) (ever (n * v)) P ∙ omega (arith, ever-first (n * v) P, ever-first v (j + n * P));
      canonical = (omega arith, omega arith, tt);
      low = omega arith;
      thin = omega arith;
      few = omega arith;
    }
from_is n m a (run v c r) h l k z = split (eqb m 0) refl (ltb c (n - m)) refl (λ m a x y w. from_is n m a r h.2 x y w)
  where
    T : Turn → Type 0
    T t = Grouped n m a (run v c r) (lead t.mixed t.ends (lead (n * v) t.times (group_from n t.held t.sum r)))

    Next : Type 0
    Next = (m a : ℕ) → m < n → m * suc (top r) ≤ a → (m ≡ 0 → a ≡ 0) → Grouped n m a r (group_from n m a r)

    j : ℕ
    j = n - m

    whole : (c : ℕ) → Next → Whole n v c r (lead (n * v) (c / n) (group_from n (c % n) (c % n * v) r))
    whole c ih =
        let lt : c % n < n = mod-lt c (omega arith) in
        whole_is n v c (c / n) (c % n) r _ (div-add-mod c n) lt h.1
        (ih (c % n) (c % n * v) lt (mul-le-mul_left (c % n) h.1) (λ e. rw e (omega arith)))

    split : (b : Bool) → eqb m 0 ≡ b → (d : Bool) → ltb c (n - m) ≡ d → Next
        → T (cond b (record { mixed = 0; ends = 0; times = c / n; held = c % n; sum = c % n * v })
        (cond d (record { mixed = 0; ends = 0; times = 0; held = m + c; sum = a + c * v })
        (record { mixed = a + (n - m) * v; ends = 1; times = (c - (n - m)) / n; held = (c - (n - m)) % n; sum = (c - (n - m)) % n * v })))
    split true e d q ih =
        let m₀ : m ≡ 0 = eqb-true m 0 e in
        let a₀ : a ≡ 0 = z m₀ in
        let j₀ : n - m ≡ n = omega arith in
        let w = whole c ih in
        record {
          sums = λ P.
              let e₁ : n * suc P ≡ n - m + n * P = omega arith in
              w.sums (suc P) ∙ ap (first (run v c r)) e₁ ∙ omega arith;
          canonical = w.canonical;
          low = rw j₀ (omega (arith, w.low));
          thin = omega (arith, w.thin);
          few = omega (arith, w.few);
        }
    split false e true q ih =
        let g : c < n - m = ltb-true c (n - m) q in
        let i : ℕ = n - (m + c) in
        let e₁ : n - m ≡ c + i = omega arith in
        let t : Grouped n (m + c) (a + c * v) r (group_from n (m + c) (a + c * v) r)
        = ih (m + c) (a + c * v) (omega arith) (omega (arith, k, mul-le-mul_left m h.1, mul-le-mul_left c h.1)) (λ x. absurd (omega (arith, h.0))) in
        record {
          sums = λ P.
              let e₂ : n - m + n * P ≡ c + (i + n * P) = omega arith in
              let e₃ : first (run v c r) (n - m + n * P) ≡ c * v + first r (i + n * P) = rw e₂ (run_past v c r (i + n * P)) in
              omega (arith, e₃, t.sums P);
          canonical = t.canonical;
          low =
              let x : i * top r ≤ i * v = mul-le-mul_left i (le_of_lt h.1) in
              let y : top (group_from n (m + c) (a + c * v) r) ≤ a + c * v + i * top r = t.low in
              rw e₁ (omega arith);
          thin = omega (arith, t.thin, some-le-one (m + c));
          few = omega (arith, t.few, some-le-one (m + c), h.0);
        }
    split false e false q ih =
        let g : n - m ≤ c = ltb-false c (n - m) q in
        let p : 0 < m = positive m (eqb-false m 0 e) in
        let w = whole (c - j) ih in
        let e₁ : m + j ≡ n = omega arith in
        let e₂ : (m + j) * v ≡ n * v = ap (λ x. x * v) e₁ in
        record {
          sums = λ P. one-past (a + j * v) _ P ∙ omega (arith, w.sums P, run_drop v c r j (n * P) g);
          canonical = (omega arith, omega (arith, w.low, k), w.canonical);
          low = omega arith;
          thin = omega (arith, w.thin, some_one m p);
          few = omega (arith, w.few, some_one m p);
        }

-- a loop's pairs expand to the groups of what the pairs expand to
pub group-facts : (n : ℕ) (r : Pairs) → Canonical r → 0 < n → Grouped n 0 0 r (group_from n 0 0 r)
group-facts n r h l = from_is n 0 0 r h l (omega arith) (λ e. refl)

pub from-expands : (n : ℕ) (r : Pairs) → Canonical r → 0 < n → expand (group_from n 0 0 r) ≡ group n (expand r)
from-expands n r h l = by_first _ _ go
  where
    go : (P : ℕ) → first (group_from n 0 0 r) P ≡ S (group n (expand r)) P
    go zero = first-zero _ ∙ sym (S-group n (expand r) 0 ∙ expand-first r (n * 0) ∙ ap (first r) (mul-zero n) ∙ first-zero r)
    go (suc P) =
        let e : n * suc P ≡ n - 0 + n * P = omega arith in
        (group-facts n r h l).sums P ∙ zero-add _ ∙ sym (S-group n (expand r) (suc P) ∙ expand-first r (n * suc P) ∙ ap (first r) e)

pub group-is : (n : ℕ) (r : Pairs) → Canonical r → expand (group_pairs n r) ≡ group n (expand r)
unfolding group_pairs
group-is zero r h = by_first _ _ (λ P. ever-first 0 P ∙ omega (arith, S-group 0 (expand r) P, expand-first r (0 * P), zero-first P))
  where
    zero-first : (P : ℕ) → first r (0 * P) ≡ 0
    zero-first P = let e : 0 * P ≡ 0 = omega arith in rw e (first-zero r)
group-is (suc n) r h = from-expands (suc n) r h (omega arith)

pub group-canonical : (n : ℕ) (r : Pairs) → Canonical r → Canonical (group_pairs n r)
unfolding group_pairs Canonical
group-canonical zero r h = tt
group-canonical (suc n) r h = (group-facts (suc n) r h (omega arith)).canonical

pub group-thin : (n : ℕ) (r : Pairs) → Canonical r → (width (group_pairs n r) ≤ 2 * width r) × (places (group_pairs n r) ≤ places r)
unfolding group_pairs width places some
group-thin zero r h = (omega arith, omega arith)
group-thin (suc n) r h = let g = group-facts (suc n) r h (omega arith) in (omega (arith, g.thin), omega (arith, g.few))

-- the first member of the groups is the sum of the first n members
pub group-low : (n : ℕ) (r : Pairs) → Canonical r → top (group_pairs n r) ≤ n * top r
unfolding group_pairs top
group-low zero r h = omega arith
group-low (suc n) r h = let g = (group-facts (suc n) r h (omega arith)).low in omega (arith, rw sub-zero at g)

pub group-none : (n : ℕ) (r : Pairs) → n ≡ 0 → group_pairs n r ≡ ever 0
unfolding group_pairs
group-none zero r e = refl
group-none (suc n) r e = absurd (omega arith)

pub group-some : (n : ℕ) (r : Pairs) → (n ≡ 0 → ⊥) → group_pairs n r ≡ group_from n 0 0 r
unfolding group_pairs
group-some zero r f = absurd (f refl)
group-some (suc n) r f = refl

pub first_one : (r : Pairs) → Canonical r → first r 1 ≡ top r
unfolding Canonical top
first_one (ever v) h = omega (arith, ever-first v 1)
first_one (run v c r) h = omega (arith, run-within v c r 1 h.0)

-- the first member of the groups is the sum of the first n members
pub group-top : (n : ℕ) (r : Pairs) → Canonical r → top (group_pairs n r) ≡ first r n
unfolding group_pairs top
group-top zero r h = sym (first-zero r)
group-top (suc n) r h =
    let g = group-facts (suc n) r h (omega arith) in
    let e : suc n - 0 + suc n * 0 ≡ suc n = omega arith in
    sym (first_one _ g.canonical) ∙ rw e at (g.sums 0) ∙ zero-add _
