-- The sum of pairs: what it expands to, canonical, its size, and how a program comes by it.
use Rattle.std.specs.Prelude.{◌≡◌, refl, Bool, cond, false, true, ◌<◌, suc, zero, ℕ, ◌*◌, ◌+◌, ◌-◌, ◌≤◌, min, max, leb}
use Rattle.std.proofs.Common.{ap, sym, ◌∙◌, ap₂, arith, leb-false, leb-true}
use Rattle.lists.specs.Operations.{count, first, skip, shorter, add_within, make, add_pairs}
use Rattle.lists.specs.Pairs.{Canonical, Pairs, places, top, width, ever, run, expand}
use Rattle.lists.specs.Streams.{add}
use Rattle.lists.specs.Laws.Expand.{by-run, ever-first, run_past, run-within, by_first, expand-first}
use Rattle.lists.specs.Laws.Pairs.{unique-pairs}
use Rattle.lists.specs.Laws.Sums.{S-add, S-inj}

pub positive : (x : ℕ) → (x ≡ 0 → ⊥) → 0 < x
positive zero f = absurd (f refl)
positive (suc x) f = omega arith

-- what is left after m members that lie in the first pair; r may be for ever
pub record Skipped (m : ℕ) (r s : Pairs) : Type 0 where
  pub within : (P : ℕ) → P ≤ m → first r P ≡ P * top r
  pub past : (d : ℕ) → first r (m + d) ≡ m * top r + first s d
  pub canonical : Canonical s
  pub low : top s ≤ top r
  pub thin : width s ≤ width r
  pub used : m ≡ count r → (top s < top r) × (width s < width r)
  pub few : places s ≤ places r - m

pub skip_is : (m : ℕ) (r : Pairs) → Canonical r → 0 < m → (0 < count r → m ≤ count r) → Skipped m r (skip m r)
unfolding skip Canonical top width places count
skip_is m (ever v) h p l = record {
  within = λ P k. ever-first v P;
  past = λ d. omega (arith, ever-first v (m + d), ever-first v d);
  canonical = tt;
  low = omega arith;
  thin = omega arith;
  used = λ e. absurd (omega arith);
  few = omega arith;
}
skip_is m (run v c r) h p l = go (leb c m) refl
  where
    g : m ≤ c
    g = l h.0

    go : (b : Bool) → leb c m ≡ b → Skipped m (run v c r) (cond b r (run v (c - m) r))
    go true e =
        let z : m ≡ c = omega (arith, leb-true c m e, g) in
        record {
          within = λ P k. run-within v c r P (omega (arith, g));
          past = λ d. rw z (run_past v c r d);
          canonical = h.2;
          low = omega (arith, h.1);
          thin = omega arith;
          used = λ e. (h.1, omega arith);
          few = omega arith;
        }
    go false e =
        let k : m < c = leb-false c m e in
        record {
          within = λ P k. run-within v c r P (omega (arith, g));
          past = by-run (c - m) (λ d. first (run v c r) (m + d) ≡ m * v + first (run v (c - m) r) d)
              (λ d j. omega (arith, run-within v (c - m) r d j, run-within v c r (m + d) (omega arith)))
              (λ d.
              let e₁ : m + (c - m + d) ≡ c + d = omega arith in
              let e₂ : m + (c - m) ≡ c = omega arith in
              rw e₁ (omega (arith, run_past v (c - m) r d, run_past v c r d, ap (λ x. x * v) e₂)));
          canonical = (omega arith, h.1, h.2);
          low = omega arith;
          thin = omega arith;
          used = λ q. absurd (omega arith);
          few = omega arith;
        }

-- the shorter of two counts lies within both, and is one of them
pub record Shorter (c d m : ℕ) : Type 0 where
  pub left : 0 < c → m ≤ c
  pub right : 0 < d → m ≤ d
  pub none : m ≡ 0 → (c ≡ 0) × (d ≡ 0)
  pub one : 0 < m → (b : Bool) × (cond b c d ≡ m)

pub shorter-is : (c d : ℕ) → Shorter c d (shorter c d)
unfolding shorter
shorter-is zero d = record { left = λ p. absurd (omega arith); right = λ p. omega arith; none = λ m. (refl, m); one = λ p. (false, refl) }
shorter-is (suc c) zero = record { left = λ p. omega arith; right = λ p. absurd (omega arith); none = λ m. absurd (omega arith); one = λ p. (true, refl) }
shorter-is (suc c) (suc d) = record { left = λ p. omega arith; right = λ p. omega arith; none = λ m. absurd (omega arith); one = λ p. go (leb c d) refl }
  where
    go : (b : Bool) → leb c d ≡ b → (b : Bool) × (cond b (suc c) (suc d) ≡ min (suc c) (suc d))
    go true e = (true, omega (arith, leb-true c d e))
    go false e = (false, omega (arith, leb-false c d e))

-- canonical pairs with count 0 are for ever
pub ever-of : (r : Pairs) → Canonical r → count r ≡ 0 → r ≡ ever (top r)
unfolding Canonical count top
ever-of (ever v) h e = refl
ever-of (run v c r) h e = absurd (omega (arith, h.0))

pub width-zero : (r : Pairs) → width r ≡ 0 → r ≡ ever (top r)
unfolding width top
width-zero (ever v) e = refl
width-zero (run v c r) e = absurd (omega arith)

pub record Sum (r s t : Pairs) : Type 0 where
  pub sums : (P : ℕ) → first t P ≡ first r P + first s P
  pub canonical : Canonical t
  pub head : top t ≡ top r + top s
  pub thin : width t ≤ width r + width s
  pub few : places t ≤ max (places r) (places s)

pub both-ever : (r s : Pairs) → Canonical r → Canonical s → r ≡ ever (top r) → s ≡ ever (top s) → Sum r s (ever (top r + top s))
unfolding Canonical top width places
both-ever (ever v) (ever w) h k e q =
    record { sums = λ P. omega (arith, ever-first (v + w) P, ever-first v P, ever-first w P); canonical = tt; head = refl; thin = omega arith; few = omega arith }
both-ever (run v c r) s h k e q = absurd (let z : ◌≡◌ {A = ℕ} 0 1 = cc in omega arith)
both-ever (ever v) (run w d s) h k e q = absurd (let z : ◌≡◌ {A = ℕ} 0 1 = cc in omega arith)

pub count-le : (r : Pairs) → count r ≤ places r
unfolding count places
count-le (ever v) = omega arith
count-le (run v c r) = omega arith

pub sum_step : (m : ℕ) (r s r' s' t : Pairs) → 0 < m → Skipped m r r' → Skipped m s s' → (b : Bool) → cond b (count r) (count s) ≡ m
    → Sum r' s' t → Sum r s (run (top r + top s) m t)
unfolding Canonical top width places
sum_step m r s r' s' t p a b i e u = record {
  sums = by-run m (λ P. first (run (top r + top s) m t) P ≡ first r P + first s P)
      (λ P j. omega (arith, run-within (top r + top s) m t P j, a.within P j, b.within P j))
      (λ d. omega (arith, run_past (top r + top s) m t d, a.past d, b.past d, u.sums d));
  canonical = (p, (go i e).0, u.canonical);
  head = refl;
  thin = (go i e).1;
  few = most i e;
}
  where
    most : (i : Bool) → cond i (count r) (count s) ≡ m → m + places t ≤ max (places r) (places s)
    most true e = let k : m ≤ places r = omega (arith, count-le r) in omega (arith, u.few, a.few, b.few)
    most false e = let k : m ≤ places s = omega (arith, count-le s) in omega (arith, u.few, a.few, b.few)

    go : (i : Bool) → cond i (count r) (count s) ≡ m → (top t < top r + top s) × (suc (width t) ≤ width r + width s)
    go true e = let f = a.used (sym e) in (omega (arith, u.head, f.0, b.low), omega (arith, u.thin, f.1, b.thin))
    go false e = let f = b.used (sym e) in (omega (arith, u.head, f.0, a.low), omega (arith, u.thin, f.1, a.thin))

pub within-is : (f : ℕ) (r s : Pairs) → Canonical r → Canonical s → width r + width s ≤ f → Sum r s (add_within f r s)
unfolding add_within make
within-is zero r s h k l = both-ever r s h k (width-zero r (omega arith)) (width-zero s (omega arith))
within-is (suc f) r s h k l = go (shorter (count r) (count s)) (shorter-is (count r) (count s)) (λ r s a b l. within-is f r s a b l)
  where
    fuel : (m : ℕ) (r' s' : Pairs) → Skipped m r r' → Skipped m s s' → (b : Bool) → cond b (count r) (count s) ≡ m → width r' + width s' ≤ f
    fuel m r' s' a b true e = omega (arith, (a.used (sym e)).1, b.thin, l)
    fuel m r' s' a b false e = omega (arith, (b.used (sym e)).1, a.thin, l)

    go : (m : ℕ) → Shorter (count r) (count s) m
        → ((r s : Pairs) → Canonical r → Canonical s → width r + width s ≤ f → Sum r s (add_within f r s))
        → Sum r s (make (top r + top s) m (add_within f (skip m r) (skip m s)))
    go zero sh ih = let z = sh.none refl in both-ever r s h k (ever-of r h z.0) (ever-of s k z.1)
    go (suc m) sh ih =
        let p : 0 < suc m = omega arith in
        let a = skip_is (suc m) r h p sh.left in
        let b = skip_is (suc m) s k p sh.right in
        let o = sh.one p in
        sum_step (suc m) r s _ _ _ p a b o.0 o.1 (ih _ _ a.canonical b.canonical (fuel (suc m) _ _ a b o.0 o.1))

pub add-facts : (r s : Pairs) → Canonical r → Canonical s → Sum r s (add_pairs r s)
unfolding add_pairs
add-facts r s h k = within-is (width r + width s) r s h k (omega arith)

-- a sum's pairs expand to the sum of what the pairs expand to
pub add_is : (r s : Pairs) → Canonical r → Canonical s → expand (add_pairs r s) ≡ add (expand r) (expand s)
add_is r s h k =
    by_first _ _ (λ P. (add-facts r s h k).sums P ∙ sym (S-add (expand r) (expand s) P ∙ ap₂ (λ a b. a + b) (expand-first r P) (expand-first s P)))

-- sums are fixed by their members
pub sum-unique : (r s t u : Pairs) → Sum r s t → Sum r s u → t ≡ u
sum-unique r s t u a b =
    unique-pairs t u a.canonical b.canonical
    (S-inj (expand t) (expand u) (λ P. expand-first t P ∙ a.sums P ∙ sym (expand-first u P ∙ b.sums P)))

-- the first pair of a sum, and the rest
pub add_step : (m : ℕ) (r s : Pairs) → Canonical r → Canonical s → m ≡ shorter (count r) (count s) → 0 < m
    → add_pairs r s ≡ run (top r + top s) m (add_pairs (skip m r) (skip m s))
add_step m r s h k e p =
    let sh : Shorter (count r) (count s) m = rw e (shorter-is (count r) (count s)) in
    let a = skip_is m r h p sh.left in
    let b = skip_is m s k p sh.right in
    let o = sh.one p in
    sum-unique r s _ _ (add-facts r s h k)
    (sum_step m r s _ _ _ p a b o.0 o.1 (add-facts (skip m r) (skip m s) a.canonical b.canonical))

-- a sum that is one pair
pub add-stop : (r s : Pairs) → Canonical r → Canonical s → 0 ≡ shorter (count r) (count s) → add_pairs r s ≡ ever (top r + top s)
add-stop r s h k e =
    let sh : Shorter (count r) (count s) 0 = rw e (shorter-is (count r) (count s)) in
    let z = sh.none refl in
    sum-unique r s _ _ (add-facts r s h k) (both-ever r s h k (ever-of r h z.0) (ever-of s k z.1))
