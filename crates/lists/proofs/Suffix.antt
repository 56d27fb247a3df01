-- A list from one of its pairs on.
use mathlib.Core.Path.{◌∙◌, ◌≡◌, ap, refl, sym}
use mathlib.Core.Bool.{Bool, false, true}
use mathlib.Core.List.{List}
use Prim.Native.Nat.{◌-◌, ◌<◌, ◌≤◌, suc, zero, ℕ}
use native.Mathlib.Nat.{sub-zero}
use native.Mathlib.Omega.{arith}
use lib.Dec.{ltb}
use borrow.Author.Tests.{ltb-false, ltb-true}
use Rattle.lists.specs.declared.List.{List as Listed}
use Rattle.lists.specs.Pairs.{Canonical, Pairs, ever, places, run, top, width}
use Rattle.lists.specs.Operations.{count}
use Rattle.lists.specs.Laws.Add.{count-le, ever-of}
use Rattle.lists.specs.Reading.{Proper, count_at, pairs_of, runs_then, value_at}

unfoldable pub suffix : Listed → ℕ → Pairs
suffix l i = runs_then l.pairs i (l.len - 1 - i) (ever (value_at l.pairs (l.len - 1)))

-- ---- by place

pub suffix-whole : (l : Listed) → suffix l 0 ≡ pairs_of l
unfolding suffix pairs_of
suffix-whole l = rw sub-zero

pub suffix-inner : (l : Listed) (i : ℕ) → suc i < l.len → suffix l i ≡ run (value_at l.pairs i) (count_at l.pairs i) (suffix l (suc i))
unfolding suffix runs_then
suffix-inner l i h =
    let e : l.len - 1 - i ≡ suc (l.len - 1 - suc i) = omega arith in
    rw e

pub suffix-end : (l : Listed) (i : ℕ) → suc i ≡ l.len → suffix l i ≡ ever (value_at l.pairs i)
unfolding suffix runs_then
suffix-end l i h =
    let e : l.len - 1 - i ≡ 0 = omega arith in
    let e₁ : l.len - 1 ≡ i = omega arith in
    rw (e, e₁)

-- a place is the last or not
pub by_place : (l : Listed) (i : ℕ) (Q : Type 0) → i < l.len → (suc i < l.len → Q) → (suc i ≡ l.len → Q) → Q
by_place l i Q h f g = go (ltb (suc i) l.len) refl
  where
    go : (b : Bool) → ltb (suc i) l.len ≡ b → Q
    go true e = f (ltb-true _ _ e)
    go false e = g (omega (arith, ltb-false (suc i) l.len e))

pub suffix-top : (l : Listed) (i : ℕ) → i < l.len → top (suffix l i) ≡ value_at l.pairs i
unfolding top
suffix-top l i h = by_place l i _ h (λ k. rw (suffix-inner l i k)) (λ k. rw (suffix-end l i k))

pub suffix-count : (l : Listed) → Proper l → (i : ℕ) → i < l.len → count (suffix l i) ≡ count_at l.pairs i
unfolding count
suffix-count l p i h = by_place l i _ h (λ k. rw (suffix-inner l i k))
    (λ k.
    let e : l.len - 1 ≡ i = omega arith in
    rw (suffix-end l i k) (sym (rw e at p.ends)))

-- a finite pair is not the last
pub more : (l : Listed) → Proper l → (i : ℕ) → i < l.len → 0 < count_at l.pairs i → suc i < l.len
more l p i h c = by_place l i _ h (λ k. k)
    (λ k.
    let e : l.len - 1 ≡ i = omega arith in
    absurd (omega (arith, rw e at p.ends)))

-- ---- canonical, low and short

record Kept (l : Listed) (i : ℕ) : Type 0 where
  canonical : Canonical (suffix l i)
  low : top (suffix l i) ≤ top (pairs_of l)
  few : places (suffix l i) ≤ places (pairs_of l)

kept_next : (b c v n : ℕ) (r : Pairs) → Canonical (run v n r) → top (run v n r) ≤ b → places (run v n r) ≤ c → Canonical r × (top r ≤ b) × (places r ≤ c)
unfolding Canonical top places
kept_next b c v n r h l m = (h.2, omega (arith, h.1), omega arith)

kept : (l : Listed) → Proper l → (i : ℕ) → i < l.len → Kept l i
kept l p zero h =
    let e = suffix-whole l in
    record { canonical = rw e p.canonical; low = rw e (omega arith); few = rw e (omega arith) }
kept l p (suc i) h =
    let k = kept l p i (omega arith) in
    let e = suffix-inner l i h in
    let z = kept_next (top (pairs_of l)) (places (pairs_of l)) _ _ (suffix l (suc i)) (rw e at k.canonical) (rw e at k.low) (rw e at k.few) in
    record { canonical = z.0; low = z.1; few = z.2 }

pub suffix-canonical : (l : Listed) → Proper l → (i : ℕ) → i < l.len → Canonical (suffix l i)
suffix-canonical l p i h = (kept l p i h).canonical

-- a pair before the last is finite
pub inner-count : (l : Listed) → Proper l → (i : ℕ) → suc i < l.len → 0 < count_at l.pairs i
unfolding Canonical
inner-count l p i h = (rw (suffix-inner l i h) at (suffix-canonical l p i (omega arith))).0

-- the last is for ever
pub last-count : (l : Listed) → Proper l → (i : ℕ) → l.len - 1 ≡ i → count_at l.pairs i ≡ 0
last-count l p i e = rw e at p.ends

pub value_low : (l : Listed) → Proper l → (i : ℕ) → i < l.len → value_at l.pairs i ≤ top (pairs_of l)
value_low l p i h = omega (arith, (kept l p i h).low, suffix-top l i h)

pub count-few : (l : Listed) → Proper l → (i : ℕ) → i < l.len → count_at l.pairs i ≤ places (pairs_of l)
count-few l p i h = omega (arith, (kept l p i h).few, suffix-count l p i h, count-le (suffix l i))

-- from a pair of count 0 on, its value for ever
pub suffix-ever : (l : Listed) → Proper l → (i : ℕ) → i < l.len → count_at l.pairs i ≡ 0 → suffix l i ≡ ever (value_at l.pairs i)
suffix-ever l p i h e = ever-of (suffix l i) (suffix-canonical l p i h) (suffix-count l p i h ∙ e) ∙ ap ever (suffix-top l i h)

-- a list has one pair more than finite ones
then-width : (ps : List ℕ) (i n v : ℕ) → width (runs_then ps i n (ever v)) ≡ n
unfolding runs_then width
then-width ps i zero v = refl
then-width ps i (suc n) v = ap suc (then-width ps (suc i) n v)

pub len_is : (l : Listed) → Proper l → l.len ≡ suc (width (pairs_of l))
unfolding pairs_of
len_is l p = omega (arith, then-width l.pairs 0 (l.len - 1) (value_at l.pairs (l.len - 1)), p.some)
