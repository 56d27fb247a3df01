-- The turns of a union: its first pair by the first pairs of the two lists, and the rest.
use mathlib.Core.Path.{◌∙◌, ◌≡◌, ap₂, refl}
use mathlib.Core.Bool.{Bool, cond, false, true}
use mathlib.Core.List.{List}
use Prim.Native.Nat.{◌*◌, ◌+◌, ◌<◌, ◌^◌, ◌≤◌, suc, zero, ℕ}
use native.Mathlib.Nat.{add-zero, le_antisymm}
use native.Mathlib.Numerals.{add-one}
use native.Mathlib.Omega.{arith}
use lib.Dec.{ltb}
use lib.ListN.{length}
use borrow.Author.Tests.{le-ltb, lt-ltb, ltb-false, ltb-true}
use Rattle.lists.specs.declared.Head.{Head}
use Rattle.lists.specs.declared.List.{List as Listed}
use Rattle.lists.specs.Pairs.{Canonical, Pairs, top}
use Rattle.lists.specs.Operations.{count, joined, make, merge_pairs, rest}
use Rattle.lists.specs.Laws.Expand.{make-run}
use Rattle.lists.specs.Laws.Union.{Merged, both-pairs, flip, front-pair, merge-facts, merge-unique, rest-canonical}
use Rattle.lists.specs.Reading.{Is, Mergeable, Proper, count_at, head_of, list_in, most_pairs, pairs_of, runs_then, stored, value_at}
use Rattle.lists.proofs.Stored.{length-stored, put, put_last}
use Rattle.lists.proofs.Suffix.{count-few, len_is, more, suffix, suffix-canonical, suffix-count, suffix-inner, suffix-top, suffix-whole}

-- ---- the first pair of a union, and the rest

-- without its first pair, or whole
unfoldable after : ℕ → Pairs → Pairs
after zero r = r
after (suc k) r = rest r

merge_step : (r s : Pairs) → Canonical r → Canonical s → (h : Head) → h ≡ head_of (top r) (count r) (top s) (count s)
    → merge_pairs r s ≡ make h.value h.count (merge_pairs (after h.left r) (after h.right s))
unfolding head_of after
merge_step r s x y h e = rw e (merge-unique r s _ _ (merge-facts r s x y) (go (ltb (top s) (top r)) refl (ltb (top r) (top s)) refl))
  where
    T : Head → Type 0
    T h = Merged r s (make h.value h.count (merge_pairs (after h.left r) (after h.right s)))

    go : (b : Bool) → ltb (top s) (top r) ≡ b → (d : Bool) → ltb (top r) (top s) ≡ d
        → T (cond b (record { value = top r; count = count r; left = 1; right = 0 })
        (cond d (record { value = top s; count = count s; left = 0; right = 1 })
        (record { value = top r; count = joined (count r) (count s); left = 1; right = 1 })))
    go true p d q = front-pair r s _ x y (ltb-true (top s) (top r) p) (λ z. merge-facts (rest r) s (rest-canonical r x) y)
    go false p true q =
        flip s r _ y x (front-pair s r _ y x (ltb-true (top r) (top s) q) (λ z. flip r (rest s) _ x (rest-canonical s y) (merge-facts r (rest s) x (rest-canonical s y))))
    go false p false q =
        both-pairs r s _ x y (le_antisymm (ltb-false (top s) (top r) p) (ltb-false (top r) (top s) q))
        (λ z w. merge-facts (rest r) (rest s) (rest-canonical r x) (rest-canonical s y))

-- ---- the places after it

-- a union's first pair is for ever unless what it uses up is not
record Uses (c d : ℕ) (h : Head) : Type 0 where
  left_one : h.left ≤ 1
  right-one : h.right ≤ 1
  some : 1 ≤ h.left + h.right
  left-ends : 1 ≤ h.count → h.left ≤ c
  right-ends : 1 ≤ h.count → h.right ≤ d

joined-uses : (c d : ℕ) → 1 ≤ joined c d → (1 ≤ c) × (1 ≤ d)
unfolding joined
joined-uses zero d h = absurd (omega arith)
joined-uses (suc c) zero h = absurd (omega arith)
joined-uses (suc c) (suc d) h = (omega arith, omega arith)

head-uses : (v c w d : ℕ) → Uses c d (head_of v c w d)
unfolding head_of
head-uses v c w d = go (ltb w v) (ltb v w)
  where
    go : (x y : Bool) → Uses c d (cond x (record { value = v; count = c; left = 1; right = 0 })
        (cond y (record { value = w; count = d; left = 0; right = 1 })
        (record { value = v; count = joined c d; left = 1; right = 1 })))
    go true y = record { left_one = omega arith; right-one = omega arith; some = omega arith; left-ends = λ h. h; right-ends = λ h. omega arith }
    go false true = record { left_one = omega arith; right-one = omega arith; some = omega arith; left-ends = λ h. omega arith; right-ends = λ h. h }
    go false false = record {
      left_one = omega arith;
      right-one = omega arith;
      some = omega arith;
      left-ends = λ h. (joined-uses c d h).0;
      right-ends = λ h. (joined-uses c d h).1;
    }

-- after none or one of the pairs
onward : (l : Listed) → Proper l → (i k : ℕ) → i < l.len → k ≤ 1 → k ≤ count_at l.pairs i → (i + k < l.len) × (after k (suffix l i) ≡ suffix l (i + k))
unfolding after rest
onward l p i zero h o c = (omega arith, rw add-zero)
onward l p i (suc zero) h o c = let n = more l p i h c in (omega arith, rw (add-one, suffix-inner l i n))
onward l p i (suc (suc k)) h o c = absurd (omega arith)

-- ---- the loop

-- n pairs of the union are stored, and the rest is the union of the lists from pairs i and j on, whose first pair is h
pub record Merging (a b : Listed) (out : List ℕ) (n i j : ℕ) (h : Head) : Type 0 where
  pub asked : Mergeable a b
  pub left : i < a.len
  pub right : j < b.len
  pub next : h ≡ head_of (value_at a.pairs i) (count_at a.pairs i) (value_at b.pairs j) (count_at b.pairs j)
  pub few : n ≤ i + j
  pub room : a.len + b.len ≤ suc most_pairs
  pub long : length out ≡ 2 * most_pairs
  pub made : runs_then out 0 n (merge_pairs (suffix a i) (suffix b j)) ≡ merge_pairs (pairs_of a) (pairs_of b)

pub merge-fits : {a b : Listed} {i j : ℕ} → Mergeable a b → i < a.len → j < b.len → count_at a.pairs i + count_at b.pairs j < 2 ^ 64
merge-fits {a} {b} {i} {j} q h k = omega (arith, count-few a q.left i h, count-few b q.right j k, q.few)

pub merge-start : {a b : Listed} {out : List ℕ} {h : Head} → Mergeable a b → length out ≡ 2 * most_pairs
    → h ≡ head_of (value_at a.pairs 0) (count_at a.pairs 0) (value_at b.pairs 0) (count_at b.pairs 0) → Merging a b out 0 0 0 h
unfolding runs_then
merge-start {a} {b} q l e = record {
  asked = q;
  left = q.left.some;
  right = q.right.some;
  next = e;
  few = omega arith;
  room = omega (arith, len_is a q.left, len_is b q.right, q.narrow);
  long = l;
  made = ap₂ merge_pairs (suffix-whole a) (suffix-whole b);
}

module _ {a b : Listed} {out : List ℕ} {n i j : ℕ} {h : Head} (v : Merging a b out n i j h) where
  q : Mergeable a b
  q = v.asked

  uses : Uses (count_at a.pairs i) (count_at b.pairs j) h
  uses = rw v.next (head-uses _ _ _ _)

  step : merge_pairs (suffix a i) (suffix b j) ≡ make h.value h.count (merge_pairs (after h.left (suffix a i)) (after h.right (suffix b j)))
  step = merge_step (suffix a i) (suffix b j) (suffix-canonical a q.left i v.left) (suffix-canonical b q.right j v.right) h
      (rw (suffix-top a i v.left, suffix-count a q.left i v.left, suffix-top b j v.right, suffix-count b q.right j v.right) v.next)

  -- both lists have a pair after those that the first pair uses up
  pub record Onward : Type 0 where
    pub left : i + h.left < a.len
    pub right : j + h.right < b.len
    pub some : 1 ≤ h.left + h.right
    pub fits : count_at a.pairs (i + h.left) + count_at b.pairs (j + h.right) < 2 ^ 64

  pub merge-onward : 0 < h.count → Onward
  merge-onward c =
      let f = (onward a q.left i h.left v.left uses.left_one (uses.left-ends c)).0 in
      let g = (onward b q.right j h.right v.right uses.right-one (uses.right-ends c)).0 in
      record { left = f; right = g; some = uses.some; fits = merge-fits q f g }

  pub merge-turn : {k : Head} → 0 < h.count
      → k ≡ head_of (value_at a.pairs (i + h.left)) (count_at a.pairs (i + h.left)) (value_at b.pairs (j + h.right)) (count_at b.pairs (j + h.right))
      → Merging a b (stored out n h.value h.count) (n + 1) (i + h.left) (j + h.right) k
  merge-turn c e =
      let o = merge-onward c in
      let e₁ = (onward a q.left i h.left v.left uses.left_one (uses.left-ends c)).1 in
      let e₂ = (onward b q.right j h.right v.right uses.right-one (uses.right-ends c)).1 in
      record {
        asked = q;
        left = o.left;
        right = o.right;
        next = e;
        few = omega (arith, o.some, v.few);
        room = v.room;
        long = length-stored out n h.value h.count ∙ v.long;
        made = put out n h.value h.count _ (omega (arith, v.few, v.left, v.right, v.room)) v.long
            ∙ rw (rw (e₁, e₂, make-run h.value h.count _ c) at step) at v.made;
      }

  pub merge-last : h.count ≡ 0 → Is (list_in (stored out n h.value 0) (n + 1)) (merge_pairs (pairs_of a) (pairs_of b))
  unfolding make
  merge-last c =
      put_last out n h.value _ (omega (arith, v.few, v.left, v.right, v.room)) v.long (rw (rw c at step) at v.made)
      (merge-facts (pairs_of a) (pairs_of b) q.left.canonical q.right.canonical).canonical

-- ---- what first_pair and joined_of compute

pub head-left : (v c w d : ℕ) → w < v → record { value = v; count = c; left = 1; right = 0 } ≡ head_of v c w d
unfolding head_of
head-left v c w d l = rw (lt-ltb w v l)

pub head-right : (v c w d : ℕ) → v ≤ w → v < w → record { value = w; count = d; left = 0; right = 1 } ≡ head_of v c w d
unfolding head_of
head-right v c w d k l = rw (le-ltb w v k, lt-ltb v w l)

pub head-both : (v c w d : ℕ) {j : ℕ} → v ≤ w → w ≤ v → j ≡ joined c d → record { value = v; count = j; left = 1; right = 1 } ≡ head_of v c w d
unfolding head_of
head-both v c w d k l e = rw (le-ltb w v k, le-ltb v w l, e)

pub joined-left : (c d : ℕ) → c ≡ 0 → joined c d ≡ 0
unfolding joined
joined-left zero d e = refl
joined-left (suc c) d e = absurd (omega arith)

pub joined-right : (c d : ℕ) → d ≡ 0 → joined c d ≡ 0
unfolding joined
joined-right zero d e = refl
joined-right (suc c) zero e = refl
joined-right (suc c) (suc d) e = absurd (omega arith)

pub joined-both : (c d : ℕ) → (c ≡ 0 → ⊥) → (d ≡ 0 → ⊥) → joined c d ≡ c + d
unfolding joined
joined-both zero d f g = absurd (f refl)
joined-both (suc c) zero f g = absurd (g refl)
joined-both (suc c) (suc d) f g = refl
