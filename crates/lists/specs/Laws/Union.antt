-- The merge of pairs: what it expands to, canonical, its size, and how a program comes by it.
use Rattle.std.proofs.Common.{◌∙◌, ap, sym, ap₂, subst, add-suc, add-zero, add-sub_of_le, le_of_lt, mul-le-mul_right, le_trans, le_antisymm, arith, leb-false, leb-true, ltb-false, ltb-true}
use Rattle.std.specs.Prelude.{◌≡◌, refl, Bool, false, true, cond, ◌*◌, ◌+◌, ◌≤◌, suc, zero, ℕ, min, ◌-◌, ◌<◌, max, leb, ltb}
use Rattle.lists.specs.Operations.{first, count, make, rest, joined, merge_within, merge_pairs}
use Rattle.lists.specs.Pairs.{Pairs, expand, run, Canonical, top, ever, places, width}
use Rattle.lists.specs.Streams.{Stream, merge, S, cap, const}
use Rattle.lists.specs.Laws.Add.{width-zero}
use Rattle.lists.specs.Laws.Expand.{by-run, expand-first, first-zero, run_past, run-within, expand-falls, expand-le, by_first, make-run}
use Rattle.lists.specs.Laws.Merge.{merge-falls}
use Rattle.lists.specs.Laws.Pairs.{unique-pairs}
use Rattle.lists.specs.Laws.MergeLaws.{merge-assoc, merge-comm, IsMerge, Met, is-merge, unique}
use Rattle.lists.specs.Laws.Sums.{Falls, S-cap, S-const, S-grows, cap-falls, const-falls}

pub merge-swap : (f g h : Stream) → Falls f → Falls g → Falls h → merge f (merge g h) ≡ merge g (merge f h)
merge-swap f g h a b c = sym (merge-assoc f g h a b c) ∙ ap (λ k. merge k h) (merge-comm f g a b) ∙ merge-assoc g f h b a c

S-roof : (f : Stream) (v : ℕ) → ((i : ℕ) → f i ≤ v) → (d x : ℕ) → S f (d + x) ≤ S f d + x * v
unfolding S
S-roof f v h d zero = simp add-zero (omega arith)
S-roof f v h d (suc x) = rw (add-suc d x) (omega (arith, S-roof f v h d x, h (d + x)))

S-top : (f : Stream) (v : ℕ) → ((i : ℕ) → f i ≤ v) → (x : ℕ) → S f x ≤ x * v
unfolding S
S-top f v h zero = omega arith
S-top f v h (suc x) = omega (arith, S-top f v h x, h x)

S-bit : (c v p : ℕ) → S (cap c (const v)) p ≡ min c p * v
S-bit c v p = S-cap c (const v) p ∙ S-const v (min c p)

-- a run in front is the merge with that run alone
pub run_is : (v c : ℕ) (r : Pairs) → ((i : ℕ) → expand r i ≤ v) → IsMerge (cap c (const v)) (expand r) (expand (run v c r))
run_is v c r le = record {
  over = λ p q n e. rw (S-bit, expand-first (run v c r)) (above p q n e);
  met = by-run c (Met (cap c (const v)) (expand r) (expand (run v c r)))
      (λ P l.
      let e₁ : min c P ≡ P = omega arith in
      (P, 0, omega arith, rw (expand-first (run v c r), S-bit, e₁) (omega (arith, run-within v c r P l, expand-first r 0, first-zero r))))
      (λ d.
      let e₁ : min c c ≡ c = omega arith in
      (c, d, refl, rw (expand-first (run v c r), S-bit, e₁) (omega (arith, run_past v c r d, expand-first r d))));
}
  where
    f : Stream
    f = expand r

    above : (p q n : ℕ) → p + q ≡ n → min c p * v + S f q ≤ first (run v c r) n
    above p q n = by-run c (λ n. p + q ≡ n → min c p * v + S f q ≤ first (run v c r) n) within past n
      where
        within : (n : ℕ) → n ≤ c → p + q ≡ n → min c p * v + S f q ≤ first (run v c r) n
        within n l e =
            let e₁ : min c p ≡ p = omega arith in
            rw e₁ (omega (arith, run-within v c r n l, S-top f v le q, ap (λ x. x * v) e))

        past : (d : ℕ) → p + q ≡ c + d → min c p * v + S f q ≤ first (run v c r) (c + d)
        past d e = go (leb q d) refl
          where
            go : (t : Bool) → leb q d ≡ t → min c p * v + S f q ≤ first (run v c r) (c + d)
            go true t =
                let l : q ≤ d = leb-true q d t in
                let l₁ : min c p ≤ c = omega arith in
                omega (arith, run_past v c r d, expand-first r d, S-grows f q (d - q) d (add-sub_of_le l), mul-le-mul_right v l₁)
            go false t =
                let l : d < q = leb-false q d t in
                let x : ℕ = q - d in
                let e₁ : d + x ≡ q = add-sub_of_le (le_of_lt l) in
                let e₂ : min c p ≡ p = omega arith in
                let e₃ : p + x ≡ c = omega arith in
                rw e₂ (omega (arith, run_past v c r d, expand-first r d, rw e₁ at (S-roof f v le d x), ap (λ y. y * v) e₃))

bit-falls : (c v : ℕ) → Falls (cap c (const v))
bit-falls c v = cap-falls c _ (const-falls v)

pub run-merge : (v c : ℕ) (r : Pairs) → Canonical r → top r ≤ v → expand (run v c r) ≡ merge (cap c (const v)) (expand r)
run-merge v c r h l =
    unique _ _ _ _ (run_is v c r (λ i. le_trans (expand-le r h i) l)) (is-merge _ _ (bit-falls c v) (expand-falls r h))

-- what is nowhere above an endless value is lost in it
pub lost-is : (f : Stream) (w : ℕ) → ((i : ℕ) → f i ≤ w) → IsMerge f (const w) (const w)
lost-is f w h = record {
  over = λ p q n e. rw (S-const, S-const) (omega (arith, S-top f w h p, ap (λ x. x * w) e));
  met = λ P. (0, P, omega arith, rw (S-const) (omega (arith, S-top f w h 0)));
}

pub lost : (r : Pairs) (w : ℕ) → Canonical r → top r ≤ w → merge (expand r) (const w) ≡ const w
lost r w h l = unique _ _ _ _ (is-merge _ _ (expand-falls r h) (const-falls w)) (lost-is (expand r) w (λ i. le_trans (expand-le r h i) l))

pub expand-ever : (w : ℕ) → expand (ever w) ≡ const w
unfolding expand const
expand-ever w = refl

-- two runs of one value are one run
pub run_join : (v c d : ℕ) (r : Pairs) → expand (run v (c + d) r) ≡ expand (run v c (run v d r))
run_join v c d r = by_first _ _ (λ P. sums P ∙ sym (expand-first (run v c (run v d r)) P))
  where
    sums : (P : ℕ) → first (run v (c + d) r) P ≡ first (run v c (run v d r)) P
    sums = by-run c (λ P. first (run v (c + d) r) P ≡ first (run v c (run v d r)) P)
        (λ P l. omega (arith, run-within v (c + d) r P (omega arith), run-within v c (run v d r) P l))
        (by-run d (λ P. first (run v (c + d) r) (c + P) ≡ first (run v c (run v d r)) (c + P))
        (λ P l. omega (arith, run-within v (c + d) r (c + P) (omega arith), run_past v c (run v d r) P, run-within v d r P l))
        (λ P.
        let e : c + (d + P) ≡ c + d + P = omega arith in
        let e₁ : first (run v (c + d) r) (c + (d + P)) ≡ (c + d) * v + first r P = rw e (run_past v (c + d) r P) in
        omega (arith, run_past v c (run v d r) (d + P), run_past v d r P)))

pub record Merged (r s t : Pairs) : Type 0 where
  pub members : expand t ≡ merge (expand r) (expand s)
  pub canonical : Canonical t
  pub head : top t ≡ max (top r) (top s)
  pub thin : width t ≤ width r + width s
  pub few : places t ≤ places r + places s

pub flip : (r s t : Pairs) → Canonical r → Canonical s → Merged r s t → Merged s r t
flip r s t h k m = record {
  members = m.members ∙ merge-comm (expand r) (expand s) (expand-falls r h) (expand-falls s k);
  canonical = m.canonical;
  head = omega (arith, m.head);
  thin = omega (arith, m.thin);
  few = omega (arith, m.few);
}

-- an endless value at least the other list's
pub over-ever : (r s : Pairs) → Canonical r → Canonical s → count r ≡ 0 → top s ≤ top r → Merged r s (ever (top r))
unfolding Canonical top width places count
over-ever (ever v) s h k e l = record {
  members = rw (expand-ever v) (sym (lost s v k l)) ∙ sym (merge-comm (const v) (expand s) (const-falls v) (expand-falls s k)) ∙ ap (λ f. merge f (expand s)) (sym (expand-ever v));
  canonical = tt;
  head = omega arith;
  thin = omega arith;
  few = omega arith;
}
over-ever (run v c r) s h k e l = absurd (omega (arith, h.0))

-- a run that is above the other list comes first
pub front-run : (v c : ℕ) (r s t : Pairs) → Canonical (run v c r) → Canonical s → top s < v → Merged r s t → Merged (run v c r) s (run v c t)
unfolding Canonical top width places
front-run v c r s t h k l m = record {
  members = run-merge v c t m.canonical (omega (arith, m.head, h.1))
      ∙ ap (merge (cap c (const v))) m.members
      ∙ sym (merge-assoc _ _ _ (bit-falls c v) (expand-falls r h.2) (expand-falls s k))
      ∙ ap (λ f. merge f (expand s)) (sym (run-merge v c r h.2 (omega (arith, h.1))));
  canonical = (h.0, omega (arith, m.head, h.1), m.canonical);
  head = omega (arith, h.1);
  thin = omega (arith, m.thin);
  few = omega (arith, m.few);
}

-- two runs of one value join
pub both_runs : (v c d : ℕ) (r s t : Pairs) → Canonical (run v c r) → Canonical (run v d s) → Merged r s t → Merged (run v c r) (run v d s) (run v (c + d) t)
unfolding Canonical top width places
both_runs v c d r s t h k m = record {
  members = run_join v c d t
      ∙ run-merge v c (run v d t) (k.0, below, m.canonical) (omega arith)
      ∙ ap (merge (cap c (const v))) (run-merge v d t m.canonical (le_of_lt below) ∙ ap (merge (cap d (const v))) m.members
      ∙ merge-swap _ _ _ (bit-falls d v) (expand-falls r h.2) (expand-falls s k.2))
      ∙ sym (merge-assoc _ _ _ (bit-falls c v) (expand-falls r h.2) (merge-falls _ _ (bit-falls d v) (expand-falls s k.2)))
      ∙ ap₂ merge (sym (run-merge v c r h.2 (omega (arith, h.1)))) (sym (run-merge v d s k.2 (omega (arith, k.1))));
  canonical = (omega (arith, h.0), below, m.canonical);
  head = omega arith;
  thin = omega (arith, m.thin);
  few = omega (arith, m.few);
}
  where
    below : top t < v
    below = omega (arith, m.head, h.1, k.1)

-- a first pair by its count
pub front-pair : (r s t : Pairs) → Canonical r → Canonical s → top s < top r → (0 < count r → Merged (rest r) s t) → Merged r s (make (top r) (count r) t)
unfolding Canonical top rest count make
front-pair (ever v) s t h k l m = over-ever (ever v) s h k refl (le_of_lt l)
front-pair (run v zero r) s t h k l m = absurd (omega (arith, h.0))
front-pair (run v (suc c) r) s t h k l m = front-run v (suc c) r s t h k l (m (omega arith))

pub both-pairs : (r s t : Pairs) → Canonical r → Canonical s → top r ≡ top s → (0 < count r → 0 < count s → Merged (rest r) (rest s) t)
    → Merged r s (make (top r) (joined (count r) (count s)) t)
unfolding Canonical top rest count make joined
both-pairs (ever v) s t h k e m = over-ever (ever v) s h k refl (omega arith)
both-pairs (run v zero r) s t h k e m = absurd (omega (arith, h.0))
both-pairs (run v (suc c) r) (ever w) t h k e m =
    subst (λ (x : ℕ). Merged (run v (suc c) r) (ever w) (ever x)) (sym e)
    (flip (ever w) (run v (suc c) r) (ever w) k h (over-ever (ever w) (run v (suc c) r) k h refl (omega arith)))
both-pairs (run v (suc c) r) (run w zero s) t h k e m = absurd (omega (arith, k.0))
both-pairs (run v (suc c) r) (run w (suc d) s) t h k e m =
    rw (make-run v (suc c + suc d) t (omega arith)) (subst (λ (x : ℕ). Merged (run v (suc c) r) (run x (suc d) s) (run v (suc c + suc d) t)) e
    (both_runs v (suc c) (suc d) r s t h (k.0, omega (arith, k.1), k.2) (m (omega arith) (omega arith))))

pub rest-canonical : (r : Pairs) → Canonical r → Canonical (rest r)
unfolding Canonical rest
rest-canonical (ever v) h = tt
rest-canonical (run v c r) h = h.2

pub rest-width : (r : Pairs) → 0 < count r → suc (width (rest r)) ≡ width r
unfolding count rest width
rest-width (ever v) h = absurd (omega arith)
rest-width (run v c r) h = refl

no-count : (v : ℕ) (r : Pairs) → r ≡ ever v → count r ≡ 0
unfolding count
no-count v r e = ap count e

pub within-merges : (f : ℕ) (r s : Pairs) → Canonical r → Canonical s → width r + width s ≤ f → Merged r s (merge_within f r s)
unfolding merge_within
within-merges zero r s h k l = go (leb (top s) (top r)) refl (width-zero r (omega arith)) (width-zero s (omega arith))
  where
    go : (b : Bool) → leb (top s) (top r) ≡ b → r ≡ ever (top r) → s ≡ ever (top s) → Merged r s (ever (max (top r) (top s)))
    go true e p q =
        let g : max (top r) (top s) ≡ top r = omega (arith, leb-true (top s) (top r) e) in
        rw g (over-ever r s h k (no-count _ r p) (leb-true (top s) (top r) e))
    go false e p q =
        let l : top r < top s = leb-false (top s) (top r) e in
        let g : max (top r) (top s) ≡ top s = omega arith in
        rw g (flip s r _ k h (over-ever s r k h (no-count _ s q) (le_of_lt l)))
within-merges (suc f) r s h k l =
    go (ltb (top s) (top r)) refl (ltb (top r) (top s)) refl
    (λ p. within-merges f (rest r) s (rest-canonical r h) k (omega (arith, rest-width r p)))
    (λ p. within-merges f r (rest s) h (rest-canonical s k) (omega (arith, rest-width s p)))
    (λ p q. within-merges f (rest r) (rest s) (rest-canonical r h) (rest-canonical s k) (omega (arith, rest-width r p, rest-width s q)))
  where
    go : (b : Bool) → ltb (top s) (top r) ≡ b → (d : Bool) → ltb (top r) (top s) ≡ d
        → (0 < count r → Merged (rest r) s (merge_within f (rest r) s))
        → (0 < count s → Merged r (rest s) (merge_within f r (rest s)))
        → (0 < count r → 0 < count s → Merged (rest r) (rest s) (merge_within f (rest r) (rest s)))
        → Merged r s (cond b (make (top r) (count r) (merge_within f (rest r) s))
        (cond d (make (top s) (count s) (merge_within f r (rest s)))
        (make (top r) (joined (count r) (count s)) (merge_within f (rest r) (rest s)))))
    go true e d q x y z = front-pair r s _ h k (ltb-true _ _ e) x
    go false e true q x y z = flip s r _ k h (front-pair s r _ k h (ltb-true _ _ q) (λ p. flip r (rest s) _ h (rest-canonical s k) (y p)))
    go false e false q x y z = both-pairs r s _ h k (le_antisymm (ltb-false (top s) (top r) e) (ltb-false (top r) (top s) q)) z

pub merge-facts : (r s : Pairs) → Canonical r → Canonical s → Merged r s (merge_pairs r s)
unfolding merge_pairs
merge-facts r s h k = within-merges (width r + width s) r s h k (omega arith)

-- a union's pairs expand to the merge of what the pairs expand to
pub merge-is : (r s : Pairs) → Canonical r → Canonical s → expand (merge_pairs r s) ≡ merge (expand r) (expand s)
merge-is r s h k = (merge-facts r s h k).members

-- unions are fixed by their members
pub merge-unique : (r s t u : Pairs) → Merged r s t → Merged r s u → t ≡ u
merge-unique r s t u a b = unique-pairs t u a.canonical b.canonical (λ i. ap (λ f. f i) (a.members ∙ sym b.members))
