-- Question 7's weight bounds how often a list falls, so that no list has more than 256 pairs.
use Rattle.std.specs.Prelude.{◌≡◌, cond, Bool, true, ◌||◌, leb, T, eqb}
use Rattle.std.proofs.Math.Path.{refl, ap}
use Rattle.std.proofs.Common.{sym, ◌∙◌, mul_assoc, pow-suc, le_trans, eqb→eq, leb→le}
use Rattle.std.proofs.Math.Bool.{false}
use Prim.Native.Nat.{ℕ, ◌-◌, ◌≤◌, ◌<◌, min, suc, ◌^◌, ◌*◌, ◌+◌}
use Rattle.std.proofs.Math.Nat.{mul-le-mul_left}
use native.Mathlib.Omega.{arith}
use Rattle.std.proofs.Math.Pow.{pow_mono}
use borrow.Author.Tests.{leb-true, leb-false, le-leb, lt-leb, eqb-true}
use Rattle.booleans.specs.Laws.{both, by_cond, by-conds}
use Rattle.table.specs.Numbers.{whole_run, most_loops}
use Rattle.table.specs.Questions.{paired_block, paired_share, name_ok, named, named_in, share, loops, loops_in, weight, weight_in}
use Rattle.table.specs.Trees.{around, Tree, node, Forest, nil, ◌▸◌, rest}
use Rattle.evaluate.specs.Nodes.{Limit, Unlimited, AtMost, Kind, Most}
use Rattle.evaluate.specs.Evaluate.{inner, outward, seen, name, name_in}
use Rattle.evaluate.proofs.Laws.PairCount.{own, bound, bound_in}
use Rattle.evaluate.proofs.Laws.Kinds.{grouped, by_first, rest-single}

-- ---- question 7

-- the number of loops inside the named one, with d around
unfoldable pub within : ℕ → ℕ → ℕ
within d k = cond (leb whole_run k) d (k - 1)

-- a name that question 6 lets pass
abbrev Near : ℕ → ℕ → Type 0
Near d k = k < whole_run → k ≤ d

within-mono : (d a b : ℕ) → Near d a → a ≤ b → within d a ≤ within d b
unfolding within
within-mono d a b h l = go (leb whole_run a) refl (leb whole_run b) refl
  where
    go : (x : Bool) → leb whole_run a ≡ x → (y : Bool) → leb whole_run b ≡ y → cond x d (a - 1) ≤ cond y d (b - 1)
    go true e true e' = omega arith
    go true e false e' = absurd (omega (arith, leb-true whole_run a e, leb-false whole_run b e'))
    go false e true e' = let q : a - 1 ≤ d = omega (arith, h (leb-false whole_run a e)) in q
    go false e false e' = let q : a - 1 ≤ b - 1 = omega arith in q

inner-near : (l : Limit) (d k : ℕ) → T (name_ok l d) → Near d k → Near d (inner l k)
unfolding name_ok inner
inner-near Unlimited d k t h = h
inner-near (AtMost j m) d k t h = λ q. go (leb j d) refl t q
  where
    go : (b : Bool) → leb j d ≡ b → T (b || eqb j whole_run) → min j k < whole_run → min j k ≤ d
    go true e t q = omega (arith, leb-true j d e)
    go false e t q = omega (arith, eqb→eq j whole_run t, h (omega (arith, eqb→eq j whole_run t)))

outward-near : (d k : ℕ) → Near (suc d) k → Near d (outward k)
unfolding outward
outward-near d k h = go (leb k 1) (leb whole_run k) refl
  where
    go : (a b : Bool) → leb whole_run k ≡ b → cond a whole_run (cond b whole_run (k - 1)) < whole_run → cond a whole_run (cond b whole_run (k - 1)) ≤ d
    go true b e q = absurd (omega arith)
    go false true e q = absurd (omega arith)
    go false false e q = let r : k - 1 ≤ d = omega (arith, h (leb-false whole_run k e)) in r

seen-near : (k : Kind) (d n : ℕ) → Near (around k d) n → Near d (seen k n)
unfolding seen around
seen-near k d n h = by_first (λ q. Near (q.around d) n → Near d (q.seen n)) k (λ i. i) (λ m e. outward-near d n) h

least : (a b d : ℕ) → Near d a → Near d b → Near d (min a b)
least a b d h i = go (leb a b) refl
  where
    go : (t : Bool) → leb a b ≡ t → min a b < whole_run → min a b ≤ d
    go true e q = omega (arith, leb-true a b e, h (omega (arith, leb-true a b e)))
    go false e q = omega (arith, leb-false a b e, i (omega (arith, leb-false a b e)))

mutual
  unfolding name named

  name-near : (t : Tree) (d : ℕ) → T (named t d) → Near d (name t)
  name-near (node n f) d h = let (a, b) = both _ _ h in inner-near n.limit d _ a (name_in-near n.kind f d b)

  name_in-near : (k : Kind) (f : Forest) (d : ℕ) → T (named_in k f d) → Near d (name_in k f)
  name_in-near k nil d h = λ q. absurd (omega arith)
  name_in-near k (t ▸ f) d h =
      let (a, b) = both _ _ h in
      least (seen k (name t)) (name_in (rest k) f) d (seen-near k d _ (name-near t (around k d) a)) (name_in-near (rest k) f d b)

within-run : (d k : ℕ) → whole_run ≤ k → within d k ≡ d
unfolding within
within-run d k h = rw (le-leb whole_run k h) refl

within-loop : (d k : ℕ) → k < whole_run → within d k ≡ k - 1
unfolding within
within-loop d k h = rw (lt-leb whole_run k h) refl

share-is : (j d : ℕ) (m : Most) → d < whole_run → T (name_ok (AtMost j m) d) → share (AtMost j m) d ≡ 2 ^ within d j
unfolding name_ok share
share-is j d m l t = go (eqb j whole_run) refl t
  where
    go : (b : Bool) → eqb j whole_run ≡ b → T (leb j d || b) → cond b (2 ^ d) (2 ^ (j - 1)) ≡ 2 ^ within d j
    go true e t = ap (λ x. 2 ^ x) (sym (within-run d j (omega (arith, eqb-true j whole_run e))))
    go false e t = ap (λ x. 2 ^ x) (sym (within-loop d j (omega (arith, leb→le j d (left (leb j d) t)))))
      where
        left : (a : Bool) → T (a || false) → T a
        left true h = tt
        left false h = h

own-bound : (l : Limit) (d k w x : ℕ) → d < whole_run → T (name_ok l d) → Near d k → w * 2 ^ within d k ≤ x → own l w * 2 ^ within d (inner l k) ≤ share l d + x
own-bound Unlimited d k w x q t h b = unfold own in unfold share in unfold inner in omega arith
own-bound (AtMost j m) d k w x q t h b = unfold own in unfold inner in go (unfold inner in inner-near (AtMost j m) d k t h)
  where
    go : Near d (min j k) → suc w * 2 ^ within d (min j k) ≤ share (AtMost j m) d + x
    go n =
        let a : 2 ^ within d (min j k) ≤ 2 ^ within d j = pow_mono (within-mono d (min j k) j n (omega arith)) in
        let c : 2 ^ within d (min j k) ≤ 2 ^ within d k = pow_mono (within-mono d (min j k) k n (omega arith)) in
        let e : w * 2 ^ within d (min j k) ≤ w * 2 ^ within d k = mul-le-mul_left w c in
        product (2 ^ within d (min j k)) (2 ^ within d j) (w * 2 ^ within d k) (share (AtMost j m) d) a e b (share-is j d m q t)
      where
        product : (p r y s : ℕ) → p ≤ r → w * p ≤ y → y ≤ x → s ≡ r → suc w * p ≤ s + x
        product p r y s a e b g = omega arith

deeper : (d n : ℕ) → 1 < n → within (suc d) n ≡ suc (within d (outward n))
deeper d n l = go (leb whole_run n) refl
  where
    go : (b : Bool) → leb whole_run n ≡ b → within (suc d) n ≡ suc (within d (outward n))
    go true e =
        let o : outward n ≡ whole_run = unfold outward in rw (lt-leb n 1 l, e) refl in
        within-run (suc d) n (leb-true whole_run n e) ∙ ap suc (sym (ap (within d) o ∙ within-run d whole_run (omega arith)))
    go false e =
        let o : outward n ≡ n - 1 = unfold outward in rw (lt-leb n 1 l, e) refl in
        let z : n - 1 ≡ suc (n - 1 - 1) = omega arith in
        within-loop (suc d) n (leb-false whole_run n e) ∙ z ∙ ap suc (sym (ap (within d) o ∙ within-loop d (n - 1) (omega (arith, leb-false whole_run n e))))

grouped-bound : (k : Kind) (d n w : ℕ) → grouped k n w * 2 ^ within d (seen k n) ≤ w * 2 ^ within (around k d) n
unfolding grouped seen around
grouped-bound k d n w =
    by_first (λ q. q.grouped n w * 2 ^ within d (q.seen n) ≤ w * 2 ^ within (q.around d) n) k (omega arith)
    (λ m o.
    by_cond (λ u. u * 2 ^ within d (outward n) ≤ w * 2 ^ within (suc d) n) (leb n 1) _ _
    (λ e. omega arith)
    (λ e. rw (deeper d n (leb-false n 1 e), pow-suc 2 (within d (outward n))) (double w (2 ^ within d (outward n)))))
  where
    double : (w x : ℕ) → 2 * w * x ≤ w * (x * 2)
    double w x = omega (arith, mul_assoc 2 w x, mul_assoc w x 2)

-- a paired block's one fall
paired-bound : (k : Kind) (d : ℕ) → cond (paired_block k) 1 0 * 2 ^ within d whole_run ≤ paired_share k d
unfolding paired_share
paired-bound k d = rw (within-run d whole_run (omega arith)) (by-conds (λ x y. x * 2 ^ d ≤ y) (paired_block k) _ _ _ _ (λ e. omega arith) (λ e. omega arith))

pub rest-share : (k : Kind) (d : ℕ) → paired_share (rest k) d ≡ 0
unfolding paired_share
rest-share k d = rw (rest-single k) refl

mutual
  unfolding bound name loops named weight

  -- how often a list falls, weighed by the loops inside the named one, is within question 7's sum
  pub weight-bound : (t : Tree) (d : ℕ) → loops t d ≤ most_loops → T (named t d) → bound t * 2 ^ within d (name t) ≤ weight t d
  weight-bound (node n f) d l h =
      let (a, b) = both _ _ h in
      let w = own-bound n.limit d _ _ _ (omega arith) a (name_in-near n.kind f d b) (weight_in-bound n.kind f d (omega arith) b) in
      omega (arith, w)

  pub weight_in-bound : (k : Kind) (f : Forest) (d : ℕ) → loops_in k f d ≤ most_loops → T (named_in k f d) → bound_in k f * 2 ^ within d (name_in k f) ≤ paired_share k d + weight_in k f d
  weight_in-bound k nil d l h = omega (arith, paired-bound k d)
  weight_in-bound k (t ▸ f) d l h =
      let (a, b) = both _ _ h in
      let p = seen-near k d _ (name-near t (around k d) a) in
      let q = name_in-near (rest k) f d b in
      let n = least (seen k (name t)) (name_in (rest k) f) d p q in
      more _ _ _ _ (rest-share k d) (together _ _ _ _ _ _ _
      (pow_mono (within-mono d (min (seen k (name t)) (name_in (rest k) f)) (seen k (name t)) n (omega arith)))
      (pow_mono (within-mono d (min (seen k (name t)) (name_in (rest k) f)) (name_in (rest k) f) n (omega arith)))
      (le_trans (grouped-bound k d (name t) (bound t)) (weight-bound t (around k d) (omega arith) a))
      (weight_in-bound (rest k) f d (omega arith) b))
    where
      more : (x p y z : ℕ) {q : ℕ} → q ≡ 0 → x ≤ y + (q + z) → x ≤ p + (y + z)
      more x p y z e l = omega arith

      together : (u w p x y s z : ℕ) → p ≤ x → p ≤ y → u * x ≤ s → w * y ≤ z → (u + w) * p ≤ s + z
      together u w p x y s z a b c e = omega (arith, mul-le-mul_left u a, mul-le-mul_left w b)

-- so it is within question 7's sum alone
pub bound-weight : (t : Tree) (d : ℕ) → loops t d ≤ most_loops → T (named t d) → bound t ≤ weight t d
bound-weight t d l h =
    omega (arith, weight-bound t d l h, mul-le-mul_left (bound t) (pow_mono {i = 0} {j = within d (name t)} (omega arith)))

pub bound_in-weight : (k : Kind) (f : Forest) (d : ℕ) → loops_in k f d ≤ most_loops → T (named_in k f d) → bound_in k f ≤ paired_share k d + weight_in k f d
bound_in-weight k f d l h =
    omega (arith, weight_in-bound k f d l h, mul-le-mul_left (bound_in k f) (pow_mono {i = 0} {j = within d (name_in k f)} (omega arith)))
