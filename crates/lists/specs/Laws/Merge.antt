-- The merge of two streams that never rise.
use Rattle.std.specs.Prelude.{◌≡◌, cond, Bool}
use Rattle.std.proofs.Math.Path.{refl}
use Rattle.std.proofs.Math.Bool.{true, false}
use Prim.Native.Nat.{ℕ, ◌+◌, ◌≤◌, ◌<◌, zero, suc, ◌*◌, ◌-◌, max}
use Rattle.std.proofs.Common.{add-sub_of_le}
use native.Mathlib.Omega.{arith}
use Rattle.std.proofs.Math.Dec.{leb}
use borrow.Author.Tests.{leb-true, leb-false}
use Rattle.lists.specs.Streams.{Stream, S, merge, shift, next, taken}
use Rattle.lists.specs.Laws.Sums.{S-shift, Falls, falls-le}

-- after n members, i from f and j from g
pub record Inv (f g : Stream) (n i j : ℕ) : Type 0 where
  pub count : i + j ≡ n
  pub sum : S (merge f g) n ≡ S f i + S g j
  pub left : (k : ℕ) → k < i → g j ≤ f k
  pub right : (k : ℕ) → k < j → f i ≤ g k

module _ (f g : Stream) (hf : Falls f) (hg : Falls g) where
  step : (n i j : ℕ) → merge f g n ≡ max (f i) (g j) → Inv f g n i j → (b : Bool) → leb (g j) (f i) ≡ b
      → Inv f g (suc n) (cond b (suc i) i) (cond b j (suc j))
  unfolding S
  step n i j m v true e =
      let l : g j ≤ f i = leb-true (g j) (f i) e in
      record {
        count = omega arith;
        sum = omega arith;
        left = λ k h. omega (arith, falls-le f hf k i (omega arith));
        right = λ k h. omega (arith, hf i, v.right k h);
      }
  step n i j m v false e =
      let l : f i < g j = leb-false (g j) (f i) e in
      record {
        count = omega arith;
        sum = omega arith;
        left = λ k h. omega (arith, hg j, v.left k h);
        right = λ k h. omega (arith, falls-le g hg k j (omega arith));
      }

  pub inv : (n : ℕ) → Inv f g n (taken f g n).0 (taken f g n).1
  unfolding taken S merge next
  inv zero = record { count = refl; sum = refl; left = λ k l. absurd (omega arith); right = λ k l. absurd (omega arith) }
  inv (suc n) = step n _ _ refl (inv n) _ refl

  -- d more members of f from a are at least d times a floor of them, and at most d times the first
  floor : (h : Stream) (c a d : ℕ) → ((k : ℕ) → k < a + d → c ≤ h k) → d * c ≤ S (shift h a) d
  unfolding S shift
  floor h c a zero l = omega arith
  floor h c a (suc d) l = omega (arith, floor h c a d (λ k m. l k (omega arith)), l (a + d) (omega arith))

  roof : (h : Stream) (c a d : ℕ) → ((k : ℕ) → h (a + k) ≤ c) → S (shift h a) d ≤ d * c
  unfolding S shift
  roof h c a zero l = omega arith
  roof h c a (suc d) l = omega (arith, roof h c a d l, l d)

  best : (n i j : ℕ) → Inv f g n i j → (p q : ℕ) → p + q ≡ n → S f p + S g q ≤ S f i + S g j
  best n i j v p q e = go (leb p i) refl
    where
      go : (b : Bool) → leb p i ≡ b → S f p + S g q ≤ S f i + S g j
      go true t =
          let l : p ≤ i = leb-true p i t in
          let d : ℕ = i - p in
          let ei : p + d ≡ i = add-sub_of_le l in
          let eq : j + d ≡ q = omega (arith, v.count) in
          omega (arith, rw ei at (S-shift f p d), rw eq at (S-shift g j d), floor f (g j) p d (λ k m. v.left k (omega arith)), roof g (g j) j d (λ k. falls-le g hg j (j + k) (omega arith)))
      go false t =
          let l : i < p = leb-false p i t in
          let d : ℕ = p - i in
          let ei : i + d ≡ p = omega arith in
          let eq : q + d ≡ j = omega (arith, v.count) in
          omega (arith, rw ei at (S-shift f i d), rw eq at (S-shift g q d), floor g (f i) q d (λ k m. v.right k (omega arith)), roof f (f i) i d (λ k. falls-le f hf i (i + k) (omega arith)))

  pub merge-over : (p q : ℕ) → S f p + S g q ≤ S (merge f g) (p + q)
  merge-over p q = let v = inv (p + q) in omega (arith, best (p + q) _ _ v p q refl, v.sum)

  pub merge-met : (P : ℕ) → (p : ℕ) × (q : ℕ) × (p + q ≡ P) × (S (merge f g) P ≡ S f p + S g q)
  merge-met P = (_, _, (inv P).count, (inv P).sum)

  pub merge-falls : Falls (merge f g)
  unfolding merge taken next
  merge-falls n = go _ _ (inv n) _ refl
    where
      go : (i j : ℕ) → Inv f g n i j → (b : Bool) → leb (g j) (f i) ≡ b
          → max (f (cond b (suc i) i)) (g (cond b j (suc j))) ≤ max (f i) (g j)
      go i j v true e = omega (arith, hf i)
      go i j v false e = omega (arith, hg j)
