-- Prefix sums of the streams' operations; streams that never rise.
use Rattle.std.specs.Prelude.{◌≡◌, refl, cond, Bool, true, false, ℕ, zero, suc, ◌+◌, ◌*◌, ◌≤◌, ◌<◌, min, ◌-◌, ltb}
use Rattle.std.proofs.Common.{add-zero, add-suc, mul-zero, mul-suc, add-sub_of_le, arith, ltb-true, ltb-false}
use Rattle.std.proofs.Math.Nat.{min-zero}
use Rattle.lists.specs.Streams.{Stream, S, add, shift, group, cap, const}

pub S-add : (f g : Stream) (P : ℕ) → S (add f g) P ≡ S f P + S g P
unfolding S add
S-add f g zero = refl
S-add f g (suc P) = omega (arith, S-add f g P)

pub S-shift : (f : Stream) (a P : ℕ) → S f (a + P) ≡ S f a + S (shift f a) P
unfolding S shift
S-shift f a zero = simp add-zero
S-shift f a (suc P) = rw (add-suc a P) (omega (arith, S-shift f a P))

pub S-group : (n : ℕ) (f : Stream) (P : ℕ) → S (group n f) P ≡ S f (n * P)
unfolding S group
S-group n f zero = simp mul-zero
S-group n f (suc P) = rw (mul-suc n P, S-shift f (n * P) n) (omega (arith, S-group n f P))

pub S-zero : (f : Stream) → ((i : ℕ) → f i ≡ 0) → (P : ℕ) → S f P ≡ 0
unfolding S
S-zero f h zero = refl
S-zero f h (suc P) = omega (arith, S-zero f h P, h P)

pub S-cap : (m : ℕ) (f : Stream) (P : ℕ) → S (cap m f) P ≡ S f (min m P)
unfolding S cap
S-cap m f zero = simp min-zero
S-cap m f (suc P) = go (ltb P m) refl (S-cap m f P)
  where
    go : (b : Bool) → ltb P m ≡ b → S (cap m f) P ≡ S f (min m P) → S (cap m f) P + cond b (f P) 0 ≡ S f (min m (suc P))
    go true e h =
        let l : P < m = ltb-true P m e in
        let e₁ : min m P ≡ P = omega arith in
        let e₂ : min m (suc P) ≡ suc P = omega arith in
        rw (e₂, h, e₁) refl
    go false e h =
        let l : m ≤ P = ltb-false P m e in
        let e₁ : min m P ≡ m = omega arith in
        let e₂ : min m (suc P) ≡ m = omega arith in
        rw (e₂, h, e₁) (omega arith)

-- two streams with the same prefix sums are the same
pub S-inj : (f g : Stream) → ((P : ℕ) → S f P ≡ S g P) → (i : ℕ) → f i ≡ g i
unfolding S
S-inj f g h i = omega (arith, h i, h (suc i))

-- a stream that never rises
abbrev pub Falls : Stream → Type 0
Falls f = (i : ℕ) → f (suc i) ≤ f i

pub falls : (f : Stream) → Falls f → (i d : ℕ) → f (i + d) ≤ f i
falls f h i zero = simp add-zero (omega arith)
falls f h i (suc d) = rw (add-suc i d) (omega (arith, falls f h i d, h (i + d)))

pub falls-le : (f : Stream) → Falls f → (i j : ℕ) → i ≤ j → f j ≤ f i
falls-le f h i j l = rw (add-sub_of_le l) at (falls f h i (j - i))

pub const-falls : (c : ℕ) → Falls (const c)
unfolding const
const-falls c i = omega arith

pub add-falls : (f g : Stream) → Falls f → Falls g → Falls (add f g)
unfolding add
add-falls f g hf hg i = omega (arith, hf i, hg i)

pub S-le : (f g : Stream) → ((i : ℕ) → f i ≤ g i) → (P : ℕ) → S f P ≤ S g P
unfolding S
S-le f g h zero = omega arith
S-le f g h (suc P) = omega (arith, S-le f g h P, h P)

pub group-falls : (n : ℕ) (f : Stream) → Falls f → Falls (group n f)
unfolding group shift
group-falls n f h i = S-le _ _ (λ j. falls-le f h (n * i + j) (n * suc i + j) (omega arith)) n

pub cap-falls : (m : ℕ) (f : Stream) → Falls f → Falls (cap m f)
unfolding cap
cap-falls m f h i = go (ltb i m) refl (ltb (suc i) m) refl
  where
    go : (b : Bool) → ltb i m ≡ b → (c : Bool) → ltb (suc i) m ≡ c → cond c (f (suc i)) 0 ≤ cond b (f i) 0
    go true e true e' = h i
    go true e false e' = omega arith
    go false e true e' = omega (arith, ltb-false i m e, ltb-true (suc i) m e')
    go false e false e' = omega arith

pub S-const : (c P : ℕ) → S (const c) P ≡ P * c
unfolding S const
S-const c zero = omega arith
S-const c (suc P) = omega (arith, S-const c P)

pub S-grows : (f : Stream) (p q n : ℕ) → p + q ≡ n → S f p ≤ S f n
S-grows f p q n e = omega (arith, rw e at (S-shift f p q))

pub S-mono : (f : Stream) (p q : ℕ) → p ≤ q → S f p ≤ S f q
S-mono f p q l = S-grows f p (q - p) q (add-sub_of_le l)

pub S-below : (f g : Stream) (P : ℕ) → ((i : ℕ) → i < P → f i ≤ g i) → S f P ≤ S g P
unfolding S
S-below f g zero h = omega arith
S-below f g (suc P) h = omega (arith, S-below f g P (λ i l. h i (omega arith)), h P (omega arith))
