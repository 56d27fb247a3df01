-- How often a stream falls: its pairs, less one. What each operation does to that number.
use Rattle.std.specs.Prelude.{◌≡◌, refl, cond, Bool, true, false, ℕ, zero, suc, ◌+◌, ◌≤◌, ◌-◌, ◌<◌, max, ◌*◌, ltb, leb}
use Rattle.std.proofs.Common.{ap₂, le_trans, add-zero, add-suc, add-sub_of_le, mul-suc, ltb→lt, ltb-false, ltb-true, leb-true, leb-false}
use native.Mathlib.Omega.{arith}
use Rattle.booleans.specs.Laws.{by_cond}
use Rattle.lists.specs.Streams.{Stream, const, add, cap, merge, next, taken, group, shift}
use Rattle.lists.specs.Laws.Sums.{Falls, falls-le, S-below}

-- ---- definitions

-- how often a stream falls among its first P + 1 members: its pairs, less one
unfoldable pub falls : Stream → ℕ → ℕ
falls f zero = 0
falls f (suc P) = falls f P + cond (ltb (f (suc P)) (f P)) 1 0

-- ---- streams

abbrev pub Few : ℕ → Stream → Type 0
Few w f = (P : ℕ) → falls f P ≤ w

pub const-few : (c : ℕ) → Few 0 (const c)
unfolding falls const
const-few c zero = omega arith
const-few c (suc P) = by_cond (λ x. falls (const c) P + x ≤ 0) (ltb c c) _ _ (λ e. absurd (omega (arith, ltb→lt c c e))) (λ e. omega (arith, const-few c P))

pub more : (w u : ℕ) (f : Stream) → w ≤ u → Few w f → Few u f
more w u f l h P = le_trans (h P) l

falls-grow : (f : Stream) (P d : ℕ) → falls f P ≤ falls f (P + d)
unfolding falls
falls-grow f P zero = rw (add-zero P) (omega arith)
falls-grow f P (suc d) = rw (add-suc P d) (omega (arith, falls-grow f P d))

falls-up : (f : Stream) (P Q : ℕ) → P ≤ Q → falls f P ≤ falls f Q
falls-up f P Q l = rw (add-sub_of_le l) at (falls-grow f P (Q - P))

-- one place
unfoldable pub drop : ℕ → ℕ → ℕ
drop a b = cond (ltb b a) 1 0

pub drop-none : (a b : ℕ) → a ≤ b → drop a b ≡ 0
unfolding drop
drop-none a b h = by_cond (λ x. x ≡ 0) (ltb b a) _ _ (λ e. absurd (omega (arith, ltb→lt b a e))) (λ e. refl)

pub drop-some : (a b : ℕ) → b < a → drop a b ≡ 1
unfolding drop
drop-some a b h = by_cond (λ x. x ≡ 1) (ltb b a) _ _ (λ e. refl) (λ e. absurd (omega (arith, ltb-false b a e)))

drop-most : (a b : ℕ) → drop a b ≤ 1
unfolding drop
drop-most a b = by_cond (λ x. x ≤ 1) (ltb b a) _ _ (λ e. omega arith) (λ e. omega arith)

-- a drop of the one is covered by a sum of others, if some of them drop where it does
drop_le : (a b x : ℕ) → (b < a → 1 ≤ x) → drop a b ≤ x
unfolding drop
drop_le a b x h = by_cond (λ y. y ≤ x) (ltb b a) _ _ (λ e. h (ltb→lt b a e)) (λ e. omega arith)

pub falls-suc : (f : Stream) (P : ℕ) → falls f (suc P) ≡ falls f P + drop (f P) (f (suc P))
unfolding falls drop
falls-suc f P = refl

drop-add : (a b c d : ℕ) → drop (a + c) (b + d) ≤ drop a b + drop c d
drop-add a b c d = drop_le _ _ _ (λ l. go (ltb b a) refl l)
  where
    go : (t : Bool) → ltb b a ≡ t → b + d < a + c → 1 ≤ drop a b + drop c d
    go true e l = omega (arith, drop-some a b (ltb-true b a e))
    go false e l = omega (arith, drop-some c d (omega (arith, ltb-false b a e)))

pub add-few : (f g : Stream) (P : ℕ) → falls (add f g) P ≤ falls f P + falls g P
add-few f g zero = unfold falls in omega arith
add-few f g (suc P) = step (add-few f g P)
  where
    step : falls (add f g) P ≤ falls f P + falls g P → falls (add f g) (suc P) ≤ falls f (suc P) + falls g (suc P)
    step h =
        let d : drop (add f g P) (add f g (suc P)) ≤ drop (f P) (f (suc P)) + drop (g P) (g (suc P)) = unfold add in drop-add (f P) (f (suc P)) (g P) (g (suc P)) in
        omega (arith, falls-suc (add f g) P, falls-suc f P, falls-suc g P)

-- a limit: one more
cap-in : (m : ℕ) (f : Stream) (i : ℕ) → i < m → cap m f i ≡ f i
unfolding cap
cap-in m f i h = by_cond (λ x. x ≡ f i) (ltb i m) _ _ (λ e. refl) (λ e. absurd (omega (arith, ltb-false i m e)))

cap-out : (m : ℕ) (f : Stream) (i : ℕ) → m ≤ i → cap m f i ≡ 0
unfolding cap
cap-out m f i h = by_cond (λ x. x ≡ 0) (ltb i m) _ _ (λ e. absurd (omega (arith, ltb→lt i m e))) (λ e. refl)

pub cap-few : (m : ℕ) (f : Stream) (P : ℕ) → (P < m → falls (cap m f) P ≤ falls f P) × (falls (cap m f) P ≤ suc (falls f P))
cap-few m f zero = unfold falls in (λ l. omega arith, omega arith)
cap-few m f (suc P) = step (cap-few m f P)
  where
    step : (P < m → falls (cap m f) P ≤ falls f P) × (falls (cap m f) P ≤ suc (falls f P))
        → (suc P < m → falls (cap m f) (suc P) ≤ falls f (suc P)) × (falls (cap m f) (suc P) ≤ suc (falls f (suc P)))
    step (h, i) = (
      λ l.
          let e : drop (cap m f P) (cap m f (suc P)) ≡ drop (f P) (f (suc P)) = ap₂ drop (cap-in m f P (omega arith)) (cap-in m f (suc P) l) in
          omega (arith, falls-suc (cap m f) P, falls-suc f P, h (omega arith)),
      go (ltb P m) refl,
    )
      where
        go : (b : Bool) → ltb P m ≡ b → falls (cap m f) (suc P) ≤ suc (falls f (suc P))
        go true e = omega (arith, falls-suc (cap m f) P, falls-suc f P, h (ltb-true P m e), drop-most (cap m f P) (cap m f (suc P)))
        go false e =
            let n : drop (cap m f P) (cap m f (suc P)) ≡ 0 = drop-none _ _ (omega (arith, cap-out m f P (ltb-false P m e))) in
            omega (arith, falls-suc (cap m f) P, falls-suc f P)

-- a choice
merge_step : (f g : Stream) (n i j : ℕ) (m m' : ℕ) → m ≡ max (f i) (g j) → (b : Bool) → leb (g j) (f i) ≡ b
    → m' ≡ max (f (cond b (suc i) i)) (g (cond b j (suc j)))
    → falls f i + falls g j + drop m m' ≤ falls f (cond b (suc i) i) + falls g (cond b j (suc j))
merge_step f g n i j m m' e true t e' =
    let l : g j ≤ f i = leb-true (g j) (f i) t in
    let d : drop m m' ≤ drop (f i) (f (suc i)) = drop_le _ _ _ (λ q. omega (arith, drop-some (f i) (f (suc i)) (omega arith))) in
    omega (arith, falls-suc f i)
merge_step f g n i j m m' e false t e' =
    let l : f i < g j = leb-false (g j) (f i) t in
    let d : drop m m' ≤ drop (g j) (g (suc j)) = drop_le _ _ _ (λ q. omega (arith, drop-some (g j) (g (suc j)) (omega arith))) in
    omega (arith, falls-suc g j)

merge-next : (f g : Stream) (n : ℕ)
    → falls f (taken f g n).0 + falls g (taken f g n).1 + drop (merge f g n) (merge f g (suc n)) ≤ falls f (taken f g (suc n)).0 + falls g (taken f g (suc n)).1
unfolding merge taken next
merge-next f g n = merge_step f g n (taken f g n).0 (taken f g n).1 _ _ refl (leb (g (taken f g n).1) (f (taken f g n).0)) refl refl

pub merge-few : (f g : Stream) (n : ℕ) → falls (merge f g) n ≤ falls f (taken f g n).0 + falls g (taken f g n).1
merge-few f g zero = unfold falls in omega arith
merge-few f g (suc n) = omega (arith, falls-suc (merge f g) n, merge-next f g n, merge-few f g n)

-- a loop: each fall is seen by two groups at most
still : (f : Stream) → Falls f → (a j : ℕ) → falls f (a + j) ≤ falls f a → f a ≤ f (a + j)
still f h a zero l = rw (add-zero a) (omega arith)
still f h a (suc j) l = rw (add-suc a j) (go (rw (add-suc a j) at l) (still f h a j))
  where
    go : falls f (suc (a + j)) ≤ falls f a → (falls f (a + j) ≤ falls f a → f a ≤ f (a + j)) → f a ≤ f (suc (a + j))
    go l i = step (ltb (f (suc (a + j))) (f (a + j))) refl
      where
        step : (b : Bool) → ltb (f (suc (a + j))) (f (a + j)) ≡ b → f a ≤ f (suc (a + j))
        step true e = absurd (omega (arith, falls-suc f (a + j), falls-grow f a j, drop-some (f (a + j)) (f (suc (a + j))) (ltb-true (f (suc (a + j))) (f (a + j)) e)))
        step false e = omega (arith, ltb-false (f (suc (a + j))) (f (a + j)) e, i (omega (arith, falls-suc f (a + j))))

group-still : (n : ℕ) (f : Stream) → Falls f → (P : ℕ) → falls f (n * P + (n + n)) ≤ falls f (n * P) → group n f P ≤ group n f (suc P)
unfolding group shift
group-still n f h P l =
    S-below _ _ n
    (λ i q.
    let a : f (n * P + i) ≤ f (n * P) = falls-le f h (n * P) (n * P + i) (omega arith) in
    let b : f (n * P + (n + n)) ≤ f (n * suc P + i) = falls-le f h (n * suc P + i) (n * P + (n + n)) (rw (mul-suc n P) (omega arith)) in
    omega (arith, still f h (n * P) (n + n) l))

pub group-few : (n : ℕ) (f : Stream) → Falls f → (P : ℕ) → falls (group n f) P ≤ falls f (n * P) + falls f (n * suc P)
group-few n f h zero = unfold falls in omega arith
group-few n f h (suc P) = step (group-few n f h P) (leb (falls f (n * P + (n + n))) (falls f (n * P))) refl
  where
    e₂ : n * suc (suc P) ≡ n * P + (n + n)
    e₂ = rw (mul-suc n (suc P), mul-suc n P) (omega arith)

    step : falls (group n f) P ≤ falls f (n * P) + falls f (n * suc P) → (b : Bool) → leb (falls f (n * P + (n + n))) (falls f (n * P)) ≡ b
        → falls (group n f) (suc P) ≤ falls f (n * suc P) + falls f (n * suc (suc P))
    step i true e =
        let d : drop (group n f P) (group n f (suc P)) ≡ 0 = drop-none _ _ (group-still n f h P (leb-true _ _ e)) in
        let u : falls f (n * P) ≤ falls f (n * suc (suc P)) = falls-up f _ _ (rw e₂ (omega arith)) in
        omega (arith, falls-suc (group n f) P)
    step i false e =
        let u : falls f (n * P) < falls f (n * suc (suc P)) = rw e₂ (leb-false _ _ e) in
        omega (arith, falls-suc (group n f) P, drop-most (group n f P) (group n f (suc P)))
