-- Lists of passes: totals and what holds of all; the two sides of choices and the bodies of loops; two lists side by side, and one cut into parts of one length.
use Rattle.std.specs.Prelude.{◌≡◌, refl, List, [], ◌∷◌, map, ◌++◌, ◌⊎◌, ℕ, zero, suc, ◌+◌, ◌*◌, ◌≤◌, length, replicate, take, drop}
use Rattle.std.proofs.Common.{ap, sym, inl, inr, mul-suc, arith, length-append, take-append-drop, length-take, length-drop}
use Rattle.runs.specs.Runs.{total, All}

-- ---- totals

pub total-map : {A B : Type 0} (f : B → ℕ) (g : A → B) (xs : List A) → total f (map g xs) ≡ total (λ x. f (g x)) xs
unfolding total
total-map f g [] = refl
total-map f g (x ∷ xs) = ap (λ n. f (g x) + n) (total-map f g xs)

pub length-map : {A B : Type 0} (g : A → B) (xs : List A) → length (map g xs) ≡ length xs
length-map g [] = refl
length-map g (x ∷ xs) = ap suc (length-map g xs)

pub total-const : {A : Type 0} (c : ℕ) (xs : List A) → total (λ x. c) xs ≡ length xs * c
unfolding total
total-const c [] = omega arith
total-const c (x ∷ xs) = omega (arith, total-const c xs)

pub total-append : {A : Type 0} (f : A → ℕ) (xs ys : List A) → total f (xs ++ ys) ≡ total f xs + total f ys
unfolding total
total-append f [] ys = omega arith
total-append f (x ∷ xs) ys = omega (arith, total-append f xs ys)

-- the two sides of a list of choices
unfoldable pub lefts : {A B : Type 0} → List (A ⊎ B) → List A
lefts [] = []
lefts (inl a ∷ xs) = a ∷ lefts xs
lefts (inr b ∷ xs) = lefts xs

unfoldable pub rights : {A B : Type 0} → List (A ⊎ B) → List B
rights [] = []
rights (inl a ∷ xs) = rights xs
rights (inr b ∷ xs) = b ∷ rights xs

pub sides : {A B : Type 0} (xs : List (A ⊎ B)) → length (lefts xs) + length (rights xs) ≡ length xs
unfolding lefts rights
sides [] = refl
sides (inl a ∷ xs) = omega (arith, sides xs)
sides (inr b ∷ xs) = omega (arith, sides xs)

pub total-sides : {A B : Type 0} (h : A ⊎ B → ℕ) (xs : List (A ⊎ B))
    → total h xs ≡ total (λ a. h (inl a)) (lefts xs) + total (λ b. h (inr b)) (rights xs)
unfolding lefts rights total
total-sides h [] = refl
total-sides h (inl a ∷ xs) = omega (arith, total-sides h xs)
total-sides h (inr b ∷ xs) = omega (arith, total-sides h xs)

-- the bodies of a list of loops' passes
unfoldable pub flat : {A B : Type 0} → List (List A × B) → List A
flat [] = []
flat (x ∷ xs) = x.0 ++ flat xs

pub total-flat : {A B : Type 0} (f : A → ℕ) (xs : List (List A × B)) → total f (flat xs) ≡ total (λ x. total f x.0) xs
unfolding flat total
total-flat f [] = refl
total-flat f (x ∷ xs) = omega (arith, total-append f x.0 (flat xs), total-flat f xs)

pub length-flat : {A B : Type 0} (n : ℕ) (xs : List (List A × B)) → All (λ x. length x.0 ≤ n) xs → length (flat xs) ≤ n * length xs
unfolding flat
length-flat n [] h = omega arith
length-flat n (x ∷ xs) h = omega (arith, length-append x.0 (flat xs), length-flat n xs h.1, h.0)

-- ---- what holds of every member

pub all-to : {A B : Type 0} (P : A → Type 0) (Q : B → Type 0) (g : A → B) → ((x : A) → P x → Q (g x)) → (xs : List A) → All P xs → All Q (map g xs)
all-to P Q g f [] h = tt
all-to P Q g f (x ∷ xs) h = (f x h.0, all-to P Q g f xs h.1)

pub all-impl : {A : Type 0} (P Q : A → Type 0) → ((x : A) → P x → Q x) → (xs : List A) → All P xs → All Q xs
all-impl P Q f [] h = tt
all-impl P Q f (x ∷ xs) h = (f x h.0, all-impl P Q f xs h.1)

pub all-lefts : {A B : Type 0} (P : A ⊎ B → Type 0) (Q : A → Type 0) → ((a : A) → P (inl a) → Q a) → (xs : List (A ⊎ B)) → All P xs → All Q (lefts xs)
unfolding lefts
all-lefts P Q f [] h = tt
all-lefts P Q f (inl a ∷ xs) h = (f a h.0, all-lefts P Q f xs h.1)
all-lefts P Q f (inr b ∷ xs) h = all-lefts P Q f xs h.1

pub all-rights : {A B : Type 0} (P : A ⊎ B → Type 0) (Q : B → Type 0) → ((b : B) → P (inr b) → Q b) → (xs : List (A ⊎ B)) → All P xs → All Q (rights xs)
unfolding rights
all-rights P Q f [] h = tt
all-rights P Q f (inl a ∷ xs) h = all-rights P Q f xs h.1
all-rights P Q f (inr b ∷ xs) h = (f b h.0, all-rights P Q f xs h.1)

pub all_append : {A : Type 0} (P : A → Type 0) (xs ys : List A) → All P xs → All P ys → All P (xs ++ ys)
all_append P [] ys h k = k
all_append P (x ∷ xs) ys h k = (h.0, all_append P xs ys h.1 k)

pub all-flat : {A B : Type 0} (P : A → Type 0) (xs : List (List A × B)) → All (λ x. All P x.0) xs → All P (flat xs)
unfolding flat
all-flat P [] h = tt
all-flat P (x ∷ xs) h = all_append P x.0 (flat xs) h.0 (all-flat P xs h.1)

pub total-le : {A : Type 0} (f : A → ℕ) (c : ℕ) (xs : List A) → All (λ x. f x ≤ c) xs → total f xs ≤ length xs * c
unfolding total
total-le f c [] h = omega arith
total-le f c (x ∷ xs) h = omega (arith, h.0, total-le f c xs h.1)

pub all_both : {A : Type 0} (P Q : A → Type 0) (xs : List A) → All P xs → All Q xs → All (λ x. P x × Q x) xs
all_both P Q [] h k = tt
all_both P Q (x ∷ xs) h k = ((h.0, k.0), all_both P Q xs h.1 k.1)

-- what the totals keep to, each member keeps to
pub all-down : {A N : Type 0} (f : A → N → ℕ) (Q : N → ℕ → Type 0) → ((x : N) (y z : ℕ) → y ≤ z → Q x z → Q x y)
    → (xs : List A) → ((x : N) → Q x (total (λ a. f a x) xs)) → All (λ a. (x : N) → Q x (f a x)) xs
unfolding total
all-down f Q d [] h = tt
all-down f Q d (a ∷ xs) h =
    (λ x. d x _ _ (omega arith) (h x), all-down f Q d xs (λ x. d x _ _ (omega arith) (h x)))

pub total-zero : {A : Type 0} (xs : List A) → total (λ x. 0) xs ≡ 0
total-zero xs = omega (arith, total-const 0 xs)

pub total-one : {A : Type 0} (xs : List A) → total (λ x. 1) xs ≡ length xs
total-one xs = omega (arith, total-const 1 xs)

pub all-copies : {A : Type 0} (P : A → Type 0) (n : ℕ) (a : A) → P a → All P (replicate n a)
all-copies P zero a h = tt
all-copies P (suc n) a h = (h, all-copies P n a h)

-- ---- two lists side by side

unfoldable pub zip : {A B : Type 0} → List A → List B → List (A × B)
zip [] ys = []
zip (x ∷ xs) [] = []
zip (x ∷ xs) (y ∷ ys) = (x, y) ∷ zip xs ys

pub zip_length : {A B : Type 0} (xs : List A) (ys : List B) → length xs ≡ length ys → length (zip xs ys) ≡ length xs
unfolding zip
zip_length [] ys e = refl
zip_length (x ∷ xs) [] e = absurd (omega arith)
zip_length (x ∷ xs) (y ∷ ys) e = ap suc (zip_length xs ys (omega arith))

pub zip-left : {A B : Type 0} (f : A → ℕ) (xs : List A) (ys : List B) → length xs ≡ length ys → total (λ p. f p.0) (zip xs ys) ≡ total f xs
unfolding zip total
zip-left f [] ys e = refl
zip-left f (x ∷ xs) [] e = absurd (omega arith)
zip-left f (x ∷ xs) (y ∷ ys) e = ap (λ n. f x + n) (zip-left f xs ys (omega arith))

pub zip-right : {A B : Type 0} (g : B → ℕ) (xs : List A) (ys : List B) → length xs ≡ length ys → total (λ p. g p.1) (zip xs ys) ≡ total g ys
unfolding zip total
zip-right g [] [] e = refl
zip-right g [] (y ∷ ys) e = absurd (omega arith)
zip-right g (x ∷ xs) [] e = absurd (omega arith)
zip-right g (x ∷ xs) (y ∷ ys) e = ap (λ n. g y + n) (zip-right g xs ys (omega arith))

pub zip-all : {A B : Type 0} (P : A → Type 0) (Q : B → Type 0) (R : A × B → Type 0) → ((x : A) (y : B) → P x → Q y → R (x, y))
    → (xs : List A) (ys : List B) → All P xs → All Q ys → All R (zip xs ys)
unfolding zip
zip-all P Q R f [] ys h k = tt
zip-all P Q R f (x ∷ xs) [] h k = tt
zip-all P Q R f (x ∷ xs) (y ∷ ys) h k = (f x y h.0 k.0, zip-all P Q R f xs ys h.1 k.1)

-- ---- P parts of n members each

unfoldable pub cut : {A : Type 0} → (n P : ℕ) → List A → List (List A)
cut n zero xs = []
cut n (suc P) xs = take n xs ∷ cut n P (drop n xs)

pub cut-length : {A : Type 0} (n P : ℕ) (xs : List A) → length (cut n P xs) ≡ P
unfolding cut
cut-length n zero xs = refl
cut-length n (suc P) xs = ap suc (cut-length n P (drop n xs))

cut_left : {A : Type 0} (n P : ℕ) (xs : List A) → length xs ≡ n * suc P → length (drop n xs) ≡ n * P
cut_left n P xs e = omega (arith, length-drop n xs, mul-suc n P)

no-members : {A : Type 0} (f : A → ℕ) (xs : List A) → length xs ≡ 0 → total f xs ≡ 0
unfolding total
no-members f [] e = refl
no-members f (x ∷ xs) e = absurd (omega arith)

pub cut-total : {A : Type 0} (f : A → ℕ) (n P : ℕ) (xs : List A) → length xs ≡ n * P → total (λ ys. total f ys) (cut n P xs) ≡ total f xs
unfolding cut total
cut-total f n zero xs e = sym (no-members f xs (omega arith))
cut-total f n (suc P) xs e =
    let i = cut-total f n P (drop n xs) (cut_left n P xs e) in
    let j = total-append f (take n xs) (drop n xs) in
    omega (arith, i, j, ap (total f) (take-append-drop n xs))

all-front : {A : Type 0} (Q : A → Type 0) (n : ℕ) (xs : List A) → All Q xs → All Q (take n xs)
all-front Q zero xs h = tt
all-front Q (suc n) [] h = tt
all-front Q (suc n) (x ∷ xs) h = (h.0, all-front Q n xs h.1)

all_back : {A : Type 0} (Q : A → Type 0) (n : ℕ) (xs : List A) → All Q xs → All Q (drop n xs)
all_back Q zero xs h = h
all_back Q (suc n) [] h = tt
all_back Q (suc n) (x ∷ xs) h = all_back Q n xs h.1

pub cut_all : {A : Type 0} (Q : A → Type 0) (n P : ℕ) (xs : List A) → All Q xs → All (λ ys. (length ys ≤ n) × All Q ys) (cut n P xs)
unfolding cut
cut_all Q n zero xs h = tt
cut_all Q n (suc P) xs h = ((omega (arith, length-take n xs), all-front Q n xs h), cut_all Q n P (drop n xs) (all_back Q n xs h))
