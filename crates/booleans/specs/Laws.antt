-- Tests joined and taken apart, and a choice by a test.
use Rattle.std.specs.Prelude.{◌≡◌, refl, Bool, true, false, cond, ◌&&◌, ◌||◌, T}
use Rattle.std.proofs.Common.{sym, subst}
use Rattle.booleans.specs.Tests.{◌and◌}

pub both : (a b : Bool) → T (a and b) → T a × T b
unfolding ◌and◌
both true b t = (tt, t)
both false b t = absurd t

pub join-and : (a b : Bool) → T a → T b → T (a and b)
unfolding ◌and◌
join-and true b t u = u
join-and false b t u = absurd t

pub and-false : (b : Bool) → (b and false) ≡ false
unfolding ◌and◌
and-false true = refl
and-false false = refl

pub and-true : (b : Bool) → (b and true) ≡ b
unfolding ◌and◌
and-true true = refl
and-true false = refl

pub and_assoc : (a b c : Bool) → (a and b and c) ≡ (a and (b and c))
unfolding ◌and◌
and_assoc true b c = refl
and_assoc false b c = refl

pub T-is : (b : Bool) → T b → b ≡ true
T-is true h = refl
T-is false h = absurd h

pub is_T : (b : Bool) → b ≡ true → T b
is_T b e = subst T (sym e) tt

pub by_cond {ℓ κ} : {A : Type ℓ} (Q : A → Type κ) (b : Bool) (x y : A) → (T b → Q x) → (b ≡ false → Q y) → Q (cond b x y)
by_cond Q true x y f g = f tt
by_cond Q false x y f g = g refl

-- two by one test
pub by-conds {ℓ κ μ} : {A : Type ℓ} {B : Type κ} (Q : A → B → Type μ) (b : Bool) (x y : A) (z w : B) → (T b → Q x z) → (b ≡ false → Q y w) → Q (cond b x y) (cond b z w)
by-conds Q true x y z w f g = f tt
by-conds Q false x y z w f g = g refl

pub &&-both : (a b : Bool) → T (a && b) → T a × T b
&&-both true b t = (tt, t)
&&-both false b t = absurd t

pub or-false : (a : Bool) → T (a || false) → T a
or-false true h = tt
or-false false h = h

pub or_left : (a b : Bool) → T a → T (a || b)
or_left true b h = tt
or_left false b h = absurd h

pub &&-join : (a b : Bool) → T a → T b → T (a && b)
&&-join true b h i = i
&&-join false b h i = absurd h

pub or_else : (a b : Bool) → T (a || b) → a ≡ false → T b
or_else true b h e = absurd (subst T e tt)
or_else false b h e = h

pub either : (a b : Bool) {Q : Type 0} → T (a || b) → (T a → Q) → (T b → Q) → Q
either true b h f g = f tt
either false b h f g = g h

-- ---- the code's `&` is the definitions' `and`

pub and_is : (x y : Bool) → (x && y) ≡ (x and y)
unfolding ◌and◌
and_is true y = refl
and_is false y = refl

-- two tests that say yes together are one
pub same_test : (a b : Bool) → (T a → T b) → (T b → T a) → a ≡ b
same_test true true p q = refl
same_test true false p q = absurd (p tt)
same_test false true p q = absurd (q tt)
same_test false false p q = refl
