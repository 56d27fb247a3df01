-- Steps up to an allowance: what they make, how many they are, and that they end.
use Rattle.std.specs.Prelude.{◌≡◌, refl, false, true, ℕ, zero, suc, ◌≤◌, T}
use Rattle.std.proofs.Common.{ap, subst, arith}
use Rattle.std.proofs.Math.Option.{Option, some, none}
use Rattle.table.specs.Numbers.{most_records}
use Rattle.table.specs.Trees.{Tree, records}
use Rattle.table.specs.Questions.{Accepted}
use Rattle.table.proofs.Laws.Trees.{some-records}
use Rattle.evaluate.specs.Evaluate.{fits, zeros}
use Rattle.simplify.specs.Steps.{Made, onward, steps, and_then, after, step, is_none}
use Rattle.simplify.proofs.Laws.Keeps.{Kept, kept_refl, kept_trans}
use Rattle.simplify.proofs.Laws.Stepping.{Steps, ends, goes, last, step-steps}

-- ---- steps up to an allowance

onward-kept : (t : Tree) (k : Tree → Made) → ((u : Tree) → Kept true (k u).tree u) → (x : Option Tree) → Steps t x → Kept true (onward t k x).tree t
unfolding onward
onward-kept t k h none ends = kept_refl t
onward-kept t k h (some u) (goes q l) = kept_trans t u _ (h u) q
onward-kept t k h (some u) (last q o e) = kept_trans t u _ (h u) q

pub steps-kept : (n : ℕ) (t : Tree) → Kept true (steps n t).tree t
unfolding steps
steps-kept zero t = kept_refl t
steps-kept (suc n) t = onward-kept t (steps n) (steps-kept n) _ (step-steps t)

onward-made : (t : Tree) (k : Tree → Made) → ((u : Tree) → after (k u).taken u ≡ some (k u).tree) → (x : Option Tree) → step t ≡ x
    → after (onward t k x).taken t ≡ some (onward t k x).tree
unfolding onward after and_then
onward-made t k h none e = refl
onward-made t k h (some u) e = rw e (h u)

pub steps-made : (n : ℕ) (t : Tree) → after (steps n t).taken t ≡ some (steps n t).tree
unfolding steps after
steps-made zero t = refl
steps-made (suc n) t = onward-made t (steps n) (steps-made n) _ refl

onward-within : (n : ℕ) (t : Tree) (k : Tree → Made) → ((u : Tree) → (k u).taken ≤ n) → (x : Option Tree) → (onward t k x).taken ≤ suc n
unfolding onward
onward-within n t k h none = omega arith
onward-within n t k h (some u) = omega (arith, h u)

pub steps-within : (n : ℕ) (t : Tree) → (steps n t).taken ≤ n
unfolding steps
steps-within zero t = omega arith
steps-within (suc n) t = onward-within n t (steps n) (steps-within n) _

onward-spent : (n : ℕ) (t : Tree) (k : Tree → Made) → ((u : Tree) → (k u).finished ≡ false → (k u).taken ≡ n) → (x : Option Tree)
    → (onward t k x).finished ≡ false → (onward t k x).taken ≡ suc n
unfolding onward
onward-spent n t k h none e = absurd (subst T e tt)
onward-spent n t k h (some u) e = ap suc (h u e)

pub steps-spent : (n : ℕ) (t : Tree) → (steps n t).finished ≡ false → (steps n t).taken ≡ n
unfolding steps
steps-spent zero t e = refl
steps-spent (suc n) t e = onward-spent n t (steps n) (steps-spent n) _ e

onward-finished : (t : Tree) (k : Tree → Made) → ((u : Tree) → (k u).finished ≡ is_none (step (k u).tree)) → (x : Option Tree) → step t ≡ x
    → (onward t k x).finished ≡ is_none (step (onward t k x).tree)
unfolding onward is_none
onward-finished t k h none e = rw e refl
onward-finished t k h (some u) e = h u

pub steps-finished : (n : ℕ) (t : Tree) → (steps n t).finished ≡ is_none (step (steps n t).tree)
unfolding steps
steps-finished zero t = refl
steps-finished (suc n) t = onward-finished t (steps n) (steps-finished n) _ refl

-- where no rule fits
done : (n : ℕ) (t : Tree) → step t ≡ none → (steps n t).finished ≡ true
unfolding steps onward is_none
done zero t e = rw e refl
done (suc n) t e = rw e refl

onward-ends : (n : ℕ) (t : Tree) → ((u : Tree) → T (fits zeros u) → Accepted u → records u ≤ n → (steps n u).finished ≡ true)
    → T (fits zeros t) → Accepted t → records t ≤ suc n → (x : Option Tree) → Steps t x → (onward t (steps n) x).finished ≡ true
unfolding onward
onward-ends n t h f a l none ends = refl
onward-ends n t h f a l (some u) (goes q r) = h u (q.still_fits zeros f) (q.still_accepted (λ x. f) a) (omega (arith, r a.listed))
onward-ends n t h f a l (some u) (last q o e) = done n u e

pub steps-end : (n : ℕ) (t : Tree) → T (fits zeros t) → Accepted t → records t ≤ n → (steps n t).finished ≡ true
unfolding steps
steps-end zero t f a l = absurd (omega (arith, some-records t))
steps-end (suc n) t f a l = onward-ends n t (steps-end n) f a l _ (step-steps t)

-- so rules stop fitting within 512 steps
pub steps-end-in : (t : Tree) → T (fits zeros t) → Accepted t → (steps most_records t).finished ≡ true
steps-end-in t f a = steps-end most_records t f a a.short
