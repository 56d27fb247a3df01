-- A place from which a stream is constant, and what each operation does to it.
use Rattle.std.specs.Prelude.{◌≡◌, refl, Bool, true, false, cond, ℕ, ◌≤◌, ◌+◌, ◌<◌, max, ◌*◌, leb, ltb}
use Rattle.std.proofs.Common.{sym, ◌∙◌, ap₂, le_trans, le_antisymm, mul-le-mul_right, arith, ltb→lt, leb-true, leb-false}
use Rattle.booleans.specs.Laws.{by_cond}
use Rattle.lists.specs.Streams.{Stream, const, add, merge, taken, group, shift, cap}
use Rattle.lists.specs.Laws.Sums.{Falls, falls-le, S-below}
use Rattle.lists.specs.Laws.Merge.{Inv, inv}

-- ---- streams

-- f is constant from place p on
abbrev pub Settled : ℕ → Stream → Type 0
Settled p f = (i : ℕ) → p ≤ i → f i ≡ f p

pub later : (p q : ℕ) (f : Stream) → p ≤ q → Settled p f → Settled q f
later p q f l h i g = h i (le_trans l g) ∙ sym (h q l)

pub const-settled : (c p : ℕ) → Settled p (const c)
unfolding const
const-settled c p i l = refl

pub add-settled : (p q : ℕ) (f g : Stream) → Settled p f → Settled q g → Settled (p + q) (add f g)
unfolding add
add-settled p q f g a b i l = ap₂ (λ x y. x + y) (later p (p + q) f (omega arith) a i l) (later q (p + q) g (omega arith) b i l)

-- past p + q, the larger of the two for ever
merge-level : (p q : ℕ) (f g : Stream) → Falls f → Falls g → Settled p f → Settled q g → (n : ℕ) → p + q ≤ n → merge f g n ≡ max (f p) (g q)
unfolding merge
merge-level p q f g hf hg a b n l = go (taken f g n).0 (taken f g n).1 (inv f g hf hg n)
  where
    go : (i j : ℕ) → Inv f g n i j → max (f i) (g j) ≡ max (f p) (g q)
    go i j v = le_antisymm upper lower
      where
        low : (p i : ℕ) (f : Stream) → Falls f → Settled p f → f p ≤ f i
        low p i f h a = part (leb p i) refl
          where
            part : (t : Bool) → leb p i ≡ t → f p ≤ f i
            part true e = omega (arith, a i (leb-true p i e))
            part false e = falls-le f h i p (omega (arith, leb-false p i e))

        lower : max (f p) (g q) ≤ max (f i) (g j)
        lower = omega (arith, low p i f hf a, low q j g hg b)

        fst : f i ≤ max (f p) (g q)
        fst = part (leb p i) refl
          where
            part : (t : Bool) → leb p i ≡ t → f i ≤ max (f p) (g q)
            part true e = omega (arith, a i (leb-true p i e))
            part false e =
                let c : i < p = leb-false p i e in
                let k : q < j = omega (arith, v.count) in
                omega (arith, v.right q k)

        snd : g j ≤ max (f p) (g q)
        snd = part (leb q j) refl
          where
            part : (t : Bool) → leb q j ≡ t → g j ≤ max (f p) (g q)
            part true e = omega (arith, b j (leb-true q j e))
            part false e =
                let c : j < q = leb-false q j e in
                let k : p < i = omega (arith, v.count) in
                omega (arith, v.left p k)

        upper : max (f i) (g j) ≤ max (f p) (g q)
        upper = omega (arith, fst, snd)

pub merge-settled : (p q : ℕ) (f g : Stream) → Falls f → Falls g → Settled p f → Settled q g → Settled (p + q) (merge f g)
merge-settled p q f g hf hg a b i l = merge-level p q f g hf hg a b i l ∙ sym (merge-level p q f g hf hg a b (p + q) (omega arith))

pub group-settled : (p n : ℕ) (f : Stream) → Settled p f → Settled p (group n f)
unfolding group shift
group-settled p n f a i l = le_antisymm (S-below _ _ n (λ j q. omega (arith, all i l j q, all p (omega arith) j q))) (S-below _ _ n (λ j q. omega (arith, all i l j q, all p (omega arith) j q)))
  where
    all : (i : ℕ) → p ≤ i → (j : ℕ) → j < n → f (n * i + j) ≡ f p
    all i l j q =
        let one : 1 ≤ n = omega arith in
        a (n * i + j) (omega (arith, mul-le-mul_right i one))

pub cap-settled : (m p : ℕ) (f : Stream) → m ≤ p → Settled p (cap m f)
unfolding cap
cap-settled m p f l i g = out i (le_trans l g) ∙ sym (out p l)
  where
    out : (i : ℕ) → m ≤ i → cond (ltb i m) (f i) 0 ≡ 0
    out i h = by_cond (λ x. x ≡ 0) (ltb i m) _ _ (λ e. absurd (omega (arith, ltb→lt i m e))) (λ e. refl)
