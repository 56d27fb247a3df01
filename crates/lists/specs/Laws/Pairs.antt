-- Pairs: a stream that never rises has canonical pairs, they stand for it, and they are its only ones.
use Rattle.std.specs.Prelude.{◌≡◌, refl, Bool, true, false, ℕ, ◌+◌, ◌-◌, ◌<◌, suc, ◌≤◌, zero, eqb, leb}
use Rattle.std.proofs.Math.Path.{sym, fun_ext}
use Rattle.std.proofs.Common.{ap, ◌∙◌, le_antisymm, eqb→eq, lt-ltb, le-ltb, leb-true, leb-false}
use native.Mathlib.Omega.{arith}
use Rattle.std.proofs.Math.Dec.{leb-suc-suc}
use Rattle.std.proofs.lemmas.Bool.{eqb-false}
use Rattle.booleans.specs.Laws.{by_cond}
use Rattle.lists.specs.Pairs.{Pairs, ever, run, expand, top, Canonical, width, places, in_front, tail, pairs, ArePairs}
use Rattle.lists.specs.Streams.{Stream}
use Rattle.lists.specs.Laws.Falls.{drop, drop-some, drop-none, falls, falls-suc}
use Rattle.lists.specs.Laws.Settled.{Settled}
use Rattle.lists.specs.Laws.Sums.{Falls}

-- ---- what pairs stand for

pub first-top : (r : Pairs) → Canonical r → expand r 0 ≡ top r
unfolding expand top Canonical
first-top (ever v) h = refl
first-top (run v c r) h = rw (lt-ltb 0 c h.0)

pub expand-past : (v c : ℕ) (r : Pairs) (i : ℕ) → expand (run v c r) (c + i) ≡ expand r i
unfolding expand
expand-past v c r i =
    let e : c + i - c ≡ i = omega arith in
    rw (le-ltb (c + i) c (omega arith), e)

pub expand-within : (v c : ℕ) (r : Pairs) (i : ℕ) → i < c → expand (run v c r) i ≡ v
unfolding expand
expand-within v c r i l = rw (lt-ltb i c l)

-- ---- one more in front

pub record Front (x : ℕ) (r s : Pairs) : Type 0 where
  pub canonical : Canonical s
  pub here : expand s 0 ≡ x
  pub later : (j : ℕ) → expand s (suc j) ≡ expand r j
  pub first : top s ≡ x
  pub wide : width s ≡ drop x (top r) + width r
  pub reach : places s ≤ suc (places r)

new-front : (x : ℕ) (r : Pairs) → Canonical r → top r < x → Front x r (run x 1 r)
unfolding Canonical expand top width places
new-front x r h l = record {
  canonical = (omega arith, l, h);
  here = refl;
  later = λ j.
      let e : suc j - 1 ≡ j = omega arith in
      rw (le-ltb (suc j) 1 (omega arith), e);
  first = refl;
  wide = omega (arith, drop-some x (top r) l);
  reach = omega arith;
}

pub in-front : (x : ℕ) (r : Pairs) → Canonical r → top r ≤ x → Front x r (in_front x r)
unfolding in_front Canonical expand top width places
in-front x (ever v) h l =
    by_cond (Front x (ever v)) (eqb x v) _ _
    (λ e.
    let q : x ≡ v = eqb→eq x v e in
    record { canonical = tt; here = sym q; later = λ j. refl; first = sym q; wide = omega (arith, drop-none x v (omega arith)); reach = omega arith })
    (λ e. new-front x (ever v) h (omega (arith, eqb-false x v e)))
in-front x (run v c r) h l =
    by_cond (Front x (run v c r)) (eqb x v) _ _
    (λ e.
    let q : x ≡ v = eqb→eq x v e in
    record {
      canonical = (omega arith, h.1, h.2);
      here = rw (lt-ltb 0 (suc c) (omega arith)) (sym q);
      later = λ j.
          let d : suc j - suc c ≡ j - c = omega arith in
          rw (leb-suc-suc (suc j) c, d) refl;
      first = sym q;
      wide = omega (arith, drop-none x v (omega arith));
      reach = omega arith;
    })
    (λ e. new-front x (run v c r) h (omega (arith, eqb-false x v e)))

-- ---- a stream's pairs

tail-suc : (f : Stream) (P : ℕ) → falls (tail f) (suc P) ≡ falls (tail f) P + drop (f (suc P)) (f (suc (suc P)))
unfolding tail
tail-suc f P = falls-suc (tail f) P

falls-front : (f : Stream) (P : ℕ) → falls f (suc P) ≡ drop (f 0) (f 1) + falls (tail f) P
falls-front f zero = unfold falls in unfold drop in omega arith
falls-front f (suc P) = omega (arith, falls-suc f (suc P), falls-front f P, tail-suc f P)

pub record Made (f : Stream) (P : ℕ) (r : Pairs) : Type 0 where
  pub canonical : Canonical r
  pub first : top r ≡ f 0
  pub wide : width r ≡ falls f P
  pub reach : places r ≤ P
  pub means : Settled P f → (i : ℕ) → expand r i ≡ f i

by_place : (f g : Stream) → f 0 ≡ g 0 → ((j : ℕ) → f (suc j) ≡ g (suc j)) → (i : ℕ) → f i ≡ g i
by_place f g a b zero = a
by_place f g a b (suc j) = b j

made-next : (f : Stream) (P : ℕ) (r : Pairs) → f 1 ≤ f 0 → Made (tail f) P r → Made f (suc P) (in_front (f 0) r)
unfolding tail
made-next f P r l m =
    let p = in-front (f 0) r m.canonical (omega (arith, m.first)) in
    let w : drop (f 0) (top r) ≡ drop (f 0) (f 1) = ap (drop (f 0)) m.first in
    record {
      canonical = p.canonical;
      first = p.first;
      wide = omega (arith, p.wide, m.wide, falls-front f P);
      reach = omega (arith, p.reach, m.reach);
      means = λ s. by_place (expand (in_front (f 0) r)) f p.here (λ j. p.later j ∙ m.means (λ i q. s (suc i) (omega arith)) j);
    }

pub made-pairs : (P : ℕ) (f : Stream) → Falls f → Made f P (pairs f P)
unfolding pairs tail
made-pairs zero f h = unfold Canonical in unfold top in unfold width in unfold falls in unfold places in unfold expand in
    record { canonical = tt; first = refl; wide = refl; reach = omega arith; means = λ s i. sym (s i (omega arith)) }
made-pairs (suc P) f h = made-next f P _ (h 0) (made-pairs P (tail f) (λ i. h (suc i)))

-- ---- a stream has its pairs in one way only

no_longer : (v c : ℕ) (r : Pairs) (w d : ℕ) (s : Pairs) → Canonical (run v c r) → Canonical (run w d s)
    → ((i : ℕ) → expand (run v c r) i ≡ expand (run w d s) i) → v ≡ w → c ≤ d
unfolding Canonical
no_longer v c r w d s h k e q = go (leb c d) refl
  where
    go : (b : Bool) → leb c d ≡ b → c ≤ d
    go true t = leb-true c d t
    go false t =
        let l : d < c = leb-false c d t in
        let e₁ : d + 0 ≡ d = omega arith in
        absurd (omega (arith, e d, expand-within v c r d l, rw e₁ at (expand-past w d s 0), first-top s k.2, k.1, q))

-- pairs that stand for a constant do not fall
no-fall : (v w d : ℕ) (s : Pairs) → Canonical (run w d s) → ((i : ℕ) → v ≡ expand (run w d s) i) → ⊥
unfolding Canonical
no-fall v w d s k e =
    let e₁ : d + 0 ≡ d = omega arith in
    absurd (omega (arith, e 0, e d, expand-within w d s 0 k.0, rw e₁ at (expand-past w d s 0), first-top s k.2, k.1))

pub unique-pairs : (r s : Pairs) → Canonical r → Canonical s → ((i : ℕ) → expand r i ≡ expand s i) → r ≡ s
unfolding Canonical expand
unique-pairs (ever v) (ever w) h k e = ap ever (e 0)
unique-pairs (ever v) (run w d s) h k e = absurd (no-fall v w d s k e)
unique-pairs (run v c r) (ever w) h k e = absurd (no-fall w v c r h (λ i. sym (e i)))
unique-pairs (run v c r) (run w d s) h k e =
    let q : v ≡ w = sym (expand-within v c r 0 h.0) ∙ e 0 ∙ expand-within w d s 0 k.0 in
    let p : c ≡ d = le_antisymm (no_longer v c r w d s h k e q) (no_longer w d s v c r k h (λ i. sym (e i)) (sym q)) in
    let z : r ≡ s = unique-pairs r s h.2 k.2 (λ i. sym (expand-past v c r i) ∙ e (c + i) ∙ ap (λ x. expand (run w d s) (x + i)) p ∙ expand-past w d s i) in
    cc

-- ---- pairs

pub members : {f : Stream} {r : Pairs} → ArePairs f r → expand r ≡ f
members a = fun_ext a.means

pub are-pairs : {f : Stream} {r : Pairs} → Canonical r → expand r ≡ f → ArePairs f r
are-pairs h e = record { canonical = h; means = λ i. ap (λ g. g i) e }

pub top-is : {f : Stream} {r : Pairs} → ArePairs f r → top r ≡ f 0
top-is {f} {r} a = sym (first-top r a.canonical) ∙ a.means 0
