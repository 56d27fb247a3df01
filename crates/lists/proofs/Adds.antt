-- The turns of a sum: a place within a pair of each list, and the places after some members.
use mathlib.Core.Path.{◌∙◌, ◌≡◌, ap, ap₂, refl, sym}
use mathlib.Core.Bool.{Bool, cond, false, true}
use mathlib.Core.List.{List}
use Prim.Native.Nat.{◌*◌, ◌+◌, ◌-◌, ◌<◌, ◌^◌, ◌≤◌, min, suc, zero, ℕ}
use native.Mathlib.Numerals.{add-one}
use native.Mathlib.Omega.{arith}
use lib.Dec.{leb}
use lib.ListN.{length}
use borrow.Author.Tests.{leb-false, ne_eqb}
use Rattle.lists.specs.declared.List.{List as Listed}
use Rattle.lists.specs.declared.Place.{Place}
use Rattle.lists.specs.Pairs.{Canonical, Pairs, run, top}
use Rattle.lists.specs.Operations.{add_pairs, count, make, shorter, skip}
use Rattle.lists.specs.Laws.Expand.{make-run}
use Rattle.lists.specs.Laws.Add.{Shorter, add-facts, add_step, add-stop, shorter-is}
use Rattle.lists.specs.Reading.{Addable, Is, Proper, count_at, list_in, most_pairs, pairs_of, passed, runs_then, stored, value_at}
use Rattle.lists.proofs.Stored.{length-stored, put, put_last}
use Rattle.lists.proofs.Suffix.{len_is, more, suffix, suffix-canonical, suffix-ever, suffix-inner, suffix-whole, value_low}

-- ---- a place in a list

-- the list from pair i on, of which x are left, 0 meaning for ever
unfoldable pub seen : Listed → ℕ → ℕ → Pairs
seen l i x = make (value_at l.pairs i) x (suffix l (suc i))

pub record At (l : Listed) (i x : ℕ) : Type 0 where
  pub inside : i < l.len
  pub more : 0 < x → suc i < l.len
  pub canonical : Canonical (seen l i x)

seen-top : (l : Listed) (i x : ℕ) → top (seen l i x) ≡ value_at l.pairs i
unfolding seen make top
seen-top l i zero = refl
seen-top l i (suc x) = refl

seen-count : (l : Listed) (i x : ℕ) → count (seen l i x) ≡ x
unfolding seen make count
seen-count l i zero = refl
seen-count l i (suc x) = refl

-- a pair of which all is left
whole-seen : (l : Listed) → Proper l → (i : ℕ) → i < l.len → seen l i (count_at l.pairs i) ≡ suffix l i
unfolding seen make
whole-seen l p i h = go (count_at l.pairs i) refl
  where
    go : (c : ℕ) → count_at l.pairs i ≡ c → seen l i c ≡ suffix l i
    go zero e = sym (suffix-ever l p i h e)
    go (suc c) e = sym (suffix-inner l i (more l p i h (omega arith)) ∙ ap (λ x. run (value_at l.pairs i) x (suffix l (suc i))) e)

at_pair : (l : Listed) → Proper l → (i : ℕ) → i < l.len → At l i (count_at l.pairs i)
at_pair l p i h = record { inside = h; more = λ c. more l p i h c; canonical = rw (whole-seen l p i h) (suffix-canonical l p i h) }

-- ---- the place after m members

record Passed (l : Listed) (i x m : ℕ) (p : Place) : Type 0 where
  now : At l p.at p.left
  left_over : seen l p.at p.left ≡ skip m (seen l i x)
  onward : i ≤ p.at
  by_one : x ≡ m → p.at ≡ i + 1

pass-is : (l : Listed) → Proper l → (i x m : ℕ) → At l i x → 0 < m → (0 < x → m ≤ x) → Passed l i x m (passed l.pairs i x m)
unfolding passed seen make skip Canonical
pass-is l p i zero m a q h = record { now = a; left_over = refl; onward = omega arith; by_one = λ e. absurd (omega arith) }
pass-is l p i (suc x) m a q h = rw (ne_eqb (suc x) 0 (λ e. omega arith)) (go (leb (suc x) m) refl)
  where
    g : m ≤ suc x
    g = h (omega arith)

    n : suc i < l.len
    n = a.more (omega arith)

    after : Pairs
    after = suffix l (suc i)

    go : (b : Bool) → leb (suc x) m ≡ b
        → Passed l i (suc x) m (cond b (record { at = i + 1; left = count_at l.pairs (i + 1) }) (record { at = i; left = suc x - m }))
    go true e = rw add-one record {
      now = at_pair l p (suc i) n;
      left_over = whole-seen l p (suc i) n ∙ sym (ap (λ b. cond b after (run (value_at l.pairs i) (suc x - m) after)) e);
      onward = omega arith;
      by_one = λ e. omega arith;
    }
    go false e =
        let k : m < suc x = leb-false (suc x) m e in
        let e₁ : seen l i (suc x - m) ≡ run (value_at l.pairs i) (suc x - m) after = make-run _ (suc x - m) after (omega arith) in
        let c = a.canonical in
        record {
          now = record { inside = a.inside; more = λ z. n; canonical = rw e₁ (omega arith, c.1, c.2) };
          left_over = e₁ ∙ sym (ap (λ b. cond b after (run (value_at l.pairs i) (suc x - m) after)) e);
          onward = omega arith;
          by_one = λ e. absurd (omega arith);
        }

-- ---- the loop

-- n pairs of the sum are stored, and the rest is the sum of what is seen of the lists; m comes next
pub record Adding (a b : Listed) (out : List ℕ) (n i j x y m : ℕ) : Type 0 where
  pub asked : Addable a b
  pub left : At a i x
  pub right : At b j y
  pub next : m ≡ shorter x y
  pub few : n ≤ i + j
  pub room : a.len + b.len ≤ suc most_pairs
  pub long : length out ≡ 2 * most_pairs
  pub made : runs_then out 0 n (add_pairs (seen a i x) (seen b j y)) ≡ add_pairs (pairs_of a) (pairs_of b)

pub add_start : {a b : Listed} {out : List ℕ} {x y m : ℕ} → Addable a b → length out ≡ 2 * most_pairs → x ≡ count_at a.pairs 0 → y ≡ count_at b.pairs 0 → m ≡ shorter x y
    → Adding a b out 0 0 0 x y m
unfolding runs_then
add_start {a} {b} q l d e f =
    let p₁ = q.left in
    let p₂ = q.right in
    rw (d, e) record {
      asked = q;
      left = at_pair a p₁ 0 p₁.some;
      right = at_pair b p₂ 0 p₂.some;
      next = rw (d, e) at f;
      few = omega arith;
      room = omega (arith, len_is a p₁, len_is b p₂, q.narrow);
      long = l;
      made = ap₂ add_pairs (whole-seen a p₁ 0 p₁.some ∙ suffix-whole a) (whole-seen b p₂ 0 p₂.some ∙ suffix-whole b);
    }

module _ {a b : Listed} {out : List ℕ} {n i j x y m : ℕ} (v : Adding a b out n i j x y m) where
  q : Addable a b
  q = v.asked

  least : Shorter x y m
  least = rw v.next (shorter-is x y)

  in-counts : m ≡ shorter (count (seen a i x)) (count (seen b j y))
  in-counts = rw (seen-count a i x, seen-count b j y) v.next

  pub add-fits : value_at a.pairs i + value_at b.pairs j < 2 ^ 64
  add-fits = omega (arith, value_low a q.left i v.left.inside, value_low b q.right j v.right.inside, q.low)

  -- what a turn leaves, where m times v₁ + v₂ is stored; m is used up in one list at least
  pub record Added (v₁ v₂ : ℕ) (p₁ p₂ : Place) (k : ℕ) : Type 0 where
    pub again : Adding a b (stored out n (v₁ + v₂) m) (n + 1) p₁.at p₂.at p₁.left p₂.left k
    pub onward : i + j < p₁.at + p₂.at

  pub add_turn : {v₁ v₂ : ℕ} {p₁ p₂ : Place} {k : ℕ} → 0 < m → v₁ ≡ value_at a.pairs i → v₂ ≡ value_at b.pairs j
      → p₁ ≡ passed a.pairs i x m → p₂ ≡ passed b.pairs j y m → k ≡ shorter p₁.left p₂.left → Added v₁ v₂ p₁ p₂ k
  add_turn {v₁} {v₂} {p₁} {p₂} {k} l g h d e f = record {
    again = record {
      asked = q;
      left = u.now;
      right = w.now;
      next = f;
      few = omega (arith, v.few, onward);
      room = v.room;
      long = length-stored out n (v₁ + v₂) m ∙ v.long;
      made = put out n (v₁ + v₂) m _ (omega (arith, v.few, v.left.inside, v.right.inside, v.room)) v.long ∙ rw step at v.made;
    };
    onward = onward;
  }
    where
      u : Passed a i x m p₁
      u = rw d (pass-is a q.left i x m v.left l least.left)

      w : Passed b j y m p₂
      w = rw e (pass-is b q.right j y m v.right l least.right)

      onward : i + j < p₁.at + p₂.at
      onward = go (least.one l).0 (least.one l).1
        where
          go : (t : Bool) → cond t x y ≡ m → i + j < p₁.at + p₂.at
          go true k = omega (arith, u.by_one k, w.onward)
          go false k = omega (arith, w.by_one k, u.onward)

      step : add_pairs (seen a i x) (seen b j y) ≡ run (v₁ + v₂) m (add_pairs (seen a p₁.at p₁.left) (seen b p₂.at p₂.left))
      step = rw (seen-top a i x, seen-top b j y, ← g, ← h, ← u.left_over, ← w.left_over)
          at (add_step m (seen a i x) (seen b j y) v.left.canonical v.right.canonical in-counts l)

  pub add-last : {v₁ v₂ : ℕ} → m ≡ 0 → v₁ ≡ value_at a.pairs i → v₂ ≡ value_at b.pairs j
      → Is (list_in (stored out n (v₁ + v₂) 0) (n + 1)) (add_pairs (pairs_of a) (pairs_of b))
  add-last {v₁} {v₂} e g h =
      let f = add-stop (seen a i x) (seen b j y) v.left.canonical v.right.canonical (sym e ∙ in-counts) in
      put_last out n (v₁ + v₂) _ (omega (arith, v.few, v.left.inside, v.right.inside, v.room)) v.long
      (rw (f, seen-top a i x, seen-top b j y, ← g, ← h) at v.made) (add-facts (pairs_of a) (pairs_of b) q.left.canonical q.right.canonical).canonical

-- ---- what shorter_of computes

pub shorter-none : (c d : ℕ) → c ≡ 0 → shorter c d ≡ d
unfolding shorter
shorter-none zero d e = refl
shorter-none (suc c) d e = absurd (omega arith)

pub shorter-only : (c d : ℕ) → (c ≡ 0 → ⊥) → d ≡ 0 → shorter c d ≡ c
unfolding shorter
shorter-only zero d f e = absurd (f refl)
shorter-only (suc c) zero f e = refl
shorter-only (suc c) (suc d) f e = absurd (omega arith)

pub shorter-both : (c d : ℕ) → (c ≡ 0 → ⊥) → (d ≡ 0 → ⊥) → shorter c d ≡ min c d
unfolding shorter
shorter-both zero d f g = absurd (f refl)
shorter-both (suc c) zero f g = absurd (g refl)
shorter-both (suc c) (suc d) f g = refl
