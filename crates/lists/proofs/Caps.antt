-- The turns and the end of a limit.
use mathlib.Core.Path.{◌∙◌, ◌≡◌, ap, refl, sym}
use mathlib.Core.Bool.{Bool, ◌&&◌, false, not, true}
use mathlib.Core.List.{List}
use Prim.Native.Nat.{◌*◌, ◌+◌, ◌-◌, ◌<◌, ◌≤◌, suc, zero, ℕ}
use native.Mathlib.Nat.{add-zero, zero-add}
use native.Mathlib.Numerals.{add-one}
use native.Mathlib.Omega.{arith}
use lib.Dec.{eqb, ltb}
use lib.ListN.{length}
use borrow.Author.Tests.{le-leb, le-ltb, lt-leb, ltb-false, ne_eqb}
use Rattle.lists.specs.declared.List.{List as Listed}
use Rattle.lists.specs.Pairs.{Canonical, Pairs, ever, run, top}
use Rattle.lists.specs.Operations.{cap_pairs, capped, count, lead, some}
use Rattle.lists.specs.Laws.Cap.{cap-facts}
use Rattle.lists.specs.Laws.Group.{some-le-one}
use Rattle.lists.specs.Reading.{Cappable, Is, count_at, ended, lasts_of, most_pairs, pairs_of, passes_of, runs_then, stored, value_at}
use Rattle.lists.proofs.Stored.{length-stored, put_last, put_some, then-snoc, then-stored}
use Rattle.lists.proofs.Suffix.{len_is, more, suffix, suffix-canonical, suffix-count, suffix-inner, suffix-top, suffix-whole}

-- ---- tests

pub passes-false : (c m : ℕ) {b : Bool} → b ≡ passes_of c m → b ≡ false → 0 < c → m ≤ c
passes-false c m d e l = go (ltb c m) refl (rw (ne_eqb c 0 (λ z. omega arith)) at (sym d ∙ e))
  where
    go : (d : Bool) → ltb c m ≡ d → d ≡ false → m ≤ c
    go true q e = absurd (let z : ◌≡◌ {A = ℕ} 0 1 = cc in omega arith)
    go false q e = ltb-false c m q

pub passes-not : (c m : ℕ) → m ≤ c → passes_of c m ≡ false
passes-not c m l = rw (le-ltb c m l) (go (eqb c 0))
  where
    go : (b : Bool) → not b && false ≡ false
    go true = refl
    go false = refl

pub passes-last : (c m : ℕ) → c ≡ 0 → passes_of c m ≡ false
passes-last c m e = rw e refl

pub lasts-none : (v m : ℕ) → v ≡ 0 → lasts_of v m ≡ 0
unfolding lasts_of
lasts-none zero m e = refl
lasts-none (suc v) m e = absurd (omega arith)

pub lasts-some : (v m : ℕ) → (v ≡ 0 → ⊥) → lasts_of v m ≡ some m
unfolding lasts_of
lasts-some zero m f = absurd (f refl)
lasts-some (suc v) m f = refl

pub lasts-le-one : (v m : ℕ) → lasts_of v m ≤ 1
unfolding lasts_of
lasts-le-one zero m = omega arith
lasts-le-one (suc v) m = some-le-one m

-- ---- a limit of 0

capped-none : (v m : ℕ) → m ≡ 0 → capped v m ≡ ever 0
unfolding capped lead
capped-none zero m e = refl
capped-none (suc v) zero e = refl
capped-none (suc v) (suc m) e = absurd (omega arith)

pub cap-none : (m : ℕ) (r : Pairs) → m ≡ 0 → cap_pairs m r ≡ ever 0
unfolding cap_pairs
cap-none m (ever v) e = capped-none v m e
cap-none m (run v c r) e = rw (le-leb m c (omega arith)) (capped-none v m e)

-- ---- the loop

-- the first k pairs remain, and of the rest as much as is left; c is the next count
pub record Capping (a : Listed) (m k left c : ℕ) : Type 0 where
  pub asked : Cappable a
  pub inside : k < a.len
  pub next : c ≡ count_at a.pairs k
  pub room : suc a.len ≤ most_pairs
  pub made : runs_then a.pairs 0 k (cap_pairs left (suffix a k)) ≡ cap_pairs m (pairs_of a)

pub cap-start : {a : Listed} {m c : ℕ} → Cappable a → c ≡ count_at a.pairs 0 → Capping a m 0 m c
unfolding runs_then
cap-start {a} {m} q e = record { asked = q; inside = q.list.some; next = e; room = omega (arith, len_is a q.list, q.narrow); made = ap (cap_pairs m) (suffix-whole a) }

cap-stop : (r : Pairs) (m : ℕ) → Canonical r → passes_of (count r) m ≡ false → cap_pairs m r ≡ capped (top r) m
unfolding cap_pairs count top Canonical
cap-stop (ever v) m h e = refl
cap-stop (run v c r) m h e = rw (le-leb m c (passes-false c m refl e h.0))

-- what is left of the pair at which the limit falls
put-capped : (ps : List ℕ) (k v left : ℕ) → k < most_pairs → length ps ≡ 2 * most_pairs → runs_then (stored ps k v left) 0 (k + lasts_of v left) (ever 0) ≡ runs_then ps 0 k (capped v left)
unfolding capped lasts_of
put-capped ps k zero left l e = rw add-zero (then-stored ps k k 0 left (ever 0) (omega arith))
put-capped ps k (suc v) left l e = put_some ps k (suc v) left (ever 0) l e

module _ {a : Listed} {m k left c : ℕ} (v : Capping a m k left c) where
  q : Cappable a
  q = v.asked

  pub cap-turn : {d : ℕ} → 0 < c → c < left → d ≡ count_at a.pairs (k + 1) → Capping a m (k + 1) (left - c) d
  unfolding cap_pairs
  cap-turn g t e =
      let l : suc k < a.len = more a q.list k v.inside (rw v.next at g) in
      let s = rw (zero-add, ← v.next) at (then-snoc a.pairs 0 k (cap_pairs (left - c) (suffix a (suc k)))) in
      record {
        asked = q;
        inside = omega arith;
        next = e;
        room = v.room;
        made = rw add-one (s ∙ rw (suffix-inner a k l, ← v.next, lt-leb left c t) at v.made);
      }

  pub cap-last : passes_of c left ≡ false → Is (ended a k left) (cap_pairs m (pairs_of a))
  unfolding ended
  cap-last t =
      let l = q.list.long in
      let w = value_at a.pairs k in
      let h = suffix-canonical a q.list k v.inside in
      let s = cap-stop (suffix a k) left h (rw (v.next, ← suffix-count a q.list k v.inside) at t) in
      let z = rw (s, suffix-top a k v.inside) at v.made in
      let r : k + lasts_of w left < most_pairs = omega (arith, v.inside, v.room, lasts-le-one w left) in
      put_last (stored a.pairs k w left) (k + lasts_of w left) 0 _ r (length-stored a.pairs k w left ∙ l)
      (put-capped a.pairs k w left (omega (arith, v.inside, v.room)) l ∙ z) (cap-facts m (pairs_of a) q.list.canonical).canonical
