-- What sequence and choice in place keep: pairs stored over, found and inserted.
use mathlib.Core.Path.{◌∙◌, ◌≡◌, ap, refl, subst, sym}
use mathlib.Core.Bool.{Bool, ◌&&◌, false, true}
use mathlib.Core.List.{List}
use Prim.Native.Nat.{◌*◌, ◌+◌, ◌-◌, ◌<◌, ◌^◌, ◌≤◌, suc, zero, ℕ}
use native.Mathlib.Nat.{zero-add}
use native.Mathlib.Numerals.{add-one}
use native.Mathlib.Omega.{arith}
use lib.Dec.{eqb, leb, ltb}
use lib.ListN.{length, set}
use lib.Seq.{get_or-set_other}
use borrow.Author.Tests.{eqb-false, eqb-true, leb-false, leb-true, lt-leb, ltb-false, ltb-true}
use Rattle.lists.specs.declared.List.{List as Listed}
use Rattle.lists.specs.Pairs.{Canonical, Pairs, ever, places, run, top, width}
use Rattle.lists.specs.Operations.{add_pairs, lead, merge_pairs, skip}
use Rattle.lists.specs.Laws.Add.{add-facts, positive}
use Rattle.lists.specs.Laws.Expand.{lead-run}
use Rattle.inplace.specs.Laws.Short.{add-ever, add-evers, add-run, add-within, add-zeros, merge-ever, merge-first, merge-over, merge-run, merge-same, run-canonical}
use Rattle.lists.specs.Laws.Union.{merge-facts}
use Rattle.lists.specs.Reading.{Addable, Is, Mergeable, Proper, count_at, list_in, most_pairs, pairs_of, runs_then, stored, value_at}
use Rattle.inplace.specs.Steps.{Inserted, Parted, Under, is_run}
use Rattle.lists.proofs.Stored.{count-below, count-stored, length-stored, put, put_last, then_same, then-snoc, then-stored, value-below, value-stored}
use Rattle.lists.proofs.Suffix.{by_place, count-few, len_is, more, suffix, suffix-canonical, suffix-count, suffix-end, suffix-inner, suffix-top, suffix-whole, value_low}

-- ---- arrays that agree from a pair on

module _ (ps : List ℕ) (k v c : ℕ) where
  value-above : (j : ℕ) → k < j → value_at (stored ps k v c) j ≡ value_at ps j
  unfolding stored value_at
  value-above j l = get_or-set_other (set ps (2 * k) v) (2 * k + 1) (2 * j) c 0 (λ e. omega arith) ∙ get_or-set_other ps (2 * k) (2 * j) v 0 (λ e. omega arith)

  count-above : (j : ℕ) → k < j → count_at (stored ps k v c) j ≡ count_at ps j
  unfolding stored count_at
  count-above j l = get_or-set_other (set ps (2 * k) v) (2 * k + 1) (2 * j + 1) c 0 (λ e. omega arith) ∙ get_or-set_other ps (2 * k) (2 * j + 1) v 0 (λ e. omega arith)

then-from : (ps qs : List ℕ) (i n : ℕ) (r : Pairs) → ((j : ℕ) → i ≤ j → value_at ps j ≡ value_at qs j) → ((j : ℕ) → i ≤ j → count_at ps j ≡ count_at qs j)
    → runs_then ps i n r ≡ runs_then qs i n r
unfolding runs_then
then-from ps qs i zero r f g = refl
then-from ps qs i (suc n) r f g =
    cc (then-from ps qs (suc i) n r (λ j l. f j (omega arith)) (λ j l. g j (omega arith)), f i (omega arith), g i (omega arith))

suffix-same : (ps qs : List ℕ) (len k : ℕ) → k < len → ((j : ℕ) → k ≤ j → value_at ps j ≡ value_at qs j) → ((j : ℕ) → k ≤ j → count_at ps j ≡ count_at qs j)
    → suffix (list_in ps len) k ≡ suffix (list_in qs len) k
unfolding suffix
suffix-same ps qs len k h f g = rw (f (len - 1) (omega arith)) (then-from ps qs k (len - 1 - k) _ f g)

then_append : (ps : List ℕ) (i n m : ℕ) (r : Pairs) → runs_then ps i (n + m) r ≡ runs_then ps i n (runs_then ps (i + n) m r)
unfolding runs_then
then_append ps i zero m r =
    let e₁ : 0 + m ≡ m = omega arith in
    let e₂ : i + 0 ≡ i = omega arith in
    rw (e₁, e₂) refl
then_append ps i (suc n) m r =
    let e₁ : suc n + m ≡ suc (n + m) = omega arith in
    let e₂ : suc i + n ≡ i + suc n = omega arith in
    rw e₁ (ap (run (value_at ps i) (count_at ps i)) (rw e₂ at (then_append ps (suc i) n m r)))

-- a list's pairs before pair k, and from it on
pub split_at : (l : Listed) (k : ℕ) → k < l.len → pairs_of l ≡ runs_then l.pairs 0 k (suffix l k)
unfolding pairs_of suffix
split_at l k h =
    let e : l.len - 1 ≡ k + (l.len - 1 - k) = omega arith in
    ap (λ n. runs_then l.pairs 0 n (ever (value_at l.pairs (l.len - 1)))) e ∙ rw zero-add at (then_append l.pairs 0 k (l.len - 1 - k) (ever (value_at l.pairs (l.len - 1))))

-- values fall
falls : (l : Listed) → Proper l → (j d : ℕ) → j + suc d < l.len → value_at l.pairs (j + suc d) < value_at l.pairs j
unfolding Canonical
falls l p j zero h =
    let e : j + 1 ≡ suc j = omega arith in
    let n : suc j < l.len = omega arith in
    let c = rw (suffix-inner l j n) at (suffix-canonical l p j (omega arith)) in
    rw e (omega (arith, c.1, suffix-top l (suc j) n))
falls l p j (suc d) h =
    let e : j + suc (suc d) ≡ suc j + suc d = omega arith in
    let n : suc j < l.len = omega arith in
    let c = rw (suffix-inner l j n) at (suffix-canonical l p j (omega arith)) in
    rw e (omega (arith, c.1, suffix-top l (suc j) n, falls l p (suc j) d (omega arith)))

-- the last value is the least
least : (l : Listed) → Proper l → (j : ℕ) → j < l.len - 1 → value_at l.pairs (l.len - 1) < value_at l.pairs j
least l p j h =
    let e : j + suc (l.len - 1 - suc j) ≡ l.len - 1 = omega arith in
    rw e at (falls l p j (l.len - 1 - suc j) (omega arith))

-- ---- a list that is stored over in place

-- an array of len pairs, of which those from k on are the list a's
over-is : (a : Listed) (ps : List ℕ) (k : ℕ) {e : Pairs} → Proper a → k < a.len → length ps ≡ 2 * most_pairs
    → ((j : ℕ) → k ≤ j → value_at ps j ≡ value_at a.pairs j) → ((j : ℕ) → k ≤ j → count_at ps j ≡ count_at a.pairs j)
    → runs_then ps 0 k (suffix a k) ≡ e → Canonical e → Is (list_in ps a.len) e
over-is a ps k p h l f g m c =
    let same = split_at (list_in ps a.len) k h ∙ ap (runs_then ps 0 k) (suffix-same ps a.pairs a.len k h f g) ∙ m in
    record {
      proper = record { long = l; some = p.some; room = p.room; ends = g (a.len - 1) (omega arith) ∙ p.ends; canonical = subst Canonical (sym same) c };
      pairs = same;
    }

-- ---- sequence

-- k pairs are stored with v more, the rest are a's, and with s added to these it makes e
pub record Raising (a : Listed) (v : ℕ) (s e : Pairs) (ps : List ℕ) (k : ℕ) : Type 0 where
  pub asked : Proper a
  pub low : top (pairs_of a) + v < 2 ^ 64
  pub inside : k < a.len
  pub long : length ps ≡ 2 * most_pairs
  pub values : (j : ℕ) → k ≤ j → value_at ps j ≡ value_at a.pairs j
  pub counts : (j : ℕ) → k ≤ j → count_at ps j ≡ count_at a.pairs j
  pub made : runs_then ps 0 k (add_pairs (suffix a k) s) ≡ e

pub raise-start : {a : Listed} {v : ℕ} {s : Pairs} → Proper a → top (pairs_of a) + v < 2 ^ 64 → Raising a v s (add_pairs (pairs_of a) s) a.pairs 0
unfolding runs_then
raise-start {a} {v} {s} p l =
    record { asked = p; low = l; inside = p.some; long = p.long; values = λ j h. refl; counts = λ j h. refl; made = ap (λ r. add_pairs r s) (suffix-whole a) }

module _ {a : Listed} {v : ℕ} {s e : Pairs} {ps : List ℕ} {k : ℕ} (q : Raising a v s e ps k) where
  pub raise-fits : {x : ℕ} → x ≡ value_at ps k → x + v < 2 ^ 64
  raise-fits d = omega (arith, d, q.values k (omega arith), value_low a q.asked k q.inside, q.low)

  -- t is what is added to the pairs after this one
  raise-next : (t : Pairs) {x c : ℕ} → x ≡ value_at ps k → c ≡ count_at a.pairs k → suc k < a.len
      → add_pairs (suffix a k) s ≡ run (value_at a.pairs k + v) (count_at a.pairs k) (add_pairs (suffix a (suc k)) t) → Raising a v t e (stored ps k (x + v) c) (k + 1)
  raise-next t {x} {c} d f n g =
      let m : k < most_pairs = omega (arith, q.inside, q.asked.room) in
      let d₁ : x ≡ value_at a.pairs k = d ∙ q.values k (omega arith) in
      record {
        asked = q.asked;
        low = q.low;
        inside = omega arith;
        long = length-stored ps k (x + v) c ∙ q.long;
        values = λ j h. value-above ps k (x + v) c j (omega arith) ∙ q.values j (omega arith);
        counts = λ j h. count-above ps k (x + v) c j (omega arith) ∙ q.counts j (omega arith);
        made = put ps k (x + v) c _ m q.long ∙ rw (add-one, d₁, f) (ap (runs_then ps 0 k) (sym g) ∙ q.made);
      }

  inner : suc k < a.len → Canonical (run (value_at a.pairs k) (count_at a.pairs k) (suffix a (suc k)))
  inner n = rw (suffix-inner a k n) at (suffix-canonical a q.asked k q.inside)

pub raise-turn : {a : Listed} {v : ℕ} {e : Pairs} {ps : List ℕ} {k x c : ℕ} → Raising a v (ever v) e ps k → x ≡ value_at ps k → c ≡ count_at ps k → k + 1 < a.len
    → Raising a v (ever v) e (stored ps k (x + v) c) (k + 1)
raise-turn {a} {v} {e} {ps} {k} q d f n =
    let l : suc k < a.len = omega arith in
    raise-next q (ever v) d (f ∙ q.counts k (omega arith)) l (rw (suffix-inner a k l) (add-ever v _ _ _ (inner q l)))

pub raise-last : {a : Listed} {v : ℕ} {ps : List ℕ} {k j n x : ℕ} → Raising a v (ever v) (add_pairs (pairs_of a) (ever v)) ps k → j ≡ k → n ≡ k + 1 → x ≡ value_at ps j → a.len ≤ k + 1
    → Is (list_in (stored ps j (x + v) 0) n) (add_pairs (pairs_of a) (ever v))
unfolding Canonical
raise-last {a} {v} {ps} {k} {x = x} q e f d n =
    let d₁ : x ≡ value_at a.pairs k = rw e at d ∙ q.values k (omega arith) in
    let g : add_pairs (suffix a k) (ever v) ≡ ever (x + v) = rw (suffix-end a k (omega (arith, q.inside)), d₁) (add-evers (value_at a.pairs k) v) in
    rw (e, f) (put_last ps k (x + v) _ (omega (arith, q.inside, q.asked.room)) q.long (rw g at q.made) (add-facts (pairs_of a) (ever v) q.asked.canonical tt).canonical)

-- ---- a pair inserted

-- the pairs from j on stand one place further
pub record Inserting (old : List ℕ) (len k : ℕ) (ps : List ℕ) (j : ℕ) : Type 0 where
  pub low : k ≤ j
  pub high : j ≤ len
  pub room : len < most_pairs
  pub long : length ps ≡ 2 * most_pairs
  pub values-below : (i : ℕ) → i < j → value_at ps i ≡ value_at old i
  pub counts-below : (i : ℕ) → i < j → count_at ps i ≡ count_at old i
  pub values-above : (i : ℕ) → j ≤ i → i < len → value_at ps (suc i) ≡ value_at old i
  pub counts-above : (i : ℕ) → j ≤ i → i < len → count_at ps (suc i) ≡ count_at old i

pub insert-start : {old : List ℕ} {len k : ℕ} → length old ≡ 2 * most_pairs → k < len → len < most_pairs → Inserting old len k old len
insert-start l h r = record {
  low = omega arith;
  high = omega arith;
  room = r;
  long = l;
  values-below = λ i h. refl;
  counts-below = λ i h. refl;
  values-above = λ i h g. absurd (omega arith);
  counts-above = λ i h g. absurd (omega arith);
}

-- what holds at j - 1 and from j on holds from j - 1 on
from_less : (P : ℕ → Type 0) (j : ℕ) → P (j - 1) → ((i : ℕ) → j ≤ i → P i) → (i : ℕ) → j - 1 ≤ i → P i
from_less P j here all i l = go (leb j i) refl
  where
    go : (b : Bool) → leb j i ≡ b → P i
    go true e = all i (leb-true j i e)
    go false e =
        let z : j - 1 ≡ i = omega (arith, leb-false j i e) in
        subst P z here

pub insert-turn : {old : List ℕ} {len k : ℕ} {ps : List ℕ} {j x y : ℕ} → Inserting old len k ps j → k < j → x ≡ value_at ps (j - 1) → y ≡ count_at ps (j - 1)
    → Inserting old len k (stored ps j x y) (j - 1)
insert-turn {old} {len} {k} {ps} {j} {x} {y} t h d e =
    let m : j < most_pairs = omega (arith, t.high, t.room) in
    let z : suc (j - 1) ≡ j = omega arith in
    record {
      low = omega arith;
      high = omega (arith, t.high);
      room = t.room;
      long = length-stored ps j x y ∙ t.long;
      values-below = λ i l. value-below ps j x y i (omega arith) ∙ t.values-below i (omega arith);
      counts-below = λ i l. count-below ps j x y i (omega arith) ∙ t.counts-below i (omega arith);
      values-above = from_less (λ i. i < len → value_at (stored ps j x y) (suc i) ≡ value_at old i) j
          (λ g. ap (value_at (stored ps j x y)) z ∙ value-stored ps j x y m t.long ∙ d ∙ t.values-below (j - 1) (omega arith))
          (λ i l g. value-above ps j x y (suc i) (omega arith) ∙ t.values-above i l g);
      counts-above = from_less (λ i. i < len → count_at (stored ps j x y) (suc i) ≡ count_at old i) j
          (λ g. ap (count_at (stored ps j x y)) z ∙ count-stored ps j x y m t.long ∙ e ∙ t.counts-below (j - 1) (omega arith))
          (λ i l g. count-above ps j x y (suc i) (omega arith) ∙ t.counts-above i l g);
    }

pub insert-last : {old : List ℕ} {len k : ℕ} {ps : List ℕ} {j v c : ℕ} → Inserting old len k ps j → j ≤ k → Inserted old (stored ps k v c) len k v c
insert-last {old} {len} {k} {ps} {j} {v} {c} t h =
    let m : k < most_pairs = omega (arith, t.low, t.high, t.room) in
    record {
      long = length-stored ps k v c ∙ t.long;
      value = value-stored ps k v c m t.long;
      count = count-stored ps k v c m t.long;
      values-below = λ i l. value-below ps k v c i l ∙ t.values-below i (omega (arith, t.low));
      counts-below = λ i l. count-below ps k v c i l ∙ t.counts-below i (omega (arith, t.low));
      values-above = λ i l g. value-above ps k v c (suc i) (omega arith) ∙ t.values-above i (omega arith) g;
      counts-above = λ i l g. count-above ps k v c (suc i) (omega arith) ∙ t.counts-above i (omega arith) g;
    }

then-shift : (old new : List ℕ) (len i n : ℕ) (r : Pairs) → i + n ≤ len → ((j : ℕ) → i ≤ j → j < len → value_at new (suc j) ≡ value_at old j) → ((j : ℕ) → i ≤ j → j < len → count_at new (suc j) ≡ count_at old j)
    → runs_then new (suc i) n r ≡ runs_then old i n r
unfolding runs_then
then-shift old new len i zero r l f g = refl
then-shift old new len i (suc n) r l f g =
    cc (then-shift old new len (suc i) n r (omega arith) (λ j h. f j (omega arith)) (λ j h. g j (omega arith)), f i (omega arith) (omega arith), g i (omega arith) (omega arith))

module _ {old new : List ℕ} {len k v c : ℕ} (t : Inserted old new len k v c) (h : k < len) where
  shifted : suffix (list_in new (len + 1)) (suc k) ≡ suffix (list_in old len) k
  unfolding suffix
  shifted =
      let e₁ : len + 1 - 1 ≡ suc (len - 1) = omega arith in
      let e₂ : suc (len - 1) - suc k ≡ len - 1 - k = omega arith in
      rw (e₁, e₂, t.values-above (len - 1) (omega arith) (omega arith)) (then-shift old new len k (len - 1 - k) _ (omega arith) t.values-above t.counts-above)

  inserted-pairs : pairs_of (list_in new (len + 1)) ≡ runs_then old 0 k (run v c (suffix (list_in old len) k))
  inserted-pairs =
      split_at (list_in new (len + 1)) k (omega arith)
      ∙ rw (suffix-inner (list_in new (len + 1)) k (omega arith), shifted, t.value, t.count)
      (then_same new old 0 k _ (λ j l. t.values-below j (omega arith)) (λ j l. t.counts-below j (omega arith)))

  pub inserted-is : {p : Pairs} → len < most_pairs → count_at old (len - 1) ≡ 0 → runs_then old 0 k (run v c (suffix (list_in old len) k)) ≡ p → Canonical p → Is (list_in new (len + 1)) p
  inserted-is r z m q =
      let e : len + 1 - 1 ≡ suc (len - 1) = omega arith in
      let same = inserted-pairs ∙ m in
      record {
        proper = record { long = t.long; some = omega arith; room = omega arith; ends = rw e (t.counts-above (len - 1) (omega arith) (omega arith) ∙ z); canonical = subst Canonical (sym same) q };
        pairs = same;
      }

-- a list by its numbers and its length
pub as_list : (l : Listed) {n : ℕ} {p : Pairs} → l.len ≡ n → Is (list_in l.pairs n) p → Is l p
as_list l {n} {p} e h = subst (λ m. Is (list_in l.pairs m) p) (sym e) h

-- ---- sequence with a run

-- of m times v, `left` fall on the pairs from k on, the first of which comes c times
pub record Fronting (a : Listed) (v m : ℕ) (ps : List ℕ) (k left c : ℕ) : Type 0 where
  pub raising : Raising a v (lead v left (ever 0)) (add_pairs (pairs_of a) (run v m (ever 0))) ps k
  pub room : a.len < most_pairs
  pub some : 0 < v
  pub times : 0 < m
  pub next : c ≡ count_at a.pairs k

pub front-start : {a : Listed} {v m c : ℕ} → Proper a → a.len < most_pairs → top (pairs_of a) + v < 2 ^ 64 → 0 < m → 0 < v → c ≡ count_at a.pairs 0 → Fronting a v m a.pairs 0 m c
front-start {a} {v} {m} p r l t s e = record { raising = rw (lead-run v m (ever 0) t) (raise-start p l); room = r; some = s; times = t; next = e }

module _ {a : Listed} {v m : ℕ} {ps : List ℕ} {k left c : ℕ} (t : Fronting a v m ps k left c) where
  u : Raising a v (lead v left (ever 0)) (add_pairs (pairs_of a) (run v m (ever 0))) ps k
  u = t.raising

  whole_sum : Canonical (add_pairs (pairs_of a) (run v m (ever 0)))
  whole_sum = (add-facts (pairs_of a) (run v m (ever 0)) u.asked.canonical (run-canonical v m t.some t.times)).canonical

  pub front-turn : {x d : ℕ} → 0 < c → c ≤ left → x ≡ value_at ps k → d ≡ count_at a.pairs (k + 1) → Fronting a v m (stored ps k (x + v) c) (k + 1) (left - c) d
  front-turn {x} {d} p l e f =
      let n : suc k < a.len = more a u.asked k u.inside (rw t.next at p) in
      let w = raise-next u (lead v (left - c) (ever 0)) e t.next n (rw (suffix-inner a k n, lead-run v left (ever 0) (omega arith), ← t.next) (add-run v left _ c _ t.some l (rw (← t.next) at (inner u n)))) in
      record { raising = w; room = t.room; some = t.some; times = t.times; next = f }

  pub front-done : left ≡ 0 → Is (list_in ps a.len) (add_pairs (pairs_of a) (run v m (ever 0)))
  unfolding lead
  front-done z =
      over-is a ps k u.asked u.inside u.long u.values u.counts
      (ap (runs_then ps 0 k) (sym (add-zeros (suffix a k) (suffix-canonical a u.asked k u.inside))) ∙ rw z at u.made) whole_sum

  -- the pair that the run ends in, without the members that it raises
  module _ {x y : ℕ} (g : 0 < c → left < c) (e : x ≡ value_at ps k) (f : y ≡ c - left) where
    cut : List ℕ
    cut = stored ps k x y

    value : x ≡ value_at a.pairs k
    value = e ∙ u.values k (omega arith)

    inside : k < most_pairs
    inside = omega (arith, u.inside, u.asked.room)

    cut-ends : count_at cut (a.len - 1) ≡ 0
    unfolding cut
    cut-ends = by_place a k _ u.inside
        (λ n. count-above ps k x y (a.len - 1) (omega arith) ∙ u.counts (a.len - 1) (omega arith) ∙ u.asked.ends)
        (λ n.
        let z : a.len - 1 ≡ k = omega arith in
        rw z (count-stored ps k x y inside u.long ∙ omega (arith, f, t.next, rw z at u.asked.ends)))

    cut-rest : suffix (list_in cut a.len) k ≡ skip left (suffix a k)
    unfolding cut skip
    cut-rest = by_place a k _ u.inside
        (λ n.
        let o : suffix (list_in cut a.len) (suc k) ≡ suffix a (suc k) =
        suffix-same cut a.pairs a.len (suc k) n (λ j i. value-above ps k x y j (omega arith) ∙ u.values j (omega arith)) (λ j i. count-above ps k x y j (omega arith) ∙ u.counts j (omega arith)) in
        let i : left < count_at a.pairs k = omega (arith, t.next, g (omega (arith, t.next, inner-count n))) in
        rw (suffix-inner (list_in cut a.len) k n, suffix-inner a k n, o, value-stored ps k x y inside u.long, count-stored ps k x y inside u.long, lt-leb (count_at a.pairs k) left i)
        (rw (f, t.next, value) refl))
        (λ n. rw (suffix-end (list_in cut a.len) k n, suffix-end a k n, value-stored ps k x y inside u.long, value) refl)
      where
        inner-count : suc k < a.len → 0 < count_at a.pairs k
        inner-count n = unfold Canonical in (inner u n).0

    pub front-last : {new : List ℕ} → (left ≡ 0 → ⊥) → Inserted (stored ps k x y) new a.len k (x + v) left → Is (list_in new (a.len + 1)) (add_pairs (pairs_of a) (run v m (ever 0)))
    unfolding cut
    front-last z i =
        let p : 0 < left = positive left z in
        let s = suffix-canonical a u.asked k u.inside in
        let n = suffix-count a u.asked k u.inside in
        let w = add-within v left (suffix a k) t.some p (λ j. omega (arith, n, t.next, g (omega (arith, n, t.next)))) s in
        inserted-is i u.inside t.room cut-ends
        (then-stored ps k k x y _ (omega arith)
        ∙ ap (runs_then ps 0 k) (rw (cut-rest, value, ← suffix-top a k u.inside) (sym w))
        ∙ rw (lead-run v left (ever 0) p) at u.made) whole_sum

-- the end of the run in pair k
pub front-ends : {a l new : Listed} {v m k left c : ℕ} → Fronting a v m l.pairs k left c → l.len ≡ a.len → (0 < c → left < c) → Parted l new k v left → Is new (add_pairs (pairs_of a) (run v m (ever 0)))
front-ends {a} {l} {new} {v} {m} {k} {left} {c} t e g h = go (eqb left 0) refl
  where
    count : count_at l.pairs k - left ≡ c - left
    count = ap (λ n. n - left) (t.raising.counts k (omega arith) ∙ sym t.next)

    go : (b : Bool) → eqb left 0 ≡ b → Is new (add_pairs (pairs_of a) (run v m (ever 0)))
    go true z = let z = eqb-true left 0 z in rw (h.whole z) (as_list l e (front-done t z))
    go false z =
        let z = eqb-false left 0 z in
        as_list new (h.longer z ∙ ap (λ n. n + 1) e) (front-last t g refl count z (rw e at (h.parts z)))

-- ---- a value found

-- the values of the pairs before k are above v, which the last one's is not
pub record Finding (a : Listed) (v k : ℕ) : Type 0 where
  pub asked : Proper a
  pub last : value_at a.pairs (a.len - 1) ≤ v
  pub inside : k < a.len
  pub above : (j : ℕ) → j < k → v < value_at a.pairs j

-- a pair above the last one's value is not the last
not_last : (a : Listed) (v k : ℕ) → value_at a.pairs (a.len - 1) ≤ v → k < a.len → v < value_at a.pairs k → suc k < a.len
not_last a v k l h m = go (ltb (suc k) a.len) refl
  where
    go : (b : Bool) → ltb (suc k) a.len ≡ b → suc k < a.len
    go true e = ltb-true _ _ e
    go false e =
        let z : a.len - 1 ≡ k = omega (arith, ltb-false (suc k) a.len e) in
        absurd (omega (arith, rw z at l))

-- ---- choice

pub lower : {x y v : ℕ} → x ≡ y → (x ≡ v → ⊥) → y ≤ v → y < v
lower {x} {y} {v} e n l = go (eqb y v) refl
  where
    go : (b : Bool) → eqb y v ≡ b → y < v
    go true d = absurd (n (e ∙ eqb-true y v d))
    go false d = omega (arith, positive (v - y) (λ z. eqb-false y v d (omega arith)))

-- the pairs above the other list come first
merge-front : (a : Listed) → Proper a → (s : Pairs) → Canonical s → (k : ℕ) → k < a.len → ((j : ℕ) → j < k → top s < value_at a.pairs j)
    → runs_then a.pairs 0 k (merge_pairs (suffix a k) s) ≡ merge_pairs (pairs_of a) s
unfolding runs_then
merge-front a p s c zero h f = ap (λ r. merge_pairs r s) (suffix-whole a)
merge-front a p s c (suc k) h f =
    let e = suffix-inner a k h in
    let m = merge-run (value_at a.pairs k) (count_at a.pairs k) (suffix a (suc k)) s (rw e at (suffix-canonical a p k (omega arith))) c (f k (omega arith)) in
    rw zero-add at (then-snoc a.pairs 0 k (merge_pairs (suffix a (suc k)) s))
    ∙ ap (runs_then a.pairs 0 k) (sym m ∙ sym (ap (λ r. merge_pairs r s) e))
    ∙ merge-front a p s c k (omega arith) (λ j l. f j (omega arith))

-- a list that is nowhere below the other one
pub merge_none : {a : Listed} (s : Pairs) → Proper a → Canonical s → top s ≤ value_at a.pairs (a.len - 1) → Is a (merge_pairs (pairs_of a) s)
unfolding top
merge_none {a} s p c l =
    let n : ℕ = a.len - 1 in
    let h : n < a.len = omega (arith, p.some) in
    let e = suffix-end a n (omega (arith, p.some)) in
    record {
      proper = p;
      pairs = split_at a n h
          ∙ ap (runs_then a.pairs 0 n) (e ∙ sym (merge-over _ s c l) ∙ sym (ap (λ r. merge_pairs r s) e))
          ∙ merge-front a p s c n h (λ j m. omega (arith, least a p j m));
    }

pub floor-none : {a : Listed} {v x : ℕ} → Proper a → x ≡ value_at a.pairs (a.len - 1) → v ≤ x → Is a (merge_pairs (pairs_of a) (ever v))
unfolding Canonical top
floor-none {a} {v} p e l = merge_none (ever v) p tt (omega (arith, e))

pub insert-none : {a : Listed} {v m x : ℕ} → Proper a → 0 < v → 0 < m → x ≡ value_at a.pairs (a.len - 1) → v ≤ x → Is a (merge_pairs (pairs_of a) (run v m (ever 0)))
unfolding top
insert-none {a} {v} {m} p s t e l = merge_none (run v m (ever 0)) p (run-canonical v m s t) (omega (arith, e))

module _ {a : Listed} {v k : ℕ} (p : Proper a) (t : Under a.pairs a.len v k) where
  low : top (suffix a k) ≤ v
  low = omega (arith, suffix-top a k t.inside, t.under)

  pub floor-last : Is (list_in (stored a.pairs k v 0) (k + 1)) (merge_pairs (pairs_of a) (ever v))
  unfolding Canonical top
  floor-last =
      put_last a.pairs k v _ (omega (arith, t.inside, p.room)) p.long
      (ap (runs_then a.pairs 0 k) (sym (merge-ever (suffix a k) v (suffix-canonical a p k t.inside) low)) ∙ merge-front a p (ever v) tt k t.inside t.above)
      (merge-facts (pairs_of a) (ever v) p.canonical tt).canonical

  module _ {m : ℕ} (some : 0 < v) (times : 0 < m) where
    whole : Pairs
    whole = merge_pairs (pairs_of a) (run v m (ever 0))

    whole-canonical : Canonical whole
    unfolding whole
    whole-canonical = (merge-facts (pairs_of a) (run v m (ever 0)) p.canonical (run-canonical v m some times)).canonical

    from_front : runs_then a.pairs 0 k (merge_pairs (suffix a k) (run v m (ever 0))) ≡ whole
    unfolding whole top
    from_front = merge-front a p (run v m (ever 0)) (run-canonical v m some times) k t.inside t.above

    pub times-fit : {c : ℕ} → places (pairs_of a) + m < 2 ^ 64 → c ≡ count_at a.pairs k → c + m < 2 ^ 64
    times-fit l d = omega (arith, d, count-few a p k t.inside)

    -- as often more
    pub more-often : {c : ℕ} → value_at a.pairs k ≡ v → value_at a.pairs (a.len - 1) < v → c ≡ count_at a.pairs k
        → Is (list_in (stored a.pairs k v (c + m)) a.len) (merge_pairs (pairs_of a) (run v m (ever 0)))
    unfolding whole
    more-often {c} e l d =
        let n = not-last' e l in
        let i = suffix-inner a k n in
        let q : k < most_pairs = omega (arith, t.inside, p.room) in
        let canonical = rw (e, ← d) at (rw i at (suffix-canonical a p k t.inside)) in
        let u = merge-same v m c (suffix a (suc k)) canonical some times in
        let ps = stored a.pairs k v (c + m) in
        over-is a ps (suc k) p n (length-stored _ _ _ _ ∙ p.long) (λ j h. value-above a.pairs k v (c + m) j (omega arith)) (λ j h. count-above a.pairs k v (c + m) j (omega arith))
        (rw add-one at (put a.pairs k v (c + m) (suffix a (suc k)) q p.long) ∙ ap (runs_then a.pairs 0 k) (sym u) ∙ rw (rw (e, ← d) at i) at from_front) whole-canonical
      where
        not-last' : value_at a.pairs k ≡ v → value_at a.pairs (a.len - 1) < v → suc k < a.len
        not-last' e l = not_last a (value_at a.pairs (a.len - 1)) k (omega arith) t.inside (omega (arith, e))

    -- one more pair
    pub one_more : {new : List ℕ} → value_at a.pairs k < v → a.len < most_pairs → Inserted a.pairs new a.len k v m → Is (list_in new (a.len + 1)) (merge_pairs (pairs_of a) (run v m (ever 0)))
    unfolding whole
    one_more l r i =
        let u = merge-first v m (suffix a k) (suffix-canonical a p k t.inside) some times (omega (arith, suffix-top a k t.inside)) in
        inserted-is i t.inside r p.ends (ap (runs_then a.pairs 0 k) (sym u) ∙ from_front) whole-canonical

-- ---- short lists

pub ever-is : (b : Listed) → b.len ≡ 1 → pairs_of b ≡ ever (value_at b.pairs 0)
unfolding pairs_of runs_then
ever-is b e = rw e refl

run-some : (v c : ℕ) → Canonical (run v c (ever 0)) → (0 < v) × (0 < c)
unfolding Canonical top
run-some v c h = (h.1, h.0)

pub record IsRun (b : Listed) : Type 0 where
  pub pairs : pairs_of b ≡ run (value_at b.pairs 0) (count_at b.pairs 0) (ever 0)
  pub some : 0 < value_at b.pairs 0
  pub times : 0 < count_at b.pairs 0

pub run_is : {b : Listed} {t : Bool} → Proper b → t ≡ is_run b.pairs b.len → t ≡ true → IsRun b
run_is {b} p d e = go (eqb b.len 2) refl (eqb (value_at b.pairs 1) 0) refl (sym d ∙ e)
  where
    by_two : b.len ≡ 2 → value_at b.pairs 1 ≡ 0 → IsRun b
    by_two l z =
        let s : pairs_of b ≡ run (value_at b.pairs 0) (count_at b.pairs 0) (ever 0) =
        sym (suffix-whole b) ∙ suffix-inner b 0 (omega arith) ∙ ap (run (value_at b.pairs 0) (count_at b.pairs 0)) (suffix-end b 1 (omega arith) ∙ ap ever z) in
        let (x, y) = run-some _ _ (rw s at p.canonical) in
        record { pairs = s; some = x; times = y }

    go : (x : Bool) → eqb b.len 2 ≡ x → (y : Bool) → eqb (value_at b.pairs 1) 0 ≡ y → x && y ≡ true → IsRun b
    go true f true g h = by_two (eqb-true _ _ f) (eqb-true _ _ g)
    go true f false g h = absurd (let z : ◌≡◌ {A = ℕ} 0 1 = cc in omega arith)
    go false f y g h = absurd (let z : ◌≡◌ {A = ℕ} 0 1 = cc in omega arith)

pub low_first : {a b : Listed} {v : ℕ} → Addable a b → v ≡ value_at b.pairs 0 → top (pairs_of a) + v < 2 ^ 64
low_first {a} {b} q e = omega (arith, e, q.low, ap top (suffix-whole b), suffix-top b 0 q.right.some)

pub room-run : {a b : Listed} → Proper a → IsRun b → width (pairs_of a) + width (pairs_of b) < most_pairs → a.len < most_pairs
unfolding width
room-run {a} {b} p i l = omega (arith, len_is a p, ap width i.pairs)

pub few-run : {a b : Listed} {m : ℕ} → Mergeable a b → IsRun b → m ≡ count_at b.pairs 0 → places (pairs_of a) + m < 2 ^ 64
unfolding places
few-run {a} {b} q i e = omega (arith, e, q.few, ap places i.pairs)

-- a list of these pairs that was copied
pub copied : {l k : Listed} {p : Pairs} → Is l p → Is k (pairs_of l) → Is k p
copied h c = record { proper = c.proper; pairs = c.pairs ∙ h.pairs }
