-- Pairs stored in an array one after the other.
use mathlib.Core.Path.{◌∙◌, ◌≡◌, ap, refl, subst, sym}
use mathlib.Core.List.{List}
use Prim.Native.Nat.{◌*◌, ◌+◌, ◌-◌, ◌<◌, ◌≤◌, suc, zero, ℕ}
use native.Mathlib.Nat.{add-zero, zero-add}
use native.Mathlib.Numerals.{add-one}
use native.Mathlib.Omega.{arith}
use lib.Dec.{eqb, eqb→eq}
use lib.ListN.{length, length-set, set}
use lib.Seq.{get_or-set_other, get_or-set_same}
use borrow.Author.Tests.{eqb-false}
use Rattle.booleans.specs.Laws.{by_cond}
use Rattle.lists.specs.Pairs.{Canonical, Pairs, ever, in_front, run, top}
use Rattle.lists.specs.Operations.{lead, some}
use Rattle.lists.specs.Laws.Group.{some-le-one, some-none, some_one}
use Rattle.lists.specs.Laws.Pairs.{in-front}
use Rattle.lists.specs.Reading.{Is, count_at, list_in, most_pairs, pairs_of, runs_then, stored, value_at}

-- ---- reading what was stored

module _ (ps : List ℕ) (k v c : ℕ) where
  pub length-stored : length (stored ps k v c) ≡ length ps
  unfolding stored
  length-stored = simp length-set

  pub value-below : (j : ℕ) → j < k → value_at (stored ps k v c) j ≡ value_at ps j
  unfolding stored value_at
  value-below j l = get_or-set_other (set ps (2 * k) v) (2 * k + 1) (2 * j) c 0 (λ e. omega arith) ∙ get_or-set_other ps (2 * k) (2 * j) v 0 (λ e. omega arith)

  pub count-below : (j : ℕ) → j < k → count_at (stored ps k v c) j ≡ count_at ps j
  unfolding stored count_at
  count-below j l = get_or-set_other (set ps (2 * k) v) (2 * k + 1) (2 * j + 1) c 0 (λ e. omega arith) ∙ get_or-set_other ps (2 * k) (2 * j + 1) v 0 (λ e. omega arith)

  pub value-stored : k < most_pairs → length ps ≡ 2 * most_pairs → value_at (stored ps k v c) k ≡ v
  unfolding stored value_at
  value-stored l e = get_or-set_other (set ps (2 * k) v) (2 * k + 1) (2 * k) c 0 (λ e. omega arith) ∙ get_or-set_same ps (2 * k) v 0 (omega arith)

  pub count-stored : k < most_pairs → length ps ≡ 2 * most_pairs → count_at (stored ps k v c) k ≡ c
  unfolding stored count_at
  count-stored l e = get_or-set_same (set ps (2 * k) v) (2 * k + 1) c 0 (simp length-set (omega arith))

-- ---- the pairs of an array

-- one pair more, at the end
pub then-snoc : (ps : List ℕ) (i n : ℕ) (r : Pairs) → runs_then ps i (suc n) r ≡ runs_then ps i n (run (value_at ps (i + n)) (count_at ps (i + n)) r)
unfolding runs_then
then-snoc ps i zero r = simp add-zero
then-snoc ps i (suc n) r =
    let e : suc i + n ≡ i + suc n = omega arith in
    ap (run (value_at ps i) (count_at ps i)) (rw e at (then-snoc ps (suc i) n r))

-- arrays that agree below the end have the same pairs
pub then_same : (ps qs : List ℕ) (i n : ℕ) (r : Pairs) → ((j : ℕ) → j < i + n → value_at ps j ≡ value_at qs j) → ((j : ℕ) → j < i + n → count_at ps j ≡ count_at qs j)
    → runs_then ps i n r ≡ runs_then qs i n r
unfolding runs_then
then_same ps qs i zero r f g = refl
then_same ps qs i (suc n) r f g =
    cc (then_same ps qs (suc i) n r (λ j l. f j (omega arith)) (λ j l. g j (omega arith)), f i (omega arith), g i (omega arith))

-- a store past the pairs changes none of them
pub then-stored : (ps : List ℕ) (n k v c : ℕ) (r : Pairs) → n ≤ k → runs_then (stored ps k v c) 0 n r ≡ runs_then ps 0 n r
then-stored ps n k v c r l = then_same _ _ 0 n r (λ j h. value-below ps k v c j (omega arith)) (λ j h. count-below ps k v c j (omega arith))

-- the next pair stored
pub put : (ps : List ℕ) (n v c : ℕ) (r : Pairs) → n < most_pairs → length ps ≡ 2 * most_pairs → runs_then (stored ps n v c) 0 (n + 1) r ≡ runs_then ps 0 n (run v c r)
put ps n v c r l e =
    rw add-one (rw (zero-add, value-stored ps n v c l e, count-stored ps n v c l e) at (then-snoc (stored ps n v c) 0 n r)
    ∙ then-stored ps n n v c (run v c r) (omega arith))

-- the next pair stored, and kept unless its count is 0
pub put_some : (ps : List ℕ) (n v c : ℕ) (r : Pairs) → n < most_pairs → length ps ≡ 2 * most_pairs → runs_then (stored ps n v c) 0 (n + some c) r ≡ runs_then ps 0 n (lead v c r)
unfolding some lead
put_some ps n v zero r l e = rw add-zero (then-stored ps n n v 0 r (omega arith))
put_some ps n v (suc c) r l e = put ps n v (suc c) r l e

-- the next pair stored once, and kept or not
pub put-once : (ps : List ℕ) (n v k : ℕ) (r : Pairs) → k ≤ 1 → n < most_pairs → length ps ≡ 2 * most_pairs
    → runs_then (stored ps n v 1) 0 (n + k) r ≡ runs_then ps 0 n (lead v k r)
unfolding lead
put-once ps n v zero r o l e = rw add-zero (then-stored ps n n v 1 r (omega arith))
put-once ps n v (suc zero) r o l e = put ps n v 1 r l e
put-once ps n v (suc (suc k)) r o l e = absurd (omega arith)

-- the last pair stored
pub put_last : (ps : List ℕ) (n v : ℕ) (p : Pairs) → n < most_pairs → length ps ≡ 2 * most_pairs → runs_then ps 0 n (ever v) ≡ p → Canonical p
    → Is (list_in (stored ps n v 0) (n + 1)) p
unfolding pairs_of
put_last ps n v p l e q h = record {
  proper = record { long = length-stored ps n v 0 ∙ e; some = omega arith; room = omega arith; ends = rw e₁ (count-stored ps n v 0 l e); canonical = subst Canonical (sym same) h };
  pairs = same;
}
  where
    e₁ : n + 1 - 1 ≡ n
    e₁ = omega arith

    same : pairs_of (list_in (stored ps n v 0) (n + 1)) ≡ p
    same = rw (e₁, value-stored ps n v 0 l e) (then-stored ps n n v 0 (ever v) (omega arith) ∙ q)

-- one value once, and then another
pub lead-front : (a b : ℕ) → b ≤ a → lead a (some (a - b)) (ever b) ≡ in_front a (ever b)
unfolding in_front
lead-front a b l =
    by_cond (λ p. lead a (some (a - b)) (ever b) ≡ p) (eqb a b) _ _
    (λ t. let q : a ≡ b = eqb→eq a b t in rw (some-none (a - b) (omega arith)) (unfold lead in refl))
    (λ e. rw (some_one (a - b) (omega (arith, eqb-false a b e))) (unfold lead in refl))

pub once-stored : (ps : List ℕ) (a b k : ℕ) → b ≤ a → k ≡ some (a - b) → length ps ≡ 2 * most_pairs → Is (list_in (stored (stored ps 0 a 1) k b 0) (k + 1)) (in_front a (ever b))
unfolding runs_then Canonical top
once-stored ps a b k l q e =
    let s : k ≤ 1 = omega (arith, some-le-one (a - b)) in
    put_last (stored ps 0 a 1) k b _ (omega arith) (length-stored ps 0 a 1 ∙ e)
    (rw zero-add at (put-once ps 0 a k (ever b) s (omega arith) e) ∙ ap (λ n. lead a n (ever b)) q ∙ lead-front a b l)
    (in-front a (ever b) tt l).canonical
