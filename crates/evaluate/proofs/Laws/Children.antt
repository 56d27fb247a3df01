-- What the evaluator's walk finds of a node's children, one after the other.
use Rattle.std.specs.Prelude.{◌≡◌, cond, false, List, ◌≤◌, ℕ, ◌+◌, min, zero, suc, ◌*◌, ◌<◌, T, drop as dropped}
use Rattle.std.proofs.Math.Path.{refl}
use Rattle.std.proofs.Common.{sym, ap, ◌∙◌, arith, eqb→eq, leb→le, eq-eqb}
use Rattle.std.proofs.Math.Nat.{le_trans}
use Rattle.booleans.specs.Laws.{both, by_cond, join-and}
use Rattle.table.specs.Numbers.{most_time, whole_run, record_length, most_count, most_weight, first_time_symbol}
use Rattle.table.specs.Questions.{arity, kind_in_range, paired, paired_block, time_in_range}
use Rattle.table.specs.Trees.{rest, Forest, records_in, nil, ◌▸◌, size, Tree, records}
use Rattle.lists.specs.Pairs.{ArePairs, Canonical, ever, expand, in_front, top, width}
use Rattle.lists.specs.Streams.{const, Stream}
use Rattle.lists.specs.Laws.Pairs.{Front, are-pairs, in-front}
use Rattle.lists.specs.Laws.Falls.{drop, drop-none}
use Rattle.lists.specs.Laws.Sums.{Falls, const-falls}
use Rattle.lists.specs.Laws.Union.{expand-ever}
use Rattle.evaluate.specs.Nodes.{Kind, Block, Sequence, Choice, Loop, Number}
use Rattle.evaluate.specs.Evaluate.{Values, start, join, before, fits, fits_in, name_in, amount, later, once_then, name, list, seen, figure, branch_in, no_branch}
use Rattle.evaluate.specs.Evaluator.{Agree, Found, evaluate_more, evaluate_below, next_holder, none_yet, time_pairs}
use Rattle.evaluate.proofs.Laws.Branch.{branch-after, child_list, holder_after}
use Rattle.evaluate.proofs.Laws.Found.{Finds, Holds, known-finds, same-finds, found-holds, checked-finds, then-finds, joined-finds, round-finds}
use Rattle.evaluate.proofs.Laws.Times.{drop-most, later-le, later_same}
use Rattle.evaluate.proofs.Laws.Joins.{join-zero, zero-join, join-assoc, join-left, join-right, rest-join}
use Rattle.evaluate.proofs.Laws.Monotone.{before_falls, name_in-le, list-falls, turns-falls, join-falls}
use Rattle.evaluate.proofs.Laws.PairCount.{bound_in, bound}
use Rattle.evaluate.proofs.Laws.Ranges.{figure-most}
use Rattle.evaluate.proofs.Laws.Kinds.{grouped, by-rest}
use Rattle.evaluate.proofs.Laws.Alike.{later-alike, time-alike}

-- what the children after the first are joined to, and how
pub rest-start : (v : Values) (k : Kind) → start v (rest k) ≡ const 0
unfolding start
rest-start v k = by-rest (λ j. start v j ≡ const 0) k refl refl

-- ---- children so far

-- question 10 of a node's children, joined to the list a
pub record Within (v : Values) (a : Stream) (k : Kind) (f : Forest) : Type 0 where
  pub low : join k a (before v k f) 0 ≤ most_time
  pub fits : T (fits_in v f)

-- a walk of the children f, numbers i and on, after those of the list a, of which child c holds the largest first member
abbrev pub More : (v : Values) (a : Stream) (w j m c i : ℕ) (k : Kind) (f : Forest) → Found → Type 0
More v a w j m c i k f e = Finds (Within v a k f) e (join k a (before v k f)) (w + bound_in k f) (min j (name_in k f)) (m + records_in f) (holder_after v k c i a f)

-- what was found of the children so far
pub record SoFar (s : Found) (a : Stream) (w j m c : ℕ) : Type 0 where
  pub holds : Holds s a w j m c
  pub falls : Falls a
  pub low : a 0 ≤ most_time
  pub inner : j ≤ whole_run

-- when none is left
pub no_more : (v : Values) (k : Kind) (a : Stream) (w j m c i : ℕ) (s : Found) → start v k ≡ const 0 → SoFar s a w j m c → More v a w j m c i k nil s
unfolding fits before bound_in name_in records_in holder_after
no_more v k a w j m c o s e h =
    let i : a ≡ join k a (start v k) = sym (join-zero k a h.falls) ∙ ap (join k a) (sym e) in
    same-finds (λ x. record { low = rw (← i) x; fits = tt }) (λ x. h.low) i (omega arith) (omega arith) (omega arith) refl (known-finds h.low h.holds)

-- before the first
pub none-yet : SoFar none_yet (const 0) 0 whole_run 0 0
unfolding const Canonical width
none-yet = record { holds = found-holds (const 0) (ever 0) 0 whole_run 0 0 (are-pairs tt (expand-ever 0)) (omega arith); falls = const-falls 0; low = omega arith; inner = omega arith }

-- from no children on
pub from-none : (v : Values) (k : Kind) (f : Forest) (e : Found) {c : ℕ} → holder_after v k 0 0 (const 0) f ≡ c → More v (const 0) 0 whole_run 0 0 0 k f e
    → Finds ((before v k f 0 ≤ most_time) × T (fits_in v f)) e (before v k f) (bound_in k f) (name_in k f) (records_in f) c
from-none v k f e y h =
    let i : join k (const 0) (before v k f) ≡ before v k f = zero-join k _ (before_falls v k f) in
    same-finds (λ x. (rw i at x.low, x.fits)) (λ x. record { low = rw i x.0; fits = x.1 }) i (omega arith) (omega (arith, name_in-le k f)) (omega arith) y h

-- a block
pub time-front : (v : Values) (t : Number) → Front (amount v t) (ever (later v t)) (time_pairs v t)
unfolding time_pairs Canonical top
time-front v t = in-front (amount v t) (ever (later v t)) tt (later-le v t)

-- without a pair, a single value
pub time-single : (v : Values) (t : Number) → paired t ≡ false → time_pairs v t ≡ ever (amount v t)
unfolding time_pairs in_front
time-single v t h = rw (later_same v t h, eq-eqb (amount v t) (amount v t) refl) refl

pub time-pairs : (v : Values) (t : Number) → ArePairs (once_then (amount v t) (later v t)) (time_pairs v t)
time-pairs v t = record { canonical = (time-front v t).canonical; means = each }
  where
    each : (i : ℕ) → expand (time_pairs v t) i ≡ once_then (amount v t) (later v t) i
    each zero = unfold once_then in (time-front v t).here
    each (suc i) = unfold once_then in (time-front v t).later i ∙ unfold expand in refl

pub time-thin : (v : Values) (t : Number) → width (time_pairs v t) ≤ cond (paired t) 1 0
time-thin v t = by_cond (λ x. width (time_pairs v t) ≤ x) (paired t) _ _ (λ e. omega (arith, wide, drop-most (amount v t) (later v t))) (λ e. omega (arith, wide, drop-none (amount v t) (later v t) (omega (arith, later_same v t e))))
  where
    wide : width (time_pairs v t) ≡ drop (amount v t) (later v t) + 0
    wide = (time-front v t).wide ∙ unfold top in unfold width in refl

pub time-wide : (v : Values) (t : Number) → width (time_pairs v t) ≤ 1
time-wide v t = omega (arith, time-thin v t, by_cond (λ x. x ≤ 1) (paired t) 1 0 (λ e. omega arith) (λ e. omega arith))

-- by what is lent to the walk
pub time-lent : (u v : Values) → Agree u v → (t : Number) → T (time_in_range t) → time_pairs u t ≡ time_pairs v t
unfolding time_pairs
time-lent u v agree t r = rw (time-alike u v agree t r, later-alike u v agree t r) refl

-- what is found of a node before its own limit, by what is found of its children
pub below-finds : (u v : Values) → Agree u v → (k : Kind) (f : Forest) (g : List ℕ → Found) (b : List ℕ) → T (kind_in_range k) → T (arity k (size f))
    → (start v k ≡ const 0 → More v (const 0) 0 whole_run 0 0 0 k f (evaluate_more u g k 0 (size f) b none_yet))
    → Finds ((before v k f 0 ≤ most_time) × T (fits_in v f)) (evaluate_below u g k (size f) b) (before v k f) (bound_in k f) (name_in k f) (records_in f) (branch_in v k f)
unfolding evaluate_below start fits before bound_in name_in records_in branch_in arity size kind_in_range paired_block
below-finds u v agree (Block t) nil g b r i q =
    rw (time-lent u v agree t r)
    (same-finds (λ x. (x, tt)) (λ x. x.0) refl (omega arith) refl refl refl (checked-finds (once_then (amount v t) (later v t)) (time_pairs v t) (cond (paired t) 1 0) whole_run 0 no_branch (time-pairs v t) (time-thin v t)))
below-finds u v agree (Block t) (c ▸ f) g b r i q = absurd (omega (arith, eqb→eq (suc (size f)) 0 i))
below-finds u v agree Sequence f g b r i q = from-none v Sequence f _ (branch-after v Sequence f (leb→le 1 (size f) (both _ _ i).0)) (q refl)
below-finds u v agree Choice f g b r i q = from-none v Choice f _ (branch-after v Choice f (leb→le 1 (size f) (both _ _ i).0)) (q refl)
below-finds u v agree (Loop m) f g b r i q = from-none v (Loop m) f _ (branch-after v (Loop m) f (omega (arith, eqb→eq (size f) 2 i))) (q refl)

-- ---- the next child

child-falls : (v : Values) (k : Kind) (t : Tree) → Falls (child_list v k t)
child-falls v k t = turns-falls v k (name t) _ (list-falls v t)

module _ (u v : Values) (agree : Agree u v) (ranged : (k : ℕ) → k < first_time_symbol → v k ≤ most_count) where
  -- The first child, then the others. What is joined on the way has no larger first member than the whole, so the tests on the way ask what question 10 asks of the node.
  pub next_more : (k : Kind) (t : Tree) (f : Forest) (g : List ℕ → Found) (b : List ℕ) (a : Stream) (w j m z o : ℕ) (s : Found) {y : ℕ}
      → SoFar s a w j m z → T (kind_in_range k) → w + bound_in k (t ▸ f) ≤ most_weight
      → Finds (T (fits v t)) (g (dropped (record_length * s.records) b)) (list v t) (bound t) (name t) (records t) y
      → let x = child_list v k t in let p = next_holder k z (a 0) o (x 0) in
      ((e : Found) → SoFar e (join k a x) (w + grouped k (name t) (bound t)) (min j (seen k (name t))) (m + records t) p
      → More v (join k a x) (w + grouped k (name t) (bound t)) (min j (seen k (name t))) (m + records t) p (suc o) (rest k) f (evaluate_more u g (rest k) (suc o) (size f) b e))
      → More v a w j m z o k (t ▸ f) (evaluate_more u g k o (size (t ▸ f)) b s)
  unfolding fits before bound_in name_in records_in evaluate_more size holder_after
  next_more k t f g b a w j m z o s h i l c q =
      same-finds
      (λ p. record { low = omega (arith, whole, p.1.1.1.low); fits = join-and _ _ p.0 p.1.1.1.fits })
      (λ p.
      let (p₁, p₂) = both _ _ p.fits in
      let n : join (rest k) (join k a x) y 0 ≤ most_time = omega (arith, whole, p.low) in
      let n₁ : join k a x 0 ≤ most_time = le_trans (join-left (rest k) (join k a x) y) n in
      (p₁, (le_trans (join-right k a x) n₁, (n₁, record { low = n; fits = p₂ }))))
      e (omega arith) (omega arith) (omega arith) refl
      (then-finds c (λ p r.
      then-finds (round-finds u v agree ranged k _ _ _ _ _ _ r (unfold figure in figure-most v t p) i (omega arith)) (λ p₁ r₁.
      then-finds (joined-finds k o s _ a x w _ j _ m _ z _ h.holds r₁ (omega arith)) (λ p₂ r₂.
      q _ (record { holds = r₂; falls = join-falls k a x h.falls (child-falls v k t); low = p₂; inner = omega (arith, h.inner) })))))
    where
      x : Stream
      x = child_list v k t

      y : Stream
      y = before v (rest k) f

      e : join (rest k) (join k a x) y ≡ join k a (join k x y)
      e = rest-join k (join k a x) y ∙ join-assoc k a x y h.falls (child-falls v k t) (before_falls v (rest k) f)

      whole : join (rest k) (join k a x) y 0 ≡ join k a (join k x y) 0
      whole = ap (λ z. z 0) e
