-- The cases of the evaluator's definition, as the program meets them.
use mathlib.Core.Path.{◌≡◌, refl}
use Prim.Native.Nat.{ℕ, suc, ◌+◌, ◌*◌, min, ◌<◌, ◌≤◌}
use borrow.Author.Tests.{le-leb, lt-leb}
use Rattle.table.specs.Numbers.{most_count, most_time, most_weight}
use Rattle.table.specs.declared.Kind.{Kind}
use Rattle.table.specs.declared.Limit.TheVariants.{AtMost}
use Rattle.table.specs.declared.Most.{Most}
use Rattle.lists.specs.Operations.{cap_pairs, first, group_pairs}
use Rattle.lists.specs.Pairs.{Pairs, ever, top, width}
use Rattle.evaluate.specs.Evaluate.{Values, outward}
use Rattle.evaluate.specs.Evaluator.{Found, checked, found, next_holder, join_pairs, joined, limited, looked, looped, unfit}

pub checked-low : (p : Pairs) (k n c : ℕ) → top p ≤ most_time → checked p k n c ≡ found p k n c
checked-low p k n c l = rw (le-leb (top p) most_time l) refl

pub checked-high : (p : Pairs) (k n c : ℕ) → most_time < top p → checked p k n c ≡ unfit
checked-high p k n c l = rw (lt-leb (top p) most_time l) refl

pub joined-wide : (k : Kind) (i : ℕ) (s c : Found) → most_weight < width s.pairs + width c.pairs → joined k i s c ≡ unfit
unfolding joined
joined-wide k i s c l = rw (lt-leb (width s.pairs + width c.pairs) most_weight l) refl

pub joined-room : (k : Kind) (i : ℕ) (s c : Found) → width s.pairs + width c.pairs ≤ most_weight
    → joined k i s c ≡ checked (join_pairs k s.pairs c.pairs) (min s.named c.named) (s.records + c.records) (next_holder k s.branch (top s.pairs) i (top c.pairs))
unfolding joined
joined-room k i s c l = rw (le-leb (width s.pairs + width c.pairs) most_weight l) refl

module _ (n : ℕ) (c : Found) where
  pub looped-many : most_count < n → looped n c ≡ unfit
  unfolding looped
  looped-many m = rw (lt-leb n most_count m) refl

  pub looped-own : n ≤ most_count → c.named ≤ 1 → looped n c ≡ checked (ever (first c.pairs n)) (outward c.named) c.records c.branch
  unfolding looped
  looped-own m o = rw (le-leb n most_count m, le-leb c.named 1 o) refl

  pub looped-wide : n ≤ most_count → 1 < c.named → most_weight < 2 * width c.pairs → looped n c ≡ unfit
  unfolding looped
  looped-wide m o l = rw (le-leb n most_count m, lt-leb c.named 1 o, lt-leb (2 * width c.pairs) most_weight l) refl

  pub looped-room : n ≤ most_count → 1 < c.named → 2 * width c.pairs ≤ most_weight → looped n c ≡ checked (group_pairs n c.pairs) (outward c.named) c.records c.branch
  unfolding looped
  looped-room m o l = rw (le-leb n most_count m, lt-leb c.named 1 o, le-leb (2 * width c.pairs) most_weight l) refl

module _ (v : Values) (k : ℕ) (m : Most) (s : Found) where
  pub limited-many : most_count < looked v m → limited v (AtMost k m) s ≡ unfit
  unfolding limited
  limited-many l = rw (lt-leb (looked v m) most_count l) refl

  pub limited-wide : looked v m ≤ most_count → most_weight < suc (width s.pairs) → limited v (AtMost k m) s ≡ unfit
  unfolding limited
  limited-wide l w = rw (le-leb (looked v m) most_count l, lt-leb (suc (width s.pairs)) most_weight w) refl

  pub limited-room : looked v m ≤ most_count → suc (width s.pairs) ≤ most_weight
      → limited v (AtMost k m) s ≡ found (cap_pairs (looked v m) s.pairs) (min k s.named) (suc s.records) s.branch
  unfolding limited
  limited-room l w = rw (le-leb (looked v m) most_count l, le-leb (suc (width s.pairs)) most_weight w) refl
