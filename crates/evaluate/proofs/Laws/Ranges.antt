-- Where questions 7, 9 and 10 say yes, each count and each sum of a tree's list stays in range.
use Rattle.std.specs.Prelude.{ℕ, suc, ◌+◌, ◌*◌, ◌≤◌, ◌<◌, ltb, T}
use Rattle.std.proofs.Common.{le_trans, mul-le-mul_right, arith, leb→le}
use Rattle.booleans.specs.Laws.{by_cond, both}
use Rattle.table.specs.Numbers.{most_time, most_count, most_weight, most_loops, first_time_symbol}
use Rattle.table.specs.Trees.{Tree, node}
use Rattle.table.specs.Questions.{listed, loops, named, weight}
use Rattle.lists.specs.Streams.{Stream, const, cap, group, shift}
use Rattle.lists.specs.Pairs.{width, places}
use Rattle.lists.specs.Laws.Sums.{S-le, S-const, falls-le}
use Rattle.evaluate.specs.Nodes.{Unlimited, Limit, AtMost}
use Rattle.evaluate.specs.Evaluate.{Values, limit, figure, fits, list, allowed}
use Rattle.evaluate.specs.ListPairs.{list_pairs}
use Rattle.evaluate.proofs.Laws.Monotone.{list-falls}
use Rattle.evaluate.proofs.Laws.PairCount.{bound}
use Rattle.evaluate.proofs.Laws.Weight.{bound-weight}
use Rattle.evaluate.proofs.Laws.Settled.{place-most}
use Rattle.evaluate.proofs.Laws.ListPairs.{list-made, few-list-pairs}

-- the first member after the limit is none above that before it
limit-first : (v : Values) (l : Limit) (f : Stream) → limit v l f 0 ≤ f 0
unfolding limit cap
limit-first v Unlimited f = omega arith
limit-first v (AtMost k m) f = by_cond (λ x. x ≤ f 0) (ltb 0 (allowed v m)) _ _ (λ e. omega arith) (λ e. omega arith)

pub figure-most : (v : Values) (t : Tree) → T (fits v t) → figure v t ≤ most_time
unfolding fits figure list
figure-most v (node n f) h = le_trans (limit-first v n.limit _) (leb→le _ _ (both _ _ h).0)

pub list-most : (v : Values) (t : Tree) → T (fits v t) → (i : ℕ) → list v t i ≤ most_time
unfolding figure
list-most v t h i = le_trans (falls-le _ (list-falls v t) 0 i (omega arith)) (figure-most v t h)

-- a group of n members, none above c
group-most : (n c : ℕ) (f : Stream) → ((i : ℕ) → f i ≤ c) → (i : ℕ) → group n f i ≤ n * c
unfolding group shift const
group-most n c f h i = omega (arith, S-le (shift f (n * i)) (const c) (λ j. h (n * i + j)) n, S-const c n)

-- what a program that holds the list of a subtree can rely on
pub record Ranged (v : Values) (t : Tree) : Type 0 where
  -- at most 256 pairs, whose finite counts sum to at most 255,000,000
  pub few : suc (width (list_pairs v t)) ≤ suc most_weight
  pub near : places (list_pairs v t) ≤ most_weight * most_count
  -- members at most the ceiling of a time, and a loop's sums of them at most a million times that
  pub members : (i : ℕ) → list v t i ≤ most_time
  pub sums : (n : ℕ) → n ≤ most_count → (i : ℕ) → group n (list v t) i ≤ most_count * most_time

module _ (v : Values) (ranged : (k : ℕ) → k < first_time_symbol → v k ≤ most_count) where
  pub in-range : (t : Tree) (d : ℕ) → T (listed t) → loops t d ≤ most_loops → T (named t d) → weight t d ≤ most_weight → T (fits v t) → Ranged v t
  in-range t d l n a w h =
      let b : bound t ≤ most_weight = le_trans (bound-weight t d n a) w in
      record {
        few = few-list-pairs v t d n a w;
        near = le_trans (list-made v t).reach (le_trans (place-most v ranged t l) (mul-le-mul_right most_count b));
        members = list-most v t h;
        sums = λ m q i. le_trans (group-most m most_time (list v t) (list-most v t h) i) (mul-le-mul_right most_time q);
      }
