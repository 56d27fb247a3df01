-- From where a tree's list is constant, and how far that is at most.
use Rattle.std.specs.Prelude.{cond, ℕ, ◌+◌, ◌*◌, ◌≤◌, ◌<◌, leb, T}
use Rattle.std.proofs.Common.{arith}
use Rattle.evaluate.specs.Nodes.{Kind, Limit, Unlimited, AtMost}
use Rattle.booleans.specs.Laws.{by-conds, both}
use Rattle.table.specs.Numbers.{most_count, first_time_symbol}
use Rattle.table.specs.Trees.{Tree, node, Forest, nil, ◌▸◌, rest}
use Rattle.table.specs.Questions.{limit_in_range, listed, listed_in, paired_block}
use Rattle.lists.specs.Streams.{Stream}
use Rattle.lists.specs.Laws.Sums.{Falls}
use Rattle.lists.specs.Laws.Settled.{Settled, add-settled, merge-settled, const-settled, group-settled, cap-settled}
use Rattle.evaluate.specs.Evaluate.{join, rounds, Values, amount, limit, turns, name, list, before, allowed}
use Rattle.evaluate.specs.ListPairs.{place_of, turned, place, place_in}
use Rattle.evaluate.proofs.Laws.Amounts.{allowed-most}
use Rattle.evaluate.proofs.Laws.Times.{once-settled}
use Rattle.evaluate.proofs.Laws.Monotone.{list-falls, before_falls, turns-falls}
use Rattle.evaluate.proofs.Laws.PairCount.{own, bound, bound_in}
use Rattle.evaluate.proofs.Laws.Kinds.{grouped, by-join, by-start, by_first}

join-settled : (k : Kind) (p q : ℕ) (f g : Stream) → Falls f → Falls g → Settled p f → Settled q g → Settled (p + q) (join k f g)
join-settled k p q f g hf hg a b = by-join (λ j. Settled (p + q) (j f g)) k (add-settled p q f g a b) (merge-settled p q f g hf hg a b)

rounds-settled : (k n p : ℕ) (f : Stream) → Settled p f → Settled (cond (leb k 1) 0 p) (rounds k n f)
unfolding rounds
rounds-settled k n p f a =
    by-conds (λ u g. Settled u g) (leb k 1) _ _ _ _ (λ e. const-settled _ _) (λ e. group-settled p n f a)

-- ---- trees

limit-settled : (v : Values) (l : Limit) (p : ℕ) (f : Stream) → Settled p f → Settled (place_of v l p) (limit v l f)
unfolding place_of limit
limit-settled v Unlimited p f a i q = a i q
limit-settled v (AtMost k m) p f a i q = cap-settled (allowed v m) (allowed v m) f (omega arith) i q

turns-settled : (v : Values) (k : Kind) (n p : ℕ) (f : Stream) → Settled p f → Settled (turned k n p) (turns v k n f)
unfolding turns turned
turns-settled v k n p f a = by_first (λ q. Settled (q.turned n p) (q.turns v n f)) k a (λ m e. rounds-settled n (amount v m) p f a)

mutual
  unfolding place list

  pub list-settled : (v : Values) (t : Tree) → Settled (place v t) (list v t)
  list-settled v (node n f) = limit-settled v n.limit _ _ (before-settled v n.kind f)

  pub before-settled : (v : Values) (k : Kind) (f : Forest) → Settled (place_in v k f) (before v k f)
  before-settled v k nil = by-start (λ b f. Settled (cond b 1 0) f) v k (λ x. const-settled x 0) (λ x y l. once-settled x y)
  before-settled v k (t ▸ f) =
      join-settled k _ _ _ _ (turns-falls v k (name t) _ (list-falls v t)) (before_falls v (rest k) f)
      (turns-settled v k (name t) _ _ (list-settled v t)) (before-settled v (rest k) f)

-- ---- with limits at most their ceiling, no place is past that many for each fall that `bound` counts

module _ (v : Values) (ranged : (k : ℕ) → k < first_time_symbol → v k ≤ most_count) where
  own-most : (l : Limit) (w p : ℕ) → T (limit_in_range l) → p ≤ w * most_count → place_of v l p ≤ own l w * most_count
  unfolding own place_of limit_in_range
  own-most Unlimited w p h l = l
  own-most (AtMost k m) w p h l = omega (arith, allowed-most v ranged m (both _ _ h).1)

  turned-most : (k : Kind) (n w p : ℕ) → p ≤ w * most_count → turned k n p ≤ grouped k n w * most_count
  unfolding turned grouped
  turned-most k n w p l =
      by_first (λ q. q.turned n p ≤ q.grouped n w * most_count) k l (λ m e. by-conds (λ x y. x ≤ y * most_count) (leb n 1) _ _ _ _ (λ o. omega arith) (λ o. omega arith))

  mutual
    unfolding place bound listed

    pub place-most : (t : Tree) → T (listed t) → place v t ≤ bound t * most_count
    place-most (node n f) h =
        let (p, q) = both _ _ h in
        own-most n.limit _ _ (both _ _ (both _ _ p).0).1 (place_in-most n.kind f q)

    pub place_in-most : (k : Kind) (f : Forest) → T (listed_in f) → place_in v k f ≤ bound_in k f * most_count
    place_in-most k nil h = by-conds (λ x y. x ≤ y * most_count) (paired_block k) _ _ _ _ (λ e. omega arith) (λ e. omega arith)
    place_in-most k (t ▸ f) h =
        let (a, b) = both _ _ h in
        omega (arith, turned-most k (name t) (bound t) (place v t) (place-most t a), place_in-most (rest k) f b)
