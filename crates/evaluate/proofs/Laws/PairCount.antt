-- Question 7 keeps a list to 256 pairs: how often a tree's list falls, and what bounds that.
use Rattle.std.specs.Prelude.{cond, ℕ, suc, ◌*◌, ◌+◌, leb}
use Rattle.std.proofs.Common.{arith}
use Rattle.booleans.specs.Laws.{by-conds}
use Rattle.table.specs.Questions.{paired_block}
use Rattle.table.specs.Trees.{Tree, node, Forest, nil, ◌▸◌, rest}
use Rattle.lists.specs.Streams.{Stream, taken}
use Rattle.lists.specs.Laws.Falls.{Few, add-few, merge-few, const-few, group-few, cap-few}
use Rattle.lists.specs.Laws.Sums.{Falls}
use Rattle.evaluate.specs.Nodes.{Limit, Unlimited, AtMost, Kind}
use Rattle.evaluate.specs.Evaluate.{name, join, rounds, Values, amount, turns, limit, list, before, allowed}
use Rattle.evaluate.proofs.Laws.Times.{once-few}
use Rattle.evaluate.proofs.Laws.Monotone.{list-falls}
use Rattle.evaluate.proofs.Laws.Kinds.{grouped, by-join, by-start, by_first}

-- a bound on how often a tree's list falls, at all values: each limit and each paired block is one fall, and a group sees each fall at most twice
unfoldable pub own : Limit → ℕ → ℕ
own Unlimited w = w
own (AtMost k m) w = suc w

unfoldable mutual
  pub bound : Tree → ℕ
  bound (node n f) = own n.limit (bound_in n.kind f)

  pub bound_in : Kind → Forest → ℕ
  bound_in k nil = cond (paired_block k) 1 0
  bound_in k (t ▸ f) = grouped k (name t) (bound t) + bound_in (rest k) f

join-few : (k : Kind) (w u : ℕ) (f g : Stream) → Few w f → Few u g → Few (w + u) (join k f g)
join-few k w u f g a b =
    by-join (λ j. Few (w + u) (j f g)) k (λ P. omega (arith, add-few f g P, a P, b P)) (λ P. omega (arith, merge-few f g P, a (taken f g P).0, b (taken f g P).1))

rounds-few : (k n w : ℕ) (f : Stream) → Falls f → Few w f → Few (cond (leb k 1) 0 (2 * w)) (rounds k n f)
unfolding rounds
rounds-few k n w f h a =
    by-conds (λ u g. Few u g) (leb k 1) _ _ _ _ (λ e. const-few _) (λ e P. omega (arith, group-few n f h P, a (n * P), a (n * suc P)))

turns-few : (v : Values) (k : Kind) (n w : ℕ) (f : Stream) → Falls f → Few w f → Few (grouped k n w) (turns v k n f)
unfolding turns grouped
turns-few v k n w f h a = by_first (λ q. Few (q.grouped n w) (q.turns v n f)) k a (λ m e. rounds-few n (amount v m) w f h a)

limit-few : (v : Values) (l : Limit) (w : ℕ) (f : Stream) → Few w f → Few (own l w) (limit v l f)
unfolding own limit
limit-few v Unlimited w f a P = a P
limit-few v (AtMost k m) w f a P = omega (arith, (cap-few (allowed v m) f P).1, a P)

mutual
  unfolding bound list

  -- a list falls at most `bound` times
  pub list-few : (v : Values) (t : Tree) → Few (bound t) (list v t)
  list-few v (node n f) = limit-few v n.limit _ _ (before-few v n.kind f)

  pub before-few : (v : Values) (k : Kind) (f : Forest) → Few (bound_in k f) (before v k f)
  before-few v k nil = by-start (λ b f. Few (cond b 1 0) f) v k const-few (λ x y l. once-few x y)
  before-few v k (t ▸ f) = join-few k _ _ _ _ (turns-few v k (name t) _ _ (list-falls v t) (list-few v t)) (before-few v (rest k) f)
