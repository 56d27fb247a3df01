-- Document 01, "Evaluation": the pairs of value and count that the list call writes.
use Rattle.std.specs.Prelude.{cond, ℕ, ◌+◌, leb}
use Rattle.evaluate.specs.Nodes.{Limit, Unlimited, AtMost, Kind, Block, Sequence, Choice, Loop}
use Rattle.table.specs.Questions.{paired_block}
use Rattle.table.specs.Trees.{Tree, node, Forest, nil, ◌▸◌, rest}
use Rattle.lists.specs.Pairs.{Pairs, pairs}
use Rattle.evaluate.specs.Evaluate.{Values, name, list, allowed}

-- a place from which a tree's list is constant: how far to look for pairs
unfoldable pub place_of : Values → Limit → ℕ → ℕ
place_of v Unlimited p = p
place_of v (AtMost k m) p = allowed v m

unfoldable pub turned : Kind → ℕ → ℕ → ℕ
turned (Block t) k p = p
turned Sequence k p = p
turned Choice k p = p
turned (Loop n) k p = cond (leb k 1) 0 p

unfoldable mutual
  pub place : Values → Tree → ℕ
  place v (node n f) = place_of v n.limit (place_in v n.kind f)

  pub place_in : Values → Kind → Forest → ℕ
  place_in v k nil = cond (paired_block k) 1 0
  place_in v k (t ▸ f) = turned k (name t) (place v t) + place_in v (rest k) f

-- the pairs of a tree's list
unfoldable pub list_pairs : Values → Tree → Pairs
list_pairs v t = pairs (list v t) (place v t)
