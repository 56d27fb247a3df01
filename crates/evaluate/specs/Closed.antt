-- Document 01, "Simplification": closed and symbol-free subtrees. They stand here because a closed tree's list is a constant.
use Rattle.std.specs.Prelude.{Bool, true, false, not, ℕ, leb, ltb}
use Rattle.evaluate.specs.Nodes.{Limit, Unlimited, AtMost, Kind, Most, Number, Plain, Symbol, Block, Sequence, Choice, Loop}
use Rattle.booleans.specs.Tests.{◌and◌}
use Rattle.table.specs.Numbers.{whole_run}
use Rattle.table.specs.Questions.{paired_block}
use Rattle.table.specs.Trees.{Tree, node, Forest, nil, ◌▸◌, rest, around}

-- a limit names one of the d nearest loops
unfoldable pub stays : Limit → ℕ → Bool
stays Unlimited d = true
stays (AtMost k m) d = leb 1 k and leb k d and ltb k whole_run

-- No limit names the whole run or a loop outside the subtree, its own top included: closed t 0.
-- And no block has a paired symbol: its first pass in the run costs more, so it stands as a limit on the whole run does.
-- The d nearest loops around it may be named too: closed t 1, of a loop's body, sets limits that name that loop aside.
unfoldable mutual
  pub closed : Tree → ℕ → Bool
  closed (node n f) d = stays n.limit d and not (paired_block n.kind) and closed_in n.kind f d

  pub closed_in : Kind → Forest → ℕ → Bool
  closed_in k nil d = true
  closed_in k (t ▸ f) d = closed t (around k d) and closed_in (rest k) f d

unfoldable pub is_plain : Number → Bool
is_plain (Plain n) = true
is_plain (Symbol s) = false

unfoldable pub plain_kind : Kind → Bool
plain_kind (Block t) = is_plain t
plain_kind Sequence = true
plain_kind Choice = true
plain_kind (Loop n) = is_plain n

unfoldable pub plain_most : Most → Bool
plain_most (Most.Plain n) = true
plain_most (Most.Symbol s) = false
plain_most (Most.Triangular s) = false

unfoldable pub plain_limit : Limit → Bool
plain_limit Unlimited = true
plain_limit (AtMost k m) = plain_most m

-- neither the top, its limit included, nor anything below has a symbol
unfoldable mutual
  pub symbol_free : Tree → Bool
  symbol_free (node n f) = plain_kind n.kind and plain_limit n.limit and symbol_free_in f

  pub symbol_free_in : Forest → Bool
  symbol_free_in nil = true
  symbol_free_in (t ▸ f) = symbol_free t and symbol_free_in f

unfoldable pub is_unlimited : Limit → Bool
is_unlimited Unlimited = true
is_unlimited (AtMost k m) = false
