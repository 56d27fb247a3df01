-- A test of every limit of a tree, by the loop that a limit names and its number.
use Rattle.std.specs.Prelude.{Bool, true, ℕ}
use Rattle.table.specs.Nodes.{Most, Limit, Unlimited, AtMost}
use Rattle.table.specs.Trees.{Tree, Forest, every_node, every_node_in}

unfoldable pub limit_holds : (ℕ → Most → Bool) → Limit → Bool
limit_holds p Unlimited = true
limit_holds p (AtMost k m) = p k m

abbrev pub every_limit : (ℕ → Most → Bool) → Tree → Bool
every_limit p t = every_node (λ n. limit_holds p n.limit) t

abbrev pub every_limit_in : (ℕ → Most → Bool) → Forest → Bool
every_limit_in p f = every_node_in (λ n. limit_holds p n.limit) f

-- ---- a test of the number alone, whatever loop the limit names

abbrev pub most_holds : (Most → Bool) → Limit → Bool
most_holds q l = limit_holds (λ k m. q m) l

abbrev pub every_most : (Most → Bool) → Tree → Bool
every_most q t = every_limit (λ k m. q m) t
