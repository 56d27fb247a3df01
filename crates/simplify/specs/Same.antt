-- Two trees with the same bytes but for their addresses.
use Rattle.std.specs.Prelude.{Bool, false, true, eqb}
use Rattle.simplify.specs.Nodes.{Number, Plain, Symbol, Most, Limit, Unlimited, AtMost, Kind, Block, Sequence, Choice, Loop}
use Rattle.booleans.specs.Tests.{◌and◌}
use Rattle.table.specs.Table.{most_field, most_flags}
use Rattle.table.specs.Trees.{Tree, node, Forest, nil, ◌▸◌}

unfoldable pub same_number : Number → Number → Bool
same_number (Plain m) (Plain n) = eqb m n
same_number (Plain m) (Symbol n) = false
same_number (Symbol m) (Plain n) = false
same_number (Symbol m) (Symbol n) = eqb m n

unfoldable pub same_most : Most → Most → Bool
same_most m n = eqb (most_flags m) (most_flags n) and eqb (most_field m) (most_field n)

unfoldable pub same_limit : Limit → Limit → Bool
same_limit Unlimited Unlimited = true
same_limit Unlimited (AtMost j n) = false
same_limit (AtMost k m) Unlimited = false
same_limit (AtMost k m) (AtMost j n) = eqb k j and same_most m n

unfoldable pub same_kind : Kind → Kind → Bool
same_kind (Block m) (Block n) = same_number m n
same_kind (Block m) Sequence = false
same_kind (Block m) Choice = false
same_kind (Block m) (Loop n) = false
same_kind Sequence (Block n) = false
same_kind Sequence Sequence = true
same_kind Sequence Choice = false
same_kind Sequence (Loop n) = false
same_kind Choice (Block n) = false
same_kind Choice Sequence = false
same_kind Choice Choice = true
same_kind Choice (Loop n) = false
same_kind (Loop m) (Block n) = false
same_kind (Loop m) Sequence = false
same_kind (Loop m) Choice = false
same_kind (Loop m) (Loop n) = same_number m n

-- two trees with the same bytes but for the address at every record
unfoldable mutual
  pub same : Tree → Tree → Bool
  same (node n f) (node m g) = same_kind n.kind m.kind and same_limit n.limit m.limit and same_in f g

  pub same_in : Forest → Forest → Bool
  same_in nil nil = true
  same_in nil (u ▸ g) = false
  same_in (t ▸ f) nil = false
  same_in (t ▸ f) (u ▸ g) = same t u and same_in f g
