-- The value that rule 4 puts in a node's place.
use Rattle.std.specs.Prelude.{Bool, true, ℕ}
use Rattle.table.specs.Trees.{Forest, nil, node, ◌▸◌}
use Rattle.evaluate.specs.Evaluate.{before, zeros}
use Rattle.simplify.specs.Rules.{is_block}

-- of the first tree of a row: whether it is a block, and its first member before its own limit, with every value 0
unfoldable pub block_at : Forest → Bool
block_at nil = true
block_at (node n f ▸ g) = is_block n.kind

unfoldable pub before_at : Forest → ℕ
before_at nil = 0
before_at (node n f ▸ g) = before zeros n.kind f 0
