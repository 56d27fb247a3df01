-- The tree of a table: a node with its forest of children. How many children it has is the forest's size.
use Rattle.std.specs.Prelude.{Bool, true, ℕ, suc, ◌+◌}
use Rattle.booleans.specs.Tests.{◌and◌}
use Rattle.table.specs.Nodes.{Node, Kind, Block, Sequence, Choice, Loop}

mutual
  pub data Tree : Type 0 where
    node : Node → Forest → Tree

  pub data Forest : Type 0 where
    nil : Forest
    ◌▸◌ : Tree → Forest → Forest

infixr 50 ◌▸◌
infixr 50 ◌⧺◌
unfoldable pub ◌⧺◌ : Forest → Forest → Forest
nil ⧺ g = g
(t ▸ f) ⧺ g = t ▸ (f ⧺ g)

unfoldable pub size : Forest → ℕ
size nil = 0
size (t ▸ f) = suc (size f)

-- A loop's first child, its body, is treated in its own way; what follows it, the exit, as in a sequence.
-- So what is said of children is said of the first, and of the rest as children of a node of this kind.
unfoldable pub rest : Kind → Kind
rest (Block t) = Sequence
rest Sequence = Sequence
rest Choice = Choice
rest (Loop n) = Sequence

-- the number of loops around the first child, with d around the node: a loop is around its body alone
unfoldable pub around : Kind → ℕ → ℕ
around (Block t) d = d
around Sequence d = d
around Choice d = d
around (Loop n) d = suc d

unfoldable mutual
  pub records : Tree → ℕ
  records (node n f) = suc (records_in f)

  pub records_in : Forest → ℕ
  records_in nil = 0
  records_in (t ▸ f) = records t + records_in f

-- the tree with address 0 at every node: what is left of it without its addresses
unfoldable mutual
  pub unaddressed : Tree → Tree
  unaddressed (node n f) = node (record { kind = n.kind; limit = n.limit; address = 0 }) (unaddressed_in f)

  pub unaddressed_in : Forest → Forest
  unaddressed_in nil = nil
  unaddressed_in (t ▸ f) = unaddressed t ▸ unaddressed_in f

-- a test of every node
unfoldable mutual
  pub every_node : (Node → Bool) → Tree → Bool
  every_node p (node n f) = p n and every_node_in p f

  pub every_node_in : (Node → Bool) → Forest → Bool
  every_node_in p nil = true
  every_node_in p (t ▸ f) = every_node p t and every_node_in p f
