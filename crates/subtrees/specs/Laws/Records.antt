-- The node of a record, read.
use Rattle.std.specs.Prelude.{◌≡◌, List, ℕ, ◌*◌, drop}
use Rattle.table.specs.Numbers.{record_length}
use Rattle.table.specs.Table.{child_byte, first_node}
use Rattle.table.specs.Trees.{node, size}
use Rattle.table.proofs.Laws.NotRefused.{tree-writes}
use Rattle.table.proofs.Laws.RoundTrip.{Writes, WritesNode, children-bytes, head_bytes}
use Rattle.subtrees.specs.Laws.Parts.{Here}

module _ (b : List ℕ) (i : ℕ) (h : Here b i) where
  pub own-writes : WritesNode h.own
  unfolding Writes
  own-writes = (tree-writes (node h.own h.kids) h.sound.fair.listed).0

  pub node_at : first_node (drop (record_length * i) b) ≡ h.own
  node_at = rw h.bytes (head_bytes h.own (size h.kids) _ own-writes)

  pub count_at : child_byte (drop (record_length * i) b) ≡ size h.kids
  count_at = rw h.bytes (children-bytes h.own (size h.kids) _)
