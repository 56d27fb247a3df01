-- A test of each record's node is a test of every node of the table's tree.
use Rattle.std.specs.Prelude.{◌≡◌, Bool, List, drop}
use Rattle.std.proofs.Math.Path.{refl, sym, ap}
use Rattle.std.proofs.Common.{◌∙◌}
use Prim.Native.Nat.{ℕ, zero, suc}
use Rattle.booleans.specs.Tests.{◌and◌}
use Rattle.booleans.specs.Laws.{and_assoc, and-true}
use Rattle.table.specs.Nodes.{Node}
use Rattle.table.specs.Numbers.{record_length}
use Rattle.table.specs.Trees.{Forest, nil, ◌▸◌, every_node, every_node_in}
use Rattle.table.specs.Table.{first_node, child_byte, first_ones, after_ones, forest, forest_by, each, each_by, decode, record_count}
use Rattle.table.specs.Checking.{IsTable}
use Rattle.table.proofs.Laws.RoundTrip.{whole-forest}
use Rattle.table.proofs.Laws.NotRefused.{tree-writes}

module _ (p : Node → Bool) where
  split-nodes : (n : ℕ) (f : Forest) → (every_node_in p (first_ones n f) and every_node_in p (after_ones n f)) ≡ every_node_in p f
  unfolding first_ones after_ones every_node ◌and◌
  split-nodes zero f = refl
  split-nodes (suc n) nil = refl
  split-nodes (suc n) (t ▸ f) = and_assoc (every_node p t) _ _ ∙ ap (λ x. every_node p t and x) (split-nodes n f)

  -- with records of any length, and any reading of a record
  pub forest-nodes : (long : ℕ) (read : List ℕ → Node) (n : ℕ) (b : List ℕ) → each_by long (λ r. p (read r)) n b ≡ every_node_in p (forest_by long read n b)
  unfolding each_by forest_by every_node
  forest-nodes long read zero b = refl
  forest-nodes long read (suc n) b =
      let f = forest_by long read n (drop long b) in
      ap (λ x. p (read b) and x) (forest-nodes long read n (drop long b) ∙ sym (split-nodes (child_byte b) f)) ∙ sym (and_assoc (p (read b)) _ _)

  pub table-nodes : (b : List ℕ) → IsTable b → each (λ r. p (first_node r)) (record_count b) b ≡ every_node p (decode b)
  unfolding every_node
  table-nodes b i =
      let whole = ap (λ x. forest (record_count x) x) (sym i.back) ∙ whole-forest (decode b) (tree-writes (decode b) i.accepted.listed) in
      forest-nodes record_length first_node (record_count b) b ∙ ap (every_node_in p) whole ∙ and-true (every_node p (decode b))
