-- A step as an edit of a table's bytes: what stands before a record stays, and the rest is written anew.
use Rattle.std.specs.Prelude.{◌≡◌, List, ◌++◌, ℕ, ◌+◌, ◌<◌, ◌≤◌, Some, None}
use Rattle.std.specs.declared.option.Option.{Option as Maybe}
use Rattle.std.proofs.Math.Option.{Option, none, some}
use Rattle.table.specs.Table.{encodes, record_count}
use Rattle.table.specs.Trees.{Forest, Tree, records_in}
use Rattle.table.specs.declared.Node.{Node}
use Rattle.searching.specs.declared.Spot.{Spot}
use Rattle.writing.specs.Records.{front}
use Rattle.simplify.specs.Rules.{rule5, rule6, rule7, rule8, rule9}
use Rattle.simplify.specs.Steps.{or_else}

-- From a spot's record on, b becomes the records at the front of a buffer, and then is the table of these trees; or there is neither a spot nor trees.
unfoldable pub Rewritten : Option Forest → List ℕ → Maybe Spot → (out : List ℕ) → Type 0
Rewritten none b None out = Unit {0}
Rewritten none b (Some s) out = ⊥
Rewritten (some g) b None out = ⊥
Rewritten (some g) b (Some s) out = (0 < s.len) × (s.at + s.len ≡ records_in g) × (s.at ≤ record_count b) × (front s.at b ++ front s.len out ≡ encodes g)

-- rules 5 to 9 at a node
unfoldable pub later_rule : Node → Forest → Option Tree
later_rule n f = or_else (rule5 n f) (or_else (rule6 n f) (or_else (rule7 n f) (or_else (rule8 n f) (rule9 n f))))
