-- Rules as rewrites of a table's bytes from a node's record on, into a second buffer.
use Rattle.std.specs.Prelude.{◌≡◌, List, ℕ, Some, None}
use Rattle.std.specs.declared.option.Option.{Option as Maybe}
use Rattle.std.proofs.Math.Option.{Option, none, some}
use Rattle.table.specs.Table.{encodes}
use Rattle.table.specs.Trees.{Forest, Tree, nil, node, ◌▸◌, records_in}
use Rattle.writing.specs.Records.{front}
use Rattle.simplify.specs.Steps.{also}
use Rattle.table.specs.declared.Node.{Node}

-- a rule at the first tree of a row: what the row becomes, where the rule fits
unfoldable pub rule_at : (Node → Forest → Option Tree) → Forest → Option Forest
rule_at rule nil = none
rule_at rule (node n f ▸ g) = also (λ t. t ▸ g) (rule n f)

-- r records were written to the front of a buffer: the row of trees; or there is neither a row nor a number of records
unfoldable pub Wrote : Option Forest → Maybe ℕ → List ℕ → Type 0
Wrote none None out = Unit {0}
Wrote none (Some r) out = ⊥
Wrote (some g) None out = ⊥
Wrote (some g) (Some r) out = (r ≡ records_in g) × (front r out ≡ encodes g)
