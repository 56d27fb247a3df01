-- What rules make of a node's children: the first that passes a test gives way to its own, or the only one takes a limit.
use Rattle.std.specs.Prelude.{◌≡◌, Bool, cond, List, ◌++◌, ℕ, ◌+◌, ◌-◌}
use Rattle.std.proofs.Math.Option.{Option, none, some}
use Rattle.table.specs.Table.{record_count}
use Rattle.table.specs.Trees.{Forest, Tree, nil, ◌▸◌, ◌⧺◌}
use Rattle.evaluate.specs.Closed.{is_unlimited}
use Rattle.simplify.specs.Rules.{children, limit_of, relimit}
use Rattle.rules2to7.specs.Nodes.{Limit}
use Rattle.writing.specs.Records.{front, slice}

-- the first that passes gives way to its children
unfoldable pub dissolve : (Tree → Bool) → Forest → Forest
dissolve p nil = nil
dissolve p (t ▸ f) = cond (p t) (children t ⧺ f) (t ▸ dissolve p f)

-- the first tree of a row takes a limit, where it has none
unfoldable pub relimited : Limit → Forest → Option Forest
relimited l nil = none
relimited l (t ▸ g) = cond (is_unlimited (limit_of t)) (some (relimit l t ▸ g)) none

-- r records at the front of a buffer: a new record for record i of a table, and the table's others from there on without record p
pub record Left (b : List ℕ) (i p : ℕ) (top : List ℕ) (r : ℕ) (out : List ℕ) : Type 0 where
  pub many : r ≡ record_count b - (i + 1)
  pub is : front r out ≡ top ++ slice b (i + 1) (p - (i + 1)) ++ slice b (p + 1) (record_count b - (p + 1))
