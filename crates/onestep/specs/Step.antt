-- A step on a table's bytes.
use Rattle.std.specs.Prelude.{List, ◌++◌, ℕ}
use Rattle.std.proofs.Math.Option.{Option}
use Rattle.table.specs.Trees.{Forest, Tree, nil, ◌▸◌}
use Rattle.writing.specs.Records.{front}
use Rattle.simplify.specs.Steps.{also, step}
use Rattle.searching.specs.declared.Spot.{Spot}

-- a step of a table's tree, as a row of trees
unfoldable pub stepped : Tree → Option Forest
stepped t = also (λ u. u ▸ nil) (step t)

-- the table's bytes after the step at a spot, from whose record on it is written at the front of a buffer
abbrev pub edited : List ℕ → Spot → List ℕ → List ℕ
edited b spot out = front spot.at b ++ front spot.len out
