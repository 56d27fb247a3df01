-- The subtrees of a table, each read as the part of the table that starts at its record.
use Rattle.std.specs.Prelude.{List, ℕ, ◌-◌, ◌*◌, T, drop}
use Rattle.table.specs.Numbers.{record_length}
use Rattle.table.specs.Table.{decode, forest, record_count, top}
use Rattle.table.specs.Trees.{Forest, Tree}
use Rattle.table.specs.Checking.{IsTable}
use Rattle.evaluate.specs.Evaluate.{fits, zeros}

-- the trees that b's records from record i on write: the subtree at that record, and then those that stand after it
unfoldable pub trees_at : List ℕ → ℕ → Forest
trees_at b i = forest (record_count b - i) (drop (record_length * i) b)

unfoldable pub subtree : List ℕ → ℕ → Tree
subtree b i = top (trees_at b i)

-- a table that simplifying works on: question 10 says yes with every value 0
pub record Simplifiable (b : List ℕ) : Type 0 where
  pub table : IsTable b
  pub fits : T (fits zeros (decode b))
