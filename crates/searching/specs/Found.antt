-- What a step tells the next search: where no rule fits, and what of the table stays.
use Rattle.std.specs.Prelude.{◌≡◌, List, ◌++◌, ℕ, ◌+◌, ◌*◌, ◌-◌, ◌<◌, ◌≤◌, drop, Some, None}
use Rattle.std.specs.declared.option.Option.{Option as Maybe}
use Rattle.std.proofs.Math.Option.{none}
use Rattle.table.specs.Numbers.{record_length}
use Rattle.table.specs.Table.{encode, record_count}
use Rattle.table.specs.Trees.{Tree, node, records}
use Rattle.writing.specs.Records.{front}
use Rattle.simplify.specs.Steps.{rule}
use Rattle.subtrees.specs.Parts.{subtree}
use Rattle.subtrees.specs.Facts.{extent_at}
use Rattle.subtrees.specs.declared.Facts.{Facts}
use Rattle.searching.specs.declared.Spot.{Spot}

-- no rule fits a tree at its top
unfoldable pub NoRule : Tree → Type 0
NoRule (node n f) = rule n f ≡ none

-- no rule fits at a record whose subtree ends at record `at` or before: so it is where a step changed the table from there on
abbrev pub Settled : List ℕ → List Facts → ℕ → Type 0
Settled b facts at = (j : ℕ) → j < record_count b → j + extent_at facts j ≤ at → NoRule (subtree b j)

-- no rule fits before record i
abbrev pub Quiet : List ℕ → ℕ → Type 0
Quiet b i = (j : ℕ) → j < i → NoRule (subtree b j)

-- a step at record `at`, before which no rule fits: the first n records of a buffer are a tree in the place of the one there, and then those from record
-- `end` on
pub record Placed (b : List ℕ) (at end n : ℕ) (out : List ℕ) : Type 0 where
  pub quiet : Quiet b at
  pub inside : at < record_count b
  pub tree : Tree
  pub count : n ≡ records tree + (record_count b - end)
  pub bytes : front n out ≡ encode tree ++ drop (record_length * end) b

-- a search's answer: such a step, where there is one
abbrev pub Found : List ℕ → List Facts → Maybe Spot → (out : List ℕ) → Type 0
Found b facts None out = Unit {0}
Found b facts (Some s) out = Placed b s.at (s.at + extent_at facts s.at) s.len out
