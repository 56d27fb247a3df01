-- Facts of a subtree that rules ask for, and how the program keeps those of every record.
use Rattle.std.specs.Prelude.{◌≡◌, Bool, cond, false, true, ◌&&◌, List, ℕ, ◌+◌, ◌-◌, ◌<◌, ◌≤◌, max, min, eqb, leb, get_or, length}
use Rattle.table.specs.Numbers.{whole_run}
use Rattle.table.specs.Questions.{paired_block}
use Rattle.table.specs.Table.{loop_byte, record_count}
use Rattle.table.specs.Trees.{Forest, Tree, nil, node, ◌▸◌, records, records_in, rest}
use Rattle.evaluate.specs.Closed.{symbol_free, symbol_free_in}
use Rattle.evaluate.specs.Evaluate.{name, name_in, outward}
use Rattle.subtrees.specs.Nodes.{Block, Choice, Kind, Loop, Sequence}
use Rattle.table.specs.Checking.{IsTable}
use Rattle.subtrees.specs.Parts.{subtree}
use Rattle.subtrees.specs.declared.Below.{Below}
use Rattle.subtrees.specs.declared.Facts.{Facts}

-- ---- the outermost loop that a limit names: 0 where there is none, 1 and on the loops around the node, counted outward, 255 the whole run

-- counted from outside a loop: that very loop is then none
unfoldable pub outer : ℕ → ℕ
outer k = cond (leb whole_run k) whole_run (k - 1)

unfoldable pub passed : Kind → ℕ → ℕ
passed (Block t) k = k
passed Sequence k = k
passed Choice k = k
passed (Loop n) k = outer k

-- a block of a paired symbol stands as a limit on the whole run does
unfoldable pub paired_reach : Kind → ℕ
paired_reach k = cond (paired_block k) whole_run 0

unfoldable mutual
  pub reach : Tree → ℕ
  reach (node n f) = max (max (loop_byte n.limit) (paired_reach n.kind)) (reach_in n.kind f)

  pub reach_in : Kind → Forest → ℕ
  reach_in k nil = 0
  reach_in k (t ▸ f) = max (passed k (reach t)) (reach_in (rest k) f)

-- without its top's own limit and time
unfoldable pub reach_below : Tree → ℕ
reach_below (node n f) = reach_in n.kind f

-- 1 where there is a symbol, else 0
unfoldable pub symbols : Tree → ℕ
symbols t = cond (symbol_free t) 0 1

unfoldable pub symbols_in : Forest → ℕ
symbols_in f = cond (symbol_free_in f) 0 1

-- ---- what children come to

-- a loop sees its body, the first child, from outside
unfoldable pub is_loop : Kind → Bool
is_loop (Block t) = false
is_loop Sequence = false
is_loop Choice = false
is_loop (Loop n) = true

abbrev pub no_child : Below
no_child = record { records = 0; symbol_free = true; named = whole_run; reach = 0 }

abbrev pub below_of : Kind → Forest → Below
below_of k f = record { records = records_in f; symbol_free = symbol_free_in f; named = name_in k f; reach = reach_in k f }

-- the children of the first tree of a row
unfoldable pub below_at : Forest → Below
below_at nil = no_child
below_at (node n f ▸ g) = below_of n.kind f

-- the children so far, and the next one, by its facts; it is a loop's body or not
abbrev pub child_in : (body : Bool) → Below → Facts → Below
child_in body s c = record {
  records = s.records + c.records;
  symbol_free = s.symbol_free && c.symbol_free;
  named = min s.named (cond body (outward c.named) c.named);
  reach = max s.reach (cond body (outer c.reach) c.reach);
}

-- ---- the facts kept of every record

-- the loop that a limit names, 0 for none, and the one that the children name
abbrev pub limited_name : (name named : ℕ) → ℕ
limited_name l k = cond (eqb l 0) k (min l k)

-- a tree's own: how many records it has, whether it has no symbol, the loop that its list names, the outermost that a limit names, and that without its
-- own limit
abbrev pub facts_of : Tree → Facts
facts_of t = record { records = records t; symbol_free = symbol_free t; named = name t; reach = reach t; reach_below = reach_below t }

-- of record j, as they are kept, and how many records its subtree has by them
abbrev pub fact_at : List Facts → ℕ → Facts
fact_at facts j = get_or facts j (record { records = 0; symbol_free = false; named = 0; reach = 0; reach_below = 0 })

abbrev pub extent_at : List Facts → ℕ → ℕ
extent_at facts j = (fact_at facts j).records

-- at place k stand a tree's own facts
abbrev pub Own : Tree → List Facts → ℕ → Type 0
Own t facts k = fact_at facts k ≡ facts_of t

-- the facts say how many records each subtree has, whatever else they say
pub record Sized (b : List ℕ) (facts : List Facts) : Type 0 where
  pub table : IsTable b
  pub room : record_count b ≤ length facts
  pub each : (j : ℕ) → j < record_count b → extent_at facts j ≡ records (subtree b j)

-- each subtree's own facts
pub record Surveyed (b : List ℕ) (facts : List Facts) : Type 0 where
  pub table : IsTable b
  pub room : record_count b ≤ length facts
  pub each : (j : ℕ) → j < record_count b → Own (subtree b j) facts j

-- so far, from record i on
pub record Known (b : List ℕ) (facts : List Facts) (i : ℕ) : Type 0 where
  pub each : (j : ℕ) → i ≤ j → j < record_count b → Own (subtree b j) facts j

-- ---- the facts kept while a table changes

-- at place j of the one and place k of the other the same facts stand
abbrev pub SameFacts : (facts : List Facts) (j : ℕ) (facts' : List Facts) (k : ℕ) → Type 0
SameFacts facts j facts' k = fact_at facts' k ≡ fact_at facts j

-- before place i nothing changes
abbrev pub Unchanged : ℕ → (facts facts' : List Facts) → Type 0
Unchanged i facts facts' = (j : ℕ) → j < i → SameFacts facts j facts' j

-- n records' facts stand from place `to` on as they stood from place `from` on
abbrev pub Moved : (from to n : ℕ) (facts facts' : List Facts) → Type 0
Moved from to n facts facts' = (k : ℕ) → k < n → SameFacts facts (from + k) facts' (to + k)

-- so it is with each record before record i whose extent, as it stands there, ends at record `at` or before
abbrev pub OwnBefore : (b : List ℕ) (facts : List Facts) (at i : ℕ) → Type 0
OwnBefore b facts at i = (j : ℕ) → j < i → j + extent_at facts j ≤ at → Own (subtree b j) facts j

-- What is known of a table that changed from record `at` on, but for its last `rest` records: the facts of those stand from place `end` on, and before
-- `at` only those of the nodes around the change are others.
pub record Outdated (b : List ℕ) (facts : List Facts) (at end rest : ℕ) : Type 0 where
  pub changed : at + rest ≤ record_count b
  pub fewer : record_count b ≤ end + rest
  pub room : end + rest ≤ length facts
  pub behind : (k : ℕ) → k < rest → Own (subtree b (record_count b - rest + k)) facts (end + k)
  pub before : OwnBefore b facts at at
