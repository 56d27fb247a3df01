-- Demand 2: what a figure promises of the runs of the table's tree under the values it was quoted for.
use Rattle.std.specs.Prelude.{◌≡◌, Bool, true, List, ℕ, ◌+◌, ◌*◌, ◌≤◌, suc, T, eqb, take}
use Rattle.refusals.specs.Refusals.{Answer, given, refused}
use Rattle.table.specs.Limits.{every_most}
use Rattle.table.specs.Numbers.{later_place}
use Rattle.table.specs.Questions.{paired_symbol}
use Rattle.table.specs.Trees.{Tree}
use Rattle.table.specs.Table.{decode}
use Rattle.table.specs.declared.Most.{Most}
use Rattle.table.specs.declared.Number.TheVariants.{Symbol}
use Rattle.triangular.specs.Triangular.{rule}
use Rattle.evaluate.specs.Evaluate.{Values, allowed, later, list, values_of}
use Rattle.runs.specs.Runs.{Pass, Run, Costs, cost, limit_free}
use Rattle.lists.specs.Pairs.{ArePairs, Pairs, numbers, width}
use Rattle.quoting.specs.declared.Quote.{Quote}
use Rattle.quoting.specs.Answers.{figure_answer, quoted_figure}
use Rattle.values.specs.Values.{NoneLower}

-- a limit under flag 4 is the triangular number of its symbol's value itself, and not of a smaller one
unfoldable pub by_rule : Values → Most → Bool
by_rule v (Most.Plain n) = true
by_rule v (Most.Symbol s) = true
by_rule v (Most.Triangular s) = eqb (allowed v (Most.Triangular s)) (rule (v s))

pub record Promised (v : Values) (t : Tree) (x : ℕ) : Type 0 where
  -- no admitted run costs more
  pub covered : (r : Pass t) → Run v t r → cost v t r ≤ x
  -- with no limits in the table, some admitted run costs exactly that
  pub reached : T (limit_free t) → Costs v t x
  -- each limit under flag 4 comes to document 02's number
  pub ruled : T (every_most (by_rule v) t)
  -- the later passes of a block with a paired symbol cost the later value itself, and not a lower one
  pub laters : (s : ℕ) → T (paired_symbol s) → later v (Symbol s) ≡ v (s + later_place)

-- an answer that is no refusal promises this of its figure
unfoldable pub Promises : (table values : List ℕ) → Answer Quote → Type 0
Promises b vs q = refused q ≡ 0 → Promised (values_of vs) (decode b) (quoted_figure q)

-- Raising values never lowers a quote of x for the values v: values none lower that get a figure too get one that is not below it.
unfoldable pub NeverLowered : (table v : List ℕ) (x : ℕ) → Type 0
NeverLowered b v x = (w : List ℕ) → NoneLower v w → refused (figure_answer b w) ≡ 0 → x ≤ quoted_figure (figure_answer b w)

-- What the list call promises: it wrote the pairs of the tree's list, values strictly falling and the last count 0, for ever, and answers how many.
pub record Listing (v : Values) (t : Tree) (count : ℕ) (buffer : List ℕ) : Type 0 where
  pub pairs : Pairs
  pub are : ArePairs (list v t) pairs
  pub many : count ≡ suc (width pairs)
  pub written : take (2 * count) buffer ≡ numbers pairs

unfoldable pub ListPromises : (table values : List ℕ) → Answer ℕ → (buffer : List ℕ) → Type 0
ListPromises b vs r buffer = refused r ≡ 0 → Listing (values_of vs) (decode b) (given r) buffer
