-- Document 02, CR 8: what the written tables promise, said of the answers of checking, of the figure call and of opening.
use Rattle.std.specs.Prelude.{◌≡◌, List, ℕ, ◌≤◌, get_or, length, set, take}
use Rattle.refusals.specs.Refusals.{Answer, Given, given, refused}
use Rattle.table.specs.Table.{record_count}
use Rattle.values.specs.Values.{ceiling}
use Rattle.quoting.specs.Answers.{check_answer, figure_answer}
use Rattle.marking.specs.Marks.{mark_length}
use Rattle.fill.specs.Answers.{open_answer, open_writes}

pub record FillPromised (table : List ℕ) (symbol number : ℕ) (written marks : List ℕ) : Type 0 where
  -- checking accepts the written table, with as many records
  pub checked : check_answer written ≡ Given (record_count table)
  -- A filled table's figure is the open table's with that value: for all values, the symbol's own any in range, the figure call answers the same of both, in
  -- figure and branch and in refusals.
  pub figures : (values : List ℕ) → get_or values symbol 0 ≤ ceiling symbol → figure_answer written values ≡ figure_answer table (set values symbol number)
  -- opening with these marks, this symbol and number restores the exact table
  pub back : (out : List ℕ) → length table ≤ length out → (open_answer written marks symbol number out ≡ Given (length table)) × (open_writes written marks symbol number out ≡ table)

-- an answer that is no refusal promises this of the bytes it counts at the front of `out`, and of the 128 at the front of `marks`
unfoldable pub FillPromises : (table : List ℕ) (symbol number : ℕ) (out marks : List ℕ) → Answer ℕ → Type 0
FillPromises b s x out marks r = refused r ≡ 0 → FillPromised b s x (take (given r) out) (take mark_length marks)

pub record OpenPromised (table : List ℕ) (symbol number : ℕ) (written : List ℕ) : Type 0 where
  pub checked : check_answer written ≡ Given (record_count table)
  -- for all values with the symbol set to the number, the figure call answers the same of both
  pub figures : (values : List ℕ) → figure_answer written (set values symbol number) ≡ figure_answer table (set values symbol number)

unfoldable pub OpenPromises : (table : List ℕ) (symbol number : ℕ) (out : List ℕ) → Answer ℕ → Type 0
OpenPromises b s x out r = refused r ≡ 0 → OpenPromised b s x (take (given r) out)
