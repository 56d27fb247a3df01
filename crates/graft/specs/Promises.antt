-- Document 02, CR 1: what a written graft promises, said of the answers of checking and of the figure call.
use Rattle.std.specs.Prelude.{◌≡◌, false, List, ℕ, T, set, take}
use Rattle.refusals.specs.Refusals.{Answer, Given, given, refused}
use Rattle.table.specs.Table.{decode, record_count}
use Rattle.quoting.specs.Answers.{check_answer, figure_answer, quoted_figure}
use Rattle.splice.specs.Graft.{uses}

-- the figure call answers a figure
abbrev pub Quoted : (table values : List ℕ) → Type 0
Quoted b vs = refused (figure_answer b vs) ≡ 0

-- values with the symbol's set to the sent table's figure with these values
abbrev pub host_values : (sent : List ℕ) (symbol : ℕ) (values : List ℕ) → List ℕ
host_values b s vs = set vs s (quoted_figure (figure_answer b vs))

pub record GraftPromised (host sent : List ℕ) (symbol : ℕ) (written : List ℕ) : Type 0 where
  -- checking answers the written table's number of records
  pub checked : check_answer written ≡ Given (record_count written)
  -- a host that does not use the symbol is written as it is
  pub unused : uses symbol (decode host) ≡ false → written ≡ host
  -- the grafted figure equals the host's figure with the symbol set to the sent table's figure, wherever all three figures exist
  pub figures : (values : List ℕ) → Quoted sent values → Quoted host (host_values sent symbol values) → Quoted written values
      → quoted_figure (figure_answer written values) ≡ quoted_figure (figure_answer host (host_values sent symbol values))
  -- where the sent table has a figure, the other two answers are the same, in figure and branch and in refusals
  pub answers : (values : List ℕ) → Quoted sent values → figure_answer written values ≡ figure_answer host (host_values sent symbol values)
  -- and where the host uses the symbol, the written table has a figure only where both of them have one
  pub exist : T (uses symbol (decode host)) → (values : List ℕ) → Quoted written values → Quoted sent values × Quoted host (host_values sent symbol values)

-- an answer that is no refusal promises this of the bytes it counts at the front of the buffer
unfoldable pub GraftPromises : (host sent : List ℕ) (symbol : ℕ) (out : List ℕ) → Answer ℕ → Type 0
GraftPromises h b s out r = refused r ≡ 0 → GraftPromised h b s (take (given r) out)
