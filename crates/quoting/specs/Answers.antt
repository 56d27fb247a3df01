-- What checking, the figure call and the list call answer for any input, and the numbers that are written. Document 01, "Questions put to a call".
use Rattle.std.specs.Prelude.{List, [], ◌∷◌, ◌++◌, ℕ, suc, leb, length}
use Rattle.refusals.specs.Refusals.{Answer, Given, Refused}
use Rattle.table.specs.Numbers.{list_room}
use Rattle.table.specs.Table.{decode, record_count}
use Rattle.table.specs.Asking.{Question, ◌asks◌, by_refusal, first_no}
use Rattle.table.specs.Checking.{questions, refusal}
use Rattle.lists.specs.Pairs.{width, numbers}
use Rattle.evaluate.specs.Evaluate.{values_of, figure, branch, fits}
use Rattle.evaluate.specs.ListPairs.{list_pairs}
use Rattle.quoting.specs.declared.Quote.{Quote}
use Rattle.values.specs.Values.{value_questions}

-- ---- checking: questions 1 to 7

-- how many records the table has
unfoldable pub check_answer : List ℕ → Answer ℕ
check_answer b = by_refusal (refusal b) (Given (record_count b)) Refused

-- ---- the figure call: questions 1 to 7, 9, 13, 14 and 10

-- what is asked of an accepted table with a desk's values: 10 is `fits`
unfoldable pub quote_questions : (table values : List ℕ) → List Question
quote_questions b vs = value_questions b vs ++ 10 asks fits (values_of vs) (decode b) ∷ []

unfoldable pub figure_refusal : (table values : List ℕ) → ℕ
figure_refusal b vs = first_no (questions b ++ quote_questions b vs)

-- what was asked for: the figure, and which child of the root sets it
abbrev pub quote_of : (table values : List ℕ) → Quote
quote_of b vs = record { figure = figure (values_of vs) (decode b); branch = branch (values_of vs) (decode b) }

unfoldable pub figure_answer : (table values : List ℕ) → Answer Quote
figure_answer b vs = by_refusal (figure_refusal b vs) (Given (quote_of b vs)) Refused

-- figure and branch, 0 where there are none
unfoldable pub quoted_figure : Answer Quote → ℕ
quoted_figure (Given q) = q.figure
quoted_figure (Refused n) = 0

unfoldable pub quoted_branch : Answer Quote → ℕ
quoted_branch (Given q) = q.branch
quoted_branch (Refused n) = 0

-- ---- the list call: questions 1 to 9, 13, 14 and 10, of which 8 asks the output buffer for 512 numbers

unfoldable pub list_refusal : (table values out : List ℕ) → ℕ
list_refusal b vs out = first_no (questions b ++ 8 asks leb list_room (length out) ∷ quote_questions b vs)

-- how many pairs
unfoldable pub list_answer : (table values out : List ℕ) → Answer ℕ
list_answer b vs out = by_refusal (list_refusal b vs out) (Given (suc (width (list_pairs (values_of vs) (decode b))))) Refused

-- the numbers it writes: none where it is refused
unfoldable pub list_writes : (table values out : List ℕ) → List ℕ
list_writes b vs out = by_refusal (list_refusal b vs out) (numbers (list_pairs (values_of vs) (decode b))) (λ q. [])
