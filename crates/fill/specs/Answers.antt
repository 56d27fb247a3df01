-- Document 02, CR 8: what filling and opening answer for any input, and the bytes that they write.
use Rattle.std.specs.Prelude.{Bool, true, not, ◌&&◌, List, [], ◌∷◌, ◌++◌, ℕ, eqb, leb, ltb, length}
use Rattle.booleans.specs.Tests.{◌and◌}
use Rattle.refusals.specs.Refusals.{Answer, Given, Refused}
use Rattle.table.specs.Numbers.{first_paired_symbol}
use Rattle.table.specs.Limits.{most_holds}
use Rattle.table.specs.Table.{decode, each, encode, first_node, record_count}
use Rattle.table.specs.Asking.{Question, ◌asks◌, by_refusal, first_no}
use Rattle.table.specs.Checking.{questions}
use Rattle.values.specs.Values.{ceiling}
use Rattle.marking.specs.Marks.{digit_at, mark_length, marks_of}
use Rattle.marking.specs.Opening.{question16}
use Rattle.filling.specs.Fill.{fill_tree, open_tree}
use Rattle.fill.specs.Nodes.{Most}

-- ---- question 15

-- 0 to 23: a symbol, and none that stands for a pair of numbers
unfoldable pub fillable : ℕ → Bool
fillable s = ltb s first_paired_symbol

-- a limit's number is not symbol s under flag 4
unfoldable pub not_under_four : (s : ℕ) → Most → Bool
not_under_four s (Most.Plain n) = true
not_under_four s (Most.Symbol k) = true
not_under_four s (Most.Triangular k) = not (eqb k s)

-- of the first record's limit
abbrev pub record_free : (s : ℕ) → List ℕ → Bool
record_free s b = most_holds (not_under_four s) (first_node b).limit

-- 15. a symbol that may be filled, its number in range, and no use of it under flag 4 in this table
unfoldable pub question15 : (table : List ℕ) (symbol number : ℕ) → Bool
question15 b s x = fillable s and leb x (ceiling s) and each (record_free s) (record_count b) b

-- both calls put 1 to 8, then 15: is there room, and may this symbol be filled with this number?
unfoldable pub both_ask : (table : List ℕ) (roomy : Bool) (symbol number : ℕ) → List Question
both_ask b roomy s x = questions b ++ 8 asks roomy ∷ 15 asks question15 b s x ∷ []

-- ---- filling: question 8 wants the table's length, and 128 for the marks

-- the table written; its marks are `marks_of`
unfoldable pub filled : (table : List ℕ) (symbol number : ℕ) → List ℕ
filled b s x = encode (fill_tree s x (decode b))

unfoldable pub fill_refusal : (table : List ℕ) (symbol number : ℕ) (out marks : List ℕ) → ℕ
fill_refusal b s x out marks = first_no (both_ask b (leb (length b) (length out) && leb mark_length (length marks)) s x)

-- how long the written table is
unfoldable pub fill_answer : (table : List ℕ) (symbol number : ℕ) (out marks : List ℕ) → Answer ℕ
fill_answer b s x out marks = by_refusal (fill_refusal b s x out marks) (Given (length b)) Refused

-- the bytes it writes to `out` and to `marks`: none where it is refused
unfoldable pub fill_writes : (table : List ℕ) (symbol number : ℕ) (out marks : List ℕ) → List ℕ
fill_writes b s x out marks = by_refusal (fill_refusal b s x out marks) (filled b s x) (λ q. [])

unfoldable pub fill_marks : (table : List ℕ) (symbol number : ℕ) (out marks : List ℕ) → List ℕ
fill_marks b s x out marks = by_refusal (fill_refusal b s x out marks) (marks_of s b) (λ q. [])

-- ---- opening: question 8 wants the table's length, and 16 comes last

unfoldable pub opened : (table marks : List ℕ) (symbol : ℕ) → List ℕ
opened b m s = encode (open_tree s (digit_at m) (decode b))

unfoldable pub open_refusal : (table marks : List ℕ) (symbol number : ℕ) (out : List ℕ) → ℕ
open_refusal b m s x out = first_no (both_ask b (leb (length b) (length out)) s x ++ 16 asks question16 b m s x ∷ [])

-- how long the written table is
unfoldable pub open_answer : (table marks : List ℕ) (symbol number : ℕ) (out : List ℕ) → Answer ℕ
open_answer b m s x out = by_refusal (open_refusal b m s x out) (Given (length b)) Refused

unfoldable pub open_writes : (table marks : List ℕ) (symbol number : ℕ) (out : List ℕ) → List ℕ
open_writes b m s x out = by_refusal (open_refusal b m s x out) (opened b m s) (λ q. [])
