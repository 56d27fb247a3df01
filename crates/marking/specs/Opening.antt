-- Document 02, CR 8, question 16: a mark stands on a plain field of that number in which the symbol is allowed.
use Rattle.std.specs.Prelude.{Bool, true, false, cond, ◌&&◌, ◌||◌, List, ℕ, zero, suc, ◌%◌, ◌/◌, eqb, ltb, length}
use Rattle.booleans.specs.Tests.{◌and◌}
use Rattle.table.specs.Numbers.{most_records}
use Rattle.table.specs.Questions.{count_in_range, most_in_range, time_in_range}
use Rattle.table.specs.Table.{record_count}
use Rattle.marking.specs.Nodes.{Number, Plain, Symbol, Most, Limit, Unlimited, AtMost, Kind, Block, Sequence, Choice, Loop, Node}
use Rattle.marking.specs.Marks.{digit_at, mark_length, node_at}

-- a plain field of number x
unfoldable pub number_is : (x : ℕ) → Number → Bool
number_is x (Plain n) = eqb n x
number_is x (Symbol k) = false

unfoldable pub most_is : (x : ℕ) → Most → Bool
most_is x (Most.Plain n) = eqb n x
most_is x (Most.Symbol k) = false
most_is x (Most.Triangular k) = false

-- a mark on a value: question 3 allows symbol s there. A sequence or choice has none.
unfoldable pub kind_opens : (s x : ℕ) → Kind → Bool
kind_opens s x (Block t) = number_is x t && time_in_range (Symbol s)
kind_opens s x Sequence = false
kind_opens s x Choice = false
kind_opens s x (Loop n) = number_is x n && count_in_range (Symbol s)

-- a mark on a limit
unfoldable pub limit_opens : (s x : ℕ) → Limit → Bool
limit_opens s x Unlimited = false
limit_opens s x (AtMost k m) = most_is x m && most_in_range (Most.Symbol s)

-- the marks of digit d on a node
abbrev pub node_opens : (s x d : ℕ) → Node → Bool
node_opens s x d n = (eqb (d % 2) 0 || kind_opens s x n.kind) && (eqb (d / 2) 0 || limit_opens s x n.limit)

-- record i's marks: none past the last record
unfoldable pub digit_opens : (s x : ℕ) (b m : List ℕ) (i : ℕ) → Bool
digit_opens s x b m i = cond (ltb i (record_count b)) (node_opens s x (digit_at m i) (node_at b i)) (eqb (digit_at m i) 0)

-- a test of the n numbers from i on
unfoldable pub all_from : (p : ℕ → Bool) (n i : ℕ) → Bool
all_from p zero i = true
all_from p (suc n) i = p i and all_from p n (suc i)

-- 16. exactly 128 bytes, and every mark where it may stand
unfoldable pub question16 : (table marks : List ℕ) (symbol number : ℕ) → Bool
question16 b m s x = eqb (length m) mark_length and all_from (digit_opens s x b m) most_records 0
