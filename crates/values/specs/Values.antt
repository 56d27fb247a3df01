-- A desk's values: what is asked of them (document 01, "Questions put to a call"; document 02, CR 3 and 7), and when none is lower.
use Rattle.std.specs.Prelude.{Bool, true, cond, List, [], ◌∷◌, ℕ, zero, suc, ◌+◌, ◌-◌, ◌≤◌, eqb, leb, ltb, get_or, length}
use Rattle.booleans.specs.Tests.{◌and◌}
use Rattle.table.specs.Numbers.{how_many_values, how_many_symbols, first_paired_symbol, first_time_symbol, later_place, most_count, most_time}
use Rattle.table.specs.Asking.{Question, ◌asks◌, first_no}
use Rattle.table.specs.Limits.{most_holds}
use Rattle.table.specs.Table.{each, first_node, record_count}
use Rattle.table.specs.declared.Most.{Most}
use Rattle.triangular.specs.Triangular.{most_triangular}
use Rattle.evaluate.specs.Evaluate.{Values, values_of}

-- the ceiling of value i
unfoldable pub ceiling : ℕ → ℕ
ceiling i = cond (ltb i first_time_symbol) most_count most_time

-- each is at most its ceiling, the first being number i
unfoldable pub ranged : ℕ → List ℕ → Bool
ranged i [] = true
ranged i (x ∷ xs) = leb x (ceiling i) and ranged (suc i) xs

-- 9. exactly 40 values, each in its range, used or not: the later values of the paired symbols, 32 and on, are times
unfoldable pub question9 : List ℕ → Bool
question9 vs = eqb (length vs) how_many_values and ranged 0 vs

-- 13. a symbol under flag 4 has a value of at most 1,000
unfoldable pub triangle_small : Values → Most → Bool
triangle_small v (Most.Plain n) = true
triangle_small v (Most.Symbol s) = true
triangle_small v (Most.Triangular s) = leb (v s) most_triangular

-- 13. of the first record's limit
unfoldable pub record_small : Values → List ℕ → Bool
record_small v b = most_holds (triangle_small v) (first_node b).limit

-- 13. every symbol that stands under flag 4 in this table, and no other
unfoldable pub question13 : (table values : List ℕ) → Bool
question13 b vs = each (record_small (values_of vs)) (record_count b) b

-- 14. no later value exceeds its first, of n paired symbols from s on
unfoldable pub later_low : (n s : ℕ) → Values → Bool
later_low zero s v = true
later_low (suc n) s v = leb (v (s + later_place)) (v s) and later_low n (suc s) v

-- 14. of all of them, used or not
unfoldable pub question14 : List ℕ → Bool
question14 vs = later_low (how_many_symbols - first_paired_symbol) first_paired_symbol (values_of vs)

-- every question about a desk's values for a table, put by each call that is lent both; 9 and 14 are the same for every table
unfoldable pub value_questions : (table values : List ℕ) → List Question
value_questions b vs = 9 asks question9 vs ∷ 13 asks question13 b vs ∷ 14 asks question14 vs ∷ []

unfoldable pub values_refusal : (table values : List ℕ) → ℕ
values_refusal b vs = first_no (value_questions b vs)

-- w is none lower than v: each number is at least v's at the same place, both numbers of a paired symbol among them
abbrev pub NoneLower : (v w : List ℕ) → Type 0
NoneLower v w = (i : ℕ) → get_or v i 0 ≤ get_or w i 0
