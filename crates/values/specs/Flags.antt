-- A table in which no limit is under flag 4: question 13 has nothing to ask there.
use Rattle.std.specs.Prelude.{Bool, List, ℕ}
use Rattle.table.specs.Table.{each, record_count, without_four}

-- no record has flag 4
unfoldable pub flag_free : List ℕ → Bool
flag_free b = each without_four (record_count b) b
