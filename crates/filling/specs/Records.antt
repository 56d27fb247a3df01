-- A table with other numbers, record by record, as the program writes it.
use Rattle.std.specs.Prelude.{List, [], ◌++◌, ℕ, zero, suc, ◌%◌, ◌/◌, drop}
use Rattle.table.specs.Numbers.{record_length}
use Rattle.table.specs.Table.{child_byte, first_node, record_bytes}
use Rattle.filling.specs.Nodes.{Most, Number}
use Rattle.filling.specs.Fill.{on_node, put, put_limit, put_value}

-- the first record of b, with other numbers
abbrev pub on_record : (g : Number → Number) (h : Most → Most) → List ℕ → List ℕ
on_record g h b = record_bytes (on_node g h (first_node b)) (child_byte b)

-- the first n records of b, which are number i and on
unfoldable pub on_records : (g : ℕ → Number → Number) (h : ℕ → Most → Most) (n i : ℕ) → List ℕ → List ℕ
on_records g h zero i b = []
on_records g h (suc n) i b = on_record (g i) (h i) b ++ on_records g h n (suc i) (drop record_length b)

-- with v and m put in the fields that digits mark
abbrev pub put_record : (v : Number) (m : Most) (digit : ℕ) → List ℕ → List ℕ
put_record v m d b = on_record (put (d % 2) v) (put (d / 2) m) b

abbrev pub put_records : (v : Number) (m : Most) (digit : ℕ → ℕ) (n i : ℕ) → List ℕ → List ℕ
put_records v m d n i b = on_records (put_value v d) (put_limit m d) n i b
