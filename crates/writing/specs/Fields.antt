-- A field written over, and nothing else.
use Rattle.std.specs.Prelude.{List, ◌++◌, ℕ, ◌+◌, ◌*◌, drop, take}
use Rattle.table.specs.Bytes.{to_bytes}
use Rattle.table.specs.Numbers.{record_length}

-- the bytes with the number x in the n bytes from byte i on, and every other byte as it was
unfoldable pub with_field : List ℕ → (i n x : ℕ) → List ℕ
with_field b i n x = take i b ++ to_bytes n x ++ drop (i + n) b

-- where record i's value stands, a block's time or a loop's bound
abbrev pub value_at : ℕ → ℕ
value_at i = record_length * i + 8

-- the table with that number as the value of record i
abbrev pub with_value : List ℕ → (i x : ℕ) → List ℕ
with_value b i x = with_field b (value_at i) 8 x
