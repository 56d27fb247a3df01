-- Document 02, CR 8: the 128 bytes of marks. Two bits a record in order, low bits first, value then limit: each byte is four digits of 0 to 3, its first
-- record's lowest, and a digit counts 1 for the record's value and 2 for its limit.
use Rattle.std.specs.Prelude.{Bool, false, cond, List, [], ◌∷◌, ℕ, zero, suc, ◌+◌, ◌*◌, ◌%◌, ◌/◌, eqb, ltb, drop, get_or}
use Rattle.table.specs.Numbers.{record_length}
use Rattle.table.specs.Questions.{number_has}
use Rattle.table.specs.Table.{first_node, limit_num, record_count, value_num}
use Rattle.marking.specs.Nodes.{Most, Node}

-- bytes of marks: four records a byte
abbrev pub mark_length : ℕ
mark_length = 128

-- the node of record i
abbrev pub node_at : List ℕ → ℕ → Node
node_at b i = first_node (drop (record_length * i) b)

-- ---- the fields that have symbol s: a time or bound (`number_has`), or a limit

-- A symbol under flag 4 stands for another number, and question 15 lets no table pass that has s there.
unfoldable pub most_has : (s : ℕ) → Most → Bool
most_has s (Most.Plain n) = false
most_has s (Most.Symbol k) = eqb k s
most_has s (Most.Triangular k) = false

-- ---- the marks of these fields

-- 1 for a mark, 0 for none
abbrev pub bit : Bool → ℕ
bit c = cond c 1 0

-- a node's digit
abbrev pub mark_node : (s : ℕ) → Node → ℕ
mark_node s n = bit (number_has s (value_num n.kind)) + 2 * bit (most_has s (limit_num n.limit))

-- record i's digit, 0 past the last record
unfoldable pub mark_digit : (s : ℕ) → List ℕ → ℕ → ℕ
mark_digit s b i = cond (ltb i (record_count b)) (mark_node s (node_at b i)) 0

-- byte j of digits d
abbrev pub mark_byte : (d : ℕ → ℕ) → ℕ → ℕ
mark_byte d j = d (4 * j) + 4 * d (4 * j + 1) + 16 * d (4 * j + 2) + 64 * d (4 * j + 3)

-- n bytes from byte j on
unfoldable pub mark_bytes : (d : ℕ → ℕ) (n j : ℕ) → List ℕ
mark_bytes d zero j = []
mark_bytes d (suc n) j = mark_byte d j ∷ mark_bytes d n (suc j)

-- of a table
unfoldable pub marks_of : (s : ℕ) → List ℕ → List ℕ
marks_of s b = mark_bytes (mark_digit s b) mark_length 0

-- ---- marks read

-- the digit of a byte at place k
unfoldable pub digit_of : (byte k : ℕ) → ℕ
digit_of x zero = x % 4
digit_of x (suc k) = digit_of (x / 4) k

-- record i's digit
abbrev pub digit_at : List ℕ → ℕ → ℕ
digit_at m i = digit_of (get_or m (i / 4) 0) (i % 4)
