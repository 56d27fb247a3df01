-- Records at the front of a buffer, and records of a table.
use Rattle.std.specs.Prelude.{◌≡◌, List, ◌++◌, ℕ, ◌+◌, ◌*◌, drop, take}
use Rattle.table.specs.Numbers.{record_length}
use Rattle.table.specs.declared.Kind.{Kind}
use Rattle.table.specs.declared.Limit.{Limit}
use Rattle.table.specs.declared.Node.{Node}

-- the first n records of a buffer
abbrev pub front : ℕ → List ℕ → List ℕ
front n b = take (record_length * n) b

-- the n records from record i on
abbrev pub slice : List ℕ → (i n : ℕ) → List ℕ
slice b i n = take (record_length * n) (drop (record_length * i) b)

-- n records with these bytes are put at a buffer's record `at`, behind what stood before it, and end at record r
abbrev pub Appended : (at : ℕ) (before : List ℕ) (n : ℕ) (bytes : List ℕ) (r : ℕ) (after : List ℕ) → Type 0
Appended at before n bytes r after = (r ≡ at + n) × (front r after ≡ front at before ++ bytes)

-- a node by its kind, its limit and its address
abbrev pub node_of : Kind → Limit → ℕ → Node
node_of k l a = record { kind = k; limit = l; address = a }
