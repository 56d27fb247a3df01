-- A table's bytes: the record of a node, the table of a tree, and both read back.
use Rattle.std.specs.Prelude.{Bool, false, true, List, [], ◌∷◌, ◌++◌, ℕ, zero, suc, ◌+◌, ◌*◌, ◌/◌, ◌%◌, eqb, ltb, take, drop, get_or, length}
use Rattle.table.specs.Nodes.{Number, Plain, Symbol, Most, Kind, Block, Sequence, Choice, Loop, Limit, Unlimited, AtMost, Node}
use Rattle.booleans.specs.Tests.{◌and◌}
use Rattle.table.specs.Numbers.{fields_length, fill, record_length}
use Rattle.table.specs.Trees.{Tree, node, Forest, nil, ◌▸◌, size}
use Rattle.table.specs.Bytes.{to_bytes, from_bytes}

-- a time's or bound's flag and its field
unfoldable pub flag : Number → ℕ
flag (Plain n) = 0
flag (Symbol n) = 1

abbrev pub raw : Number → ℕ
raw (Plain n) = n
raw (Symbol n) = n

unfoldable pub num_from : ℕ → ℕ → Number
num_from zero n = Plain n
num_from (suc s) n = Symbol n

-- a limit's flags and its field: flag 2 counts 1 here, as byte 1 is halved, and flag 4 counts 2
unfoldable pub most_flags : Most → ℕ
most_flags (Most.Plain n) = 0
most_flags (Most.Symbol s) = 1
most_flags (Most.Triangular s) = 3

abbrev pub most_field : Most → ℕ
most_field (Most.Plain n) = n
most_field (Most.Symbol s) = s
most_field (Most.Triangular s) = s

unfoldable pub most_from : ℕ → ℕ → Most
most_from zero n = Most.Plain n
most_from (suc zero) n = Most.Symbol n
most_from (suc (suc s)) n = Most.Triangular n

unfoldable pub kind_byte : Kind → ℕ
kind_byte (Block v) = 0
kind_byte Sequence = 1
kind_byte Choice = 2
kind_byte (Loop v) = 3

unfoldable pub value_num : Kind → Number
value_num (Block v) = v
value_num Sequence = Plain 0
value_num Choice = Plain 0
value_num (Loop v) = v

unfoldable pub kind_from : ℕ → Number → Kind
kind_from zero v = Block v
kind_from (suc zero) v = Sequence
kind_from (suc (suc zero)) v = Choice
kind_from (suc (suc (suc n))) v = Loop v

unfoldable pub loop_byte : Limit → ℕ
loop_byte Unlimited = 0
loop_byte (AtMost k m) = k

unfoldable pub limit_num : Limit → Most
limit_num Unlimited = Most.Plain 0
limit_num (AtMost k m) = m

unfoldable pub limit_from : ℕ → Most → Limit
limit_from zero m = Unlimited
limit_from (suc k) m = AtMost (suc k) m

-- the last four bytes of a record
abbrev pub filler : List ℕ
filler = fill ∷ fill ∷ fill ∷ fill ∷ []

-- what stands behind the fields of a node with address 0
abbrev pub no_address : List ℕ
no_address = 0 ∷ 0 ∷ 0 ∷ 0 ∷ filler

-- the record of a node with c children
unfoldable pub record_bytes : Node → ℕ → List ℕ
record_bytes n c =
    (kind_byte n.kind ∷ (flag (value_num n.kind) + 2 * most_flags (limit_num n.limit)) ∷ c ∷ loop_byte n.limit ∷ [])
    ++ to_bytes 4 (most_field (limit_num n.limit)) ++ to_bytes 8 (raw (value_num n.kind))
    ++ to_bytes 4 n.address ++ filler

-- the table of a tree, and of a forest: a node's record first, then its children in order, each with everything below it
unfoldable mutual
  pub encode : Tree → List ℕ
  encode (node n f) = record_bytes n (size f) ++ encodes f

  pub encodes : Forest → List ℕ
  encodes nil = []
  encodes (t ▸ f) = encode t ++ encodes f

-- the number in the n bytes from byte i on
abbrev pub field : List ℕ → ℕ → ℕ → ℕ
field b i n = from_bytes (take n (drop i b))

-- the node of the first record, and how many children it has
unfoldable pub first_node : List ℕ → Node
first_node b = record {
  kind = kind_from (get_or b 0 0) (num_from (get_or b 1 0 % 2) (field b 8 8));
  limit = limit_from (get_or b 3 0) (most_from (get_or b 1 0 / 2) (field b 4 4));
  address = field b fields_length 4;
}

unfoldable pub child_byte : List ℕ → ℕ
child_byte b = get_or b 2 0

-- neither of the first record's numbers is a symbol
unfoldable pub flagless : List ℕ → Bool
flagless b = eqb (get_or b 1 0) 0

-- the first record has no flag 4, where question 2 says yes of it
abbrev pub without_four : List ℕ → Bool
without_four b = ltb (get_or b 1 0) 4

-- the first n trees of a forest, and the others
unfoldable pub first_ones : ℕ → Forest → Forest
first_ones zero f = nil
first_ones (suc n) nil = nil
first_ones (suc n) (t ▸ f) = t ▸ first_ones n f

unfoldable pub after_ones : ℕ → Forest → Forest
after_ones zero f = f
after_ones (suc n) nil = nil
after_ones (suc n) (t ▸ f) = after_ones n f

-- the forest that the first n records of b write, of l bytes each, read from the last record to the first: `first` reads a record's node, and a record takes
-- its children off the front
unfoldable pub forest_by : (l : ℕ) (first : List ℕ → Node) (n : ℕ) → List ℕ → Forest
forest_by l first zero b = nil
forest_by l first (suc n) b = let f = forest_by l first n (drop l b) in node (first b) (first_ones (child_byte b) f) ▸ after_ones (child_byte b) f

abbrev pub forest : (n : ℕ) → List ℕ → Forest
forest n b = forest_by record_length first_node n b

unfoldable pub top : Forest → Tree
top nil = node (record { kind = Sequence; limit = Unlimited; address = 0 }) nil
top (t ▸ f) = t

-- how many records a table of these bytes has
abbrev pub record_count : List ℕ → ℕ
record_count b = length b / record_length

-- the tree of a table: total, and meant where the records form one tree (question 4)
unfoldable pub decode : List ℕ → Tree
decode b = top (forest (record_count b) b)

-- the first n records of b, of l bytes each, are exactly k trees: the first record is the top of the first of them, and its children are among the trees that
-- follow
unfoldable pub form_trees_by : (l n k : ℕ) → List ℕ → Bool
form_trees_by l zero k b = eqb k 0
form_trees_by l (suc n) zero b = false
form_trees_by l (suc n) (suc k) b = form_trees_by l n (k + child_byte b) (drop l b)

abbrev pub form_trees : (n k : ℕ) → List ℕ → Bool
form_trees n k b = form_trees_by record_length n k b

-- a test of each of b's first n records, of l bytes each
unfoldable pub each_by : (l : ℕ) (test : List ℕ → Bool) (n : ℕ) → List ℕ → Bool
each_by l p zero b = true
each_by l p (suc n) b = p b and each_by l p n (drop l b)

abbrev pub each : (test : List ℕ → Bool) (n : ℕ) → List ℕ → Bool
each p n b = each_by record_length p n b
