-- What rules 8 and 9 test of a tree, and what rule 8 writes.
use Rattle.std.specs.Prelude.{◌≡◌, Bool, cond, false, true, List, [], ◌∷◌, ◌++◌, ℕ, zero, suc, ◌+◌, ◌*◌, ◌≤◌, T, eqb, drop, length, take, Some, None}
use Rattle.std.specs.declared.option.Option.{Option as Maybe}
use Rattle.booleans.specs.Tests.{◌and◌}
use Rattle.evaluate.specs.Closed.{is_unlimited}
use Rattle.simplify.specs.Rules.{address_of, children, first_of, firsts, head_of, is_pair, limit_of, second_of, shares}
use Rattle.simplify.specs.Same.{same, same_kind}
use Rattle.table.specs.Numbers.{fields_length, record_length}
use Rattle.table.specs.Table.{encodes, first_ones, record_bytes}
use Rattle.table.specs.Trees.{Forest, Tree, nil, node, ◌▸◌, ◌⧺◌, records, records_in, size}
use Rattle.subtrees.specs.Parts.{trees_at}
use Rattle.table.specs.declared.Number.TheVariants.{Plain}
use Rattle.table.specs.declared.Limit.TheVariants.{Unlimited}
use Rattle.table.specs.declared.Kind.TheVariants.{Sequence, Choice, Loop}
use Rattle.writing.specs.Records.{Appended, node_of}

-- ---- rule 9: an unlimited loop of plain bound 0

unfoldable pub idle : Tree → Bool
idle (node n f) = same_kind n.kind (Loop (Plain 0)) and is_unlimited n.limit

-- ---- rule 8

-- the same numbers in the same order
unfoldable pub same_bytes : List ℕ → List ℕ → Bool
same_bytes [] [] = true
same_bytes [] (y ∷ c) = false
same_bytes (x ∷ b) [] = false
same_bytes (x ∷ b) (y ∷ c) = eqb x y and same_bytes b c

-- the part of a table that starts at record i, and its first record but for the address and what stands behind it
abbrev pub records_from : List ℕ → ℕ → List ℕ
records_from b i = drop (record_length * i) b

abbrev pub fields_at : List ℕ → ℕ → List ℕ
fields_at b i = take fields_length (records_from b i)

-- the first n records of each are the same but for their addresses
unfoldable pub same_records : ℕ → List ℕ → List ℕ → Bool
same_records zero b c = true
same_records (suc n) b c = same_bytes (take fields_length b) (take fields_length c) and same_records n (drop record_length b) (drop record_length c)

-- an unlimited sequence of two whose second child is x, but for its addresses
unfoldable pub sharing : Tree → Tree → Bool
sharing x t = is_pair t and same (second_of t) x

-- the record of the first child's second child of the first tree, which stands at record i, where rule 8 fits it
unfoldable pub shared_at : ℕ → Forest → Maybe ℕ
shared_at i nil = None
shared_at i (node n f ▸ g) = cond (same_kind n.kind Choice and shares f) (Some (i + 2 + records (first_of (head_of f)))) None

unfoldable pub pairs : Forest → Bool
pairs nil = true
pairs (t ▸ f) = is_pair t and pairs f

-- n pairs stand in a row, the first of them at record p
pub record PairsAt (b : List ℕ) (p n : ℕ) : Type 0 where
  pub row : Forest
  pub later : Forest
  pub stand : trees_at b p ≡ row ⧺ later
  pub count : size row ≡ n
  pub pairs : T (pairs row)

-- their first children
abbrev pub firsts_at : List ℕ → ℕ → ℕ → Forest
firsts_at b p n = firsts (first_ones n (trees_at b p))

-- a buffer has room for a row of trees from record `at` on
abbrev pub RoomFor : ℕ → Forest → List ℕ → Type 0
RoomFor at f out = record_length * (at + records_in f) ≤ length out

-- the row is written there, after what stood before it, and ends at record r
abbrev pub RowAppended : ℕ → List ℕ → Forest → ℕ → List ℕ → Type 0
RowAppended at before f r out = Appended at before (records_in f) (encodes f) r out

-- the records of a sequence of two with the tree's limit and address, and of an unlimited choice of as many children as it has, with address 0
abbrev pub top_bytes : Tree → List ℕ
top_bytes t = record_bytes (node_of Sequence (limit_of t) (address_of t)) 2 ++ record_bytes (node_of Choice Unlimited 0) (size (children t))
