-- Grafting record by record: each of the host's is copied, or the sent table put in its place. The program copies those between two places at once.
use Rattle.std.specs.Prelude.{◌≡◌, Bool, cond, not, List, [], ◌++◌, ℕ, zero, suc, ◌+◌, ◌*◌, ◌-◌, ◌≤◌, drop, length, take, IfSome, Option}
use Rattle.booleans.specs.Tests.{◌and◌}
use Rattle.table.specs.Numbers.{record_length}
use Rattle.table.specs.Questions.{single}
use Rattle.table.specs.Table.{first_node, record_bytes, record_count}
use Rattle.table.specs.Trees.{Forest, Tree, nil, node, ◌▸◌}
use Rattle.writing.specs.Records.{node_of}
use Rattle.splice.specs.Nodes.{Block, Limit, Loop, Plain, Unlimited}
use Rattle.splice.specs.Graft.{is_symbol}

-- 1 where the first record of b is a block with symbol s, else 0
unfoldable pub occurs_first : (s : ℕ) → List ℕ → ℕ
occurs_first s b = cond (is_symbol s (first_node b).kind) 1 0

-- how many of b's first n records are such
unfoldable pub occurrences_in : (s n : ℕ) → List ℕ → ℕ
occurrences_in s zero b = 0
occurrences_in s (suc n) b = occurs_first s b + occurrences_in s n (drop record_length b)

-- the first record of b may be in a table that is sent for symbol s: it is no block of s, nor of a paired symbol
unfoldable pub sendable_first : ℕ → List ℕ → Bool
sendable_first s b = not (is_symbol s (first_node b).kind) and single (first_node b)

-- what stands in place of a block with this limit and address: the loop's record, the renamed sent table, the exit's record
unfoldable pub place_bytes : (body : List ℕ) → Limit → (address : ℕ) → List ℕ
place_bytes body l a = record_bytes (node_of (Loop (Plain 1)) l a) 2 ++ body ++ record_bytes (node_of (Block (Plain 0)) Unlimited 0) 0

-- the first record of b, or what stands in its place
unfoldable pub splice_first : (s : ℕ) (body b : List ℕ) → List ℕ
splice_first s body b = cond (is_symbol s (first_node b).kind) (place_bytes body (first_node b).limit (first_node b).address) (take record_length b)

-- b's first n records so
unfoldable pub splice : (s : ℕ) (body : List ℕ) (n : ℕ) → List ℕ → List ℕ
splice s body zero b = []
splice s body (suc n) b = splice_first s body b ++ splice s body n (drop record_length b)

-- how many records that makes, with a sent table of m records
unfoldable pub splice_records : (s m n : ℕ) → List ℕ → ℕ
splice_records s m n b = n + occurrences_in s n b * suc m

-- none of h's records from record i on and before record r is a block with symbol s
pub record NoPlace (s : ℕ) (h : List ℕ) (i r : ℕ) : Type 0 where
  pub onward : i ≤ r
  pub within : r ≤ record_count h
  pub none : occurrences_in s (r - i) (drop (record_length * i) h) ≡ 0

-- these bytes stand among others, from record k on
pub record Among (body : List ℕ) (k : ℕ) (bytes : List ℕ) : Type 0 where
  pub before : List ℕ
  pub behind : List ℕ
  pub parts : bytes ≡ before ++ (body ++ behind)
  pub long : length before ≡ record_length * k

-- they do from the record on at which they were put last, if they were put
abbrev pub Stands : (body : List ℕ) (last : Option ℕ) (bytes : List ℕ) → Type 0
Stands body last bytes = IfSome last (λ k. Among body k bytes)

-- how many blocks of a tree have symbol s
unfoldable mutual
  pub occurrences : ℕ → Tree → ℕ
  occurrences s (node n f) = cond (is_symbol s n.kind) 1 0 + occurrences_of s f

  pub occurrences_of : ℕ → Forest → ℕ
  occurrences_of s nil = 0
  occurrences_of s (t ▸ f) = occurrences s t + occurrences_of s f
