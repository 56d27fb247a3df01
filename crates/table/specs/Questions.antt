-- Questions 2, 3 and 5 to 7 of document 01, of a tree.
use Rattle.std.specs.Prelude.{Bool, true, false, ◌||◌, cond, not, ℕ, suc, max, ◌-◌, ◌^◌, ◌+◌, ◌≤◌, leb, eqb, ltb, T}
use Rattle.table.specs.Nodes.{Node, Kind, Block, Sequence, Choice, Loop, Number, Plain, Symbol, Most, Limit, Unlimited, AtMost}
use Rattle.booleans.specs.Tests.{◌and◌}
use Rattle.table.specs.Numbers.{how_many_addresses, most_children, most_time, first_time_symbol, first_paired_symbol, how_many_symbols, most_count, whole_run, most_loops, most_records, most_depth, most_weight}
use Rattle.table.specs.Trees.{Tree, node, Forest, nil, ◌▸◌, size, rest, around, records, every_node}

-- ---- 2 and 3: each node by itself

-- the number of children, by kind
unfoldable pub arity : Kind → ℕ → Bool
arity (Block t) c = eqb c 0
arity Sequence c = leb 1 c and leb c most_children
arity Choice c = leb 1 c and leb c most_children
arity (Loop n) c = eqb c 2

unfoldable pub time_in_range : Number → Bool
time_in_range (Plain n) = leb n most_time
time_in_range (Symbol s) = leb first_time_symbol s and ltb s how_many_symbols

unfoldable pub count_in_range : Number → Bool
count_in_range (Plain n) = leb n most_count
count_in_range (Symbol s) = ltb s first_time_symbol

unfoldable pub most_in_range : Most → Bool
most_in_range (Most.Plain n) = leb n most_count
most_in_range (Most.Symbol s) = ltb s first_time_symbol
most_in_range (Most.Triangular s) = ltb s first_time_symbol

unfoldable pub kind_in_range : Kind → Bool
kind_in_range (Block t) = time_in_range t
kind_in_range Sequence = true
kind_in_range Choice = true
kind_in_range (Loop n) = count_in_range n

-- byte 3 is 1 to 8, or 255
unfoldable pub limit_in_range : Limit → Bool
limit_in_range Unlimited = true
limit_in_range (AtMost k m) = ((leb 1 k and leb k most_loops) || eqb k whole_run) and most_in_range m

-- An address is any number of 32 bits. No question asks for it, since its four bytes hold no other.
unfoldable pub is_address : ℕ → Bool
is_address a = ltb a how_many_addresses

abbrev pub node_in_range : Node → Bool
node_in_range n = is_address n.address and kind_in_range n.kind and limit_in_range n.limit

-- every node is as questions 2 and 3 ask, and has an address
unfoldable mutual
  pub listed : Tree → Bool
  listed (node n f) = node_in_range n and arity n.kind (size f) and listed_in f

  pub listed_in : Forest → Bool
  listed_in nil = true
  listed_in (t ▸ f) = listed t and listed_in f

-- ---- symbols

-- a time or bound that is symbol s
unfoldable pub number_has : (symbol : ℕ) → Number → Bool
number_has s (Plain n) = false
number_has s (Symbol k) = eqb k s

-- symbols with a first and a later value
abbrev pub paired_symbol : ℕ → Bool
paired_symbol s = leb first_paired_symbol s and ltb s how_many_symbols

unfoldable pub paired : Number → Bool
paired (Plain n) = false
paired (Symbol s) = paired_symbol s

-- a block of such a symbol
unfoldable pub paired_block : Kind → Bool
paired_block (Block t) = paired t
paired_block Sequence = false
paired_block Choice = false
paired_block (Loop n) = false

abbrev pub single : Node → Bool
single n = not (paired_block n.kind)

-- no block of such a symbol in the tree
abbrev pub unpaired : Tree → Bool
unpaired t = every_node single t

-- ---- 5: depth, and the most loops around any node, with d around this one

unfoldable mutual
  pub depth : Tree → ℕ
  depth (node n f) = suc (depth_in f)

  pub depth_in : Forest → ℕ
  depth_in nil = 0
  depth_in (t ▸ f) = max (depth t) (depth_in f)

unfoldable mutual
  pub loops : Tree → ℕ → ℕ
  loops (node n f) d = max d (loops_in n.kind f d)

  pub loops_in : Kind → Forest → ℕ → ℕ
  loops_in k nil d = 0
  loops_in k (t ▸ f) d = max (loops t (around k d)) (loops_in (rest k) f d)

-- ---- 6: each limit names the run or one of the d loops around its node

unfoldable pub name_ok : Limit → ℕ → Bool
name_ok Unlimited d = true
name_ok (AtMost k m) d = leb k d || eqb k whole_run

unfoldable mutual
  pub named : Tree → ℕ → Bool
  named (node n f) d = name_ok n.limit d and named_in n.kind f d

  pub named_in : Kind → Forest → ℕ → Bool
  named_in k nil d = true
  named_in k (t ▸ f) d = named t (around k d) and named_in (rest k) f d

-- ---- 7: 2 to the power of the number of loops around the node and inside the named one

unfoldable pub share : Limit → ℕ → ℕ
share Unlimited d = 0
share (AtMost k m) d = cond (eqb k whole_run) (2 ^ d) (2 ^ (k - 1))

-- a block of a paired symbol counts as a limit on the whole run, beside its own limit
unfoldable pub paired_share : Kind → ℕ → ℕ
paired_share k d = cond (paired_block k) (2 ^ d) 0

unfoldable mutual
  pub weight : Tree → ℕ → ℕ
  weight (node n f) d = share n.limit d + paired_share n.kind d + weight_in n.kind f d

  pub weight_in : Kind → Forest → ℕ → ℕ
  weight_in k nil d = 0
  weight_in k (t ▸ f) d = weight t (around k d) + weight_in (rest k) f d

-- ---- what checking asks of the tree

pub record Accepted (t : Tree) : Type 0 where
  pub short : records t ≤ most_records
  pub listed : T (listed t)
  pub deep : depth t ≤ most_depth
  pub nested : loops t 0 ≤ most_loops
  pub named : T (named t 0)
  pub weighed : weight t 0 ≤ most_weight
