-- Document 02, CR 1: grafting puts a sent tree in place of a time symbol of the host tree.
use Rattle.std.specs.Prelude.{Bool, false, cond, ◌||◌, ℕ, suc, eqb}
use Rattle.splice.specs.Nodes.{Plain, Limit, Unlimited, AtMost, Kind, Block, Sequence, Choice, Loop}
use Rattle.table.specs.Numbers.{whole_run}
use Rattle.table.specs.Questions.{number_has}
use Rattle.table.specs.Trees.{Tree, node, Forest, nil, ◌▸◌, rest, around}

-- ---- whole-run limits of the sent tree then name the loop that is put around it

-- the loop that a limit of the sent tree names, with d of that tree's loops around its node: the loop that is put around them all is the one after these
abbrev pub renamed_name : (name d : ℕ) → ℕ
renamed_name k d = cond (eqb k whole_run) (suc d) k

unfoldable pub renamed_limit : Limit → ℕ → Limit
renamed_limit Unlimited d = Unlimited
renamed_limit (AtMost k m) d = AtMost (renamed_name k d) m

unfoldable mutual
  pub rename : Tree → ℕ → Tree
  rename (node n f) d = node (record { kind = n.kind; limit = renamed_limit n.limit d; address = n.address }) (rename_in n.kind f d)

  pub rename_in : Kind → Forest → ℕ → Forest
  rename_in k nil d = nil
  rename_in k (t ▸ f) d = rename t (around k d) ▸ rename_in (rest k) f d

-- ---- every block with the symbol is replaced

-- a block whose time is symbol s
unfoldable pub is_symbol : ℕ → Kind → Bool
is_symbol s (Block t) = number_has s t
is_symbol s Sequence = false
is_symbol s Choice = false
is_symbol s (Loop n) = false

abbrev pub zero_block : Tree
zero_block = node (record { kind = Block (Plain 0); limit = Unlimited; address = 0 }) nil

-- a loop of bound 1 around the sent tree, with a zero block as exit, whose address is 0, and the block's limit and address on the loop
unfoldable pub in_place : (sent : Tree) (limit : Limit) (address : ℕ) → Tree
in_place u l a = node (record { kind = Loop (Plain 1); limit = l; address = a }) (rename u 0 ▸ zero_block ▸ nil)

unfoldable mutual
  pub graft : (symbol : ℕ) (sent host : Tree) → Tree
  graft s u (node n f) = cond (is_symbol s n.kind) (in_place u n.limit n.address) (node n (graft_in s u f))

  pub graft_in : (symbol : ℕ) (sent : Tree) → Forest → Forest
  graft_in s u nil = nil
  graft_in s u (t ▸ f) = graft s u t ▸ graft_in s u f

-- ---- a tree uses symbol s, one of 16 to 31, where a block has it: question 3 allows them nowhere else
unfoldable mutual
  pub uses : (symbol : ℕ) → Tree → Bool
  uses s (node n f) = is_symbol s n.kind || uses_in s f

  pub uses_in : (symbol : ℕ) → Forest → Bool
  uses_in s nil = false
  uses_in s (t ▸ f) = uses s t || uses_in s f
