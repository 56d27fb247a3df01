-- Rules 6 and 7 on a table's bytes: what a walk over a node's children finds of unlimited plain blocks, and what is written in their place.
use Rattle.std.specs.Prelude.{◌≡◌, cond, List, ℕ, zero, suc, ◌+◌, ◌-◌, ◌<◌, ◌≤◌, max, leb, Some, None}
use Rattle.std.specs.declared.option.Option.{Option as Maybe}
use Rattle.booleans.specs.Tests.{◌and◌}
use Rattle.simplify.specs.Same.{same_kind}
use Rattle.table.specs.Trees.{Forest, Tree, nil, node, ◌▸◌, ◌⧺◌, records, records_in, size}
use Rattle.simplify.specs.Rules.{bare, bares, largest, leaf, others, time_of, total}
use Rattle.subtrees.specs.Parts.{trees_at}
use Rattle.rules2to7.specs.Nodes.{Kind, Node, Unlimited}
use Rattle.rules2to7.specs.declared.Bares.{Bares}

-- ---- what a walk finds

abbrev pub no_bares : Bares
no_bares = record { count = 0; total = 0; largest = 0 }

-- among the children of the first tree of a row
unfoldable pub bares_at : Forest → Bares
bares_at nil = no_bares
bares_at (node n f ▸ g) = record { count = bares f; total = total f; largest = largest f }

-- the same, where it is of this kind and there are two or more
unfoldable pub two_bares : Kind → Forest → Maybe Bares
two_bares k nil = None
two_bares k (node n f ▸ g) = cond (same_kind n.kind k and leb 2 (bares f)) (Some (bares_at (node n f ▸ g))) None

-- with the next child
unfoldable pub with_child : Bares → Tree → Bares
with_child s t = cond (bare t) (record { count = s.count + 1; total = s.total + time_of t; largest = max s.largest (time_of t) }) s

-- ---- what is written

-- the records of a tree that stay
unfoldable pub kept_records : Tree → ℕ
kept_records t = cond (bare t) 0 (records t)

-- the first trees of a row, those that have n records
unfoldable pub spanning : Forest → ℕ → Forest
spanning nil n = nil
spanning (t ▸ f) zero = nil
spanning (t ▸ f) (suc n) = t ▸ spanning f (suc n - records t)

-- the trees from record p up to record e but the unlimited plain blocks
abbrev pub others_up_to : List ℕ → (p e : ℕ) → Forest
others_up_to b p e = others (spanning (trees_at b p) (e - p))

-- from record p up to record e stand whole trees
pub record Standing (b : List ℕ) (p e : ℕ) : Type 0 where
  pub trees : Forest
  pub later : Forest
  pub row : trees_at b p ≡ trees ⧺ later
  pub long : p + records_in trees ≡ e

-- the children of the node at record i in two rows, the second from record q on, with c unlimited plain blocks, at least one, in the second
pub record Parted (b : List ℕ) (i q c : ℕ) : Type 0 where
  pub own : Node
  pub first : Forest
  pub second : Forest
  pub later : Forest
  pub here : trees_at b i ≡ node own (first ⧺ second) ▸ later
  pub place : q ≡ i + 1 + records_in first
  pub some : 1 ≤ c
  pub number : size (others second) + c ≡ size second
  pub fewer : records_in (others second) < records_in second

-- the row from record i on, with one block of time x for those of the second row
abbrev pub merged : {b : List ℕ} {i q c : ℕ} → ℕ → Parted b i q c → Forest
merged x s = node s.own (s.first ⧺ (leaf x Unlimited ▸ others s.second)) ▸ s.later
