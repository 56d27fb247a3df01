-- Document 02, CR 8: a plain number put for one symbol throughout, and the symbol put back in each marked field.
use Rattle.std.specs.Prelude.{cond, ℕ, zero, suc, ◌+◌, ◌%◌, ◌/◌}
use Rattle.table.specs.Questions.{number_has}
use Rattle.table.specs.Trees.{Tree, node, Forest, nil, ◌▸◌, records}
use Rattle.marking.specs.Marks.{most_has}
use Rattle.filling.specs.Nodes.{Number, Plain, Symbol, Most, Limit, Unlimited, AtMost, Kind, Block, Sequence, Choice, Loop, Node}

-- ---- a node with other numbers: g is put to its time or bound, h to its limit

unfoldable pub on_kind : (g : Number → Number) → Kind → Kind
on_kind g (Block t) = Block (g t)
on_kind g Sequence = Sequence
on_kind g Choice = Choice
on_kind g (Loop n) = Loop (g n)

unfoldable pub on_limit : (h : Most → Most) → Limit → Limit
on_limit h Unlimited = Unlimited
on_limit h (AtMost k m) = AtMost k (h m)

abbrev pub on_node : (g : Number → Number) (h : Most → Most) → Node → Node
on_node g h n = record { kind = on_kind g n.kind; limit = on_limit h n.limit; address = n.address }

-- every node of a tree whose first record is number i: the children follow their parent, each with everything below it
unfoldable mutual
  pub on_tree : (g : ℕ → Number → Number) (h : ℕ → Most → Most) (i : ℕ) → Tree → Tree
  on_tree g h i (node n f) = node (on_node (g i) (h i) n) (on_forest g h (suc i) f)

  pub on_forest : (g : ℕ → Number → Number) (h : ℕ → Most → Most) (i : ℕ) → Forest → Forest
  on_forest g h i nil = nil
  on_forest g h i (t ▸ f) = on_tree g h i t ▸ on_forest g h (i + records t) f

-- ---- filling: the plain number x in every field that has symbol s

abbrev pub fill_number : (s x : ℕ) → Number → Number
fill_number s x m = cond (number_has s m) (Plain x) m

abbrev pub fill_most : (s x : ℕ) → Most → Most
fill_most s x m = cond (most_has s m) (Most.Plain x) m

abbrev pub fill_tree : (s x : ℕ) → Tree → Tree
fill_tree s x t = on_tree (λ i. fill_number s x) (λ i. fill_most s x) 0 t

-- ---- opening: symbol s in every marked field

-- what stands in a field where another is put by a mark: 0 is none
unfoldable pub put : {A : Type 0} (mark : ℕ) (new old : A) → A
put zero new old = old
put (suc m) new old = new

-- by each record's digit: 1 marks the value, 2 the limit
abbrev pub put_value : (v : Number) (digit : ℕ → ℕ) → ℕ → Number → Number
put_value v d i = put (d i % 2) v

abbrev pub put_limit : (m : Most) (digit : ℕ → ℕ) → ℕ → Most → Most
put_limit m d i = put (d i / 2) m

abbrev pub put_tree : (v : Number) (m : Most) (digit : ℕ → ℕ) → Tree → Tree
put_tree v m d t = on_tree (put_value v d) (put_limit m d) 0 t

abbrev pub open_tree : (s : ℕ) (digit : ℕ → ℕ) → Tree → Tree
open_tree s d t = put_tree (Symbol s) (Most.Symbol s) d t
