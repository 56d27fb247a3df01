-- Trees as document 01 writes them under "Cases": every address is 0, but for a node that is given one.
use Rattle.std.specs.Prelude.{Bool, true, List, [], ◌∷◌, ℕ}
use Rattle.booleans.specs.Tests.{◌and◌}
use Rattle.table.specs.Nodes.{Plain, Symbol, Most, Unlimited, AtMost, Block, Sequence, Choice, Loop}
use Rattle.table.specs.Trees.{Tree, node, Forest, nil, ◌▸◌}

unfoldable pub block : ℕ → Tree
block n = node (record { kind = Block (Plain n); limit = Unlimited; address = 0 }) nil

-- a block whose time is a symbol
unfoldable pub symbol : ℕ → Tree
symbol s = node (record { kind = Block (Symbol s); limit = Unlimited; address = 0 }) nil

infixl 60 ◌/◌at◌
-- a/m@k
unfoldable pub ◌/◌at◌ : Tree → ℕ → ℕ → Tree
(node n f) / m at k = node (record { kind = n.kind; limit = AtMost k (Most.Plain m); address = n.address }) f

infixl 60 ◌/T◌at◌
-- a/m@k, where m is the triangular number of symbol s
unfoldable pub ◌/T◌at◌ : Tree → ℕ → ℕ → Tree
(node n f) /T s at k = node (record { kind = n.kind; limit = AtMost k (Most.Triangular s); address = n.address }) f

infixl 60 ◌addressed◌
-- a node at an address
unfoldable pub ◌addressed◌ : Tree → ℕ → Tree
(node n f) addressed a = node (record { kind = n.kind; limit = n.limit; address = a }) f

-- (a, b, ..)
unfoldable pub sequence : Forest → Tree
sequence f = node (record { kind = Sequence; limit = Unlimited; address = 0 }) f

-- (a, b)
unfoldable pub both : Tree → Tree → Tree
both a b = sequence (a ▸ b ▸ nil)

-- C(a|b|..)
abbrev pub choice : Forest → Tree
choice f = node (record { kind = Choice; limit = Unlimited; address = 0 }) f

-- C(a|b)
unfoldable pub either : Tree → Tree → Tree
either a b = choice (a ▸ b ▸ nil)

-- a loop of this bound, its body and its exit
unfoldable pub loop : ℕ → Tree → Tree → Tree
loop n b e = node (record { kind = Loop (Plain n); limit = Unlimited; address = 0 }) (b ▸ e ▸ nil)

-- every case of a list holds
unfoldable pub all_hold : List Bool → Bool
all_hold [] = true
all_hold (c ∷ cs) = c and all_hold cs
