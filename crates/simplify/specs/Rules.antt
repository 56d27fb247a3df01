-- Document 01, "Simplification": the nine rules.
use Rattle.std.specs.Prelude.{Bool, true, false, not, ◌||◌, cond, ℕ, suc, ◌+◌, max, leb, eqb}
use Rattle.std.proofs.Math.Option.{Option, some, none}
use Rattle.simplify.specs.Nodes.{Kind, Block, Sequence, Choice, Loop, Limit, Plain, Symbol, Unlimited, Node}
use Rattle.booleans.specs.Tests.{◌and◌}
use Rattle.table.specs.Numbers.{most_children, whole_run}
use Rattle.table.specs.Trees.{Tree, node, Forest, nil, ◌▸◌, size, ◌⧺◌}
use Rattle.evaluate.specs.Evaluate.{figure, zeros, before, name}
use Rattle.evaluate.specs.Closed.{plain_kind, is_unlimited, symbol_free, closed_in, closed}
use Rattle.simplify.specs.Same.{same_kind, same}

unfoldable pub is_block : Kind → Bool
is_block (Block t) = true
is_block Sequence = false
is_block Choice = false
is_block (Loop n) = false

-- a sequence or a choice: a node that joins its children alike
unfoldable pub is_sum : Kind → Bool
is_sum (Block t) = false
is_sum Sequence = true
is_sum Choice = true
is_sum (Loop n) = false

unfoldable pub limit_of : Tree → Limit
limit_of (node n f) = n.limit

unfoldable pub address_of : Tree → ℕ
address_of (node n f) = n.address

unfoldable pub children : Tree → Forest
children (node n f) = f

-- a limit that moves leaves its address behind: the node keeps its own
unfoldable pub relimit : Limit → Tree → Tree
relimit l (node n f) = node (record { kind = n.kind; limit = l; address = n.address }) f

-- a plain block that a rule makes: its address is 0
unfoldable pub leaf : ℕ → Limit → Tree
leaf x l = node (record { kind = Block (Plain x); limit = l; address = 0 }) nil

-- an unlimited plain block, at whatever address, and its time
unfoldable pub bare : Tree → Bool
bare (node n nil) = is_block n.kind and plain_kind n.kind and is_unlimited n.limit
bare (node n (t ▸ f)) = false

unfoldable pub time_of_kind : Kind → ℕ
time_of_kind (Block (Plain x)) = x
time_of_kind (Block (Symbol s)) = 0
time_of_kind Sequence = 0
time_of_kind Choice = 0
time_of_kind (Loop n) = 0

unfoldable pub time_of : Tree → ℕ
time_of (node n f) = time_of_kind n.kind

-- ---- the rules; each answers what a node with its children becomes, where it fits

unfoldable pub when : Bool → Tree → Option Tree
when true t = some t
when false t = none

-- 1. a symbol-free table becomes one unlimited block of its figure, unless it is that already, at whatever address
unfoldable pub rule1 : Tree → Option Tree
rule1 t = when (symbol_free t and not (bare t)) (leaf (figure zeros t) Unlimited)

-- 2. the first unlimited child of the same kind whose children fit, with c children in all, gives way to them
unfoldable pub gives : Kind → ℕ → Tree → Bool
gives k c (node n f) = same_kind n.kind k and is_unlimited n.limit and leb (c + size f) (suc most_children)

unfoldable pub any_gives : Kind → ℕ → Forest → Bool
any_gives k c nil = false
any_gives k c (t ▸ f) = gives k c t || any_gives k c f

unfoldable pub give_way : Kind → ℕ → Forest → Forest
give_way k c nil = nil
give_way k c (t ▸ f) = cond (gives k c t) (children t ⧺ f) (t ▸ give_way k c f)

unfoldable pub rule2 : Node → Forest → Option Tree
rule2 n f = when (is_sum n.kind and any_gives n.kind (size f) f) (node n (give_way n.kind (size f) f))

-- 3. a sequence or choice of one child becomes the child, if at most one of the two has a limit
unfoldable pub alone : Limit → Forest → Option Tree
alone l nil = none
alone l (t ▸ nil) = cond (is_unlimited l) (some t) (when (is_unlimited (limit_of t)) (relimit l t))
alone l (t ▸ u ▸ f) = none

unfoldable pub rule3 : Node → Forest → Option Tree
rule3 n f = cond (is_sum n.kind) (alone n.limit f) none

-- 4. a symbol-free node, not a block, whose children are each closed once limits naming that node itself are set aside (closed_in counts a loop as
-- inside for its body), becomes a block of its first member before its own limit, keeping that limit
unfoldable pub rule4 : Node → Forest → Option Tree
rule4 n f =
    when (symbol_free (node n f) and not (is_block n.kind) and closed_in n.kind f 0)
    (leaf (before zeros n.kind f 0) n.limit)

-- 5. the first unlimited plain block of time 0 goes
unfoldable pub is_zero : Tree → Bool
is_zero t = bare t and eqb (time_of t) 0

unfoldable pub any_zero : Forest → Bool
any_zero nil = false
any_zero (t ▸ f) = is_zero t || any_zero f

unfoldable pub without : Forest → Forest
without nil = nil
without (t ▸ f) = cond (is_zero t) f (t ▸ without f)

unfoldable pub rule5 : Node → Forest → Option Tree
rule5 n f = when (is_sum n.kind and leb 2 (size f) and any_zero f) (node n (without f))

-- 6 and 7. the unlimited plain blocks, and the other children
unfoldable pub bares : Forest → ℕ
bares nil = 0
bares (t ▸ f) = cond (bare t) (suc (bares f)) (bares f)

unfoldable pub others : Forest → Forest
others nil = nil
others (t ▸ f) = cond (bare t) (others f) (t ▸ others f)

unfoldable pub total : Forest → ℕ
total nil = 0
total (t ▸ f) = cond (bare t) (time_of t + total f) (total f)

unfoldable pub largest : Forest → ℕ
largest nil = 0
largest (t ▸ f) = cond (bare t) (max (time_of t) (largest f)) (largest f)

unfoldable pub rule6 : Node → Forest → Option Tree
rule6 n f = when (same_kind n.kind Sequence and leb 2 (bares f)) (node n (leaf (total f) Unlimited ▸ others f))

-- x at the first one's place
unfoldable pub at_first : ℕ → Forest → Forest
at_first x nil = nil
at_first x (t ▸ f) = cond (bare t) (leaf x Unlimited ▸ others f) (t ▸ at_first x f)

unfoldable pub rule7 : Node → Forest → Option Tree
rule7 n f = when (same_kind n.kind Choice and leb 2 (bares f)) (node n (at_first (largest f) f))

-- 8. at least two unlimited two-child sequences with one closed second child, but for its addresses
unfoldable pub is_pair : Tree → Bool
is_pair (node n nil) = false
is_pair (node n (a ▸ nil)) = false
is_pair (node n (a ▸ x ▸ nil)) = same_kind n.kind Sequence and is_unlimited n.limit
is_pair (node n (a ▸ x ▸ y ▸ f)) = false

unfoldable pub head_of : Forest → Tree
head_of nil = leaf 0 Unlimited
head_of (t ▸ f) = t

unfoldable pub tail_of : Forest → Forest
tail_of nil = nil
tail_of (t ▸ f) = f

unfoldable pub first_of : Tree → Tree
first_of t = head_of (children t)

unfoldable pub second_of : Tree → Tree
second_of t = head_of (tail_of (children t))

unfoldable pub all_pairs : Tree → Forest → Bool
all_pairs x nil = true
all_pairs x (t ▸ f) = is_pair t and same (second_of t) x and all_pairs x f

unfoldable pub firsts : Forest → Forest
firsts nil = nil
firsts (t ▸ f) = first_of t ▸ firsts f

unfoldable pub shares : Forest → Bool
shares f = leb 2 (size f) and closed (second_of (head_of f)) 0 and all_pairs (second_of (head_of f)) f

-- the sequence takes the choice's limit and address; of the second children the first one remains, with its addresses
unfoldable pub shared_out : Limit → (address : ℕ) → Forest → Tree
shared_out l a f =
    node (record { kind = Sequence; limit = l; address = a })
    (node (record { kind = Choice; limit = Unlimited; address = 0 }) (firsts f) ▸ second_of (head_of f) ▸ nil)

unfoldable pub rule8 : Node → Forest → Option Tree
rule8 n f = when (same_kind n.kind Choice and shares f) (shared_out n.limit n.address f)

-- 9. an unlimited loop of plain bound 0 whose body names this loop or the whole run becomes its exit
unfoldable pub exit : Forest → Option Tree
exit nil = none
exit (b ▸ nil) = none
exit (b ▸ e ▸ nil) = when (eqb (name b) 1 || eqb (name b) whole_run) e
exit (b ▸ e ▸ t ▸ f) = none

unfoldable pub rule9 : Node → Forest → Option Tree
rule9 n f = cond (same_kind n.kind (Loop (Plain 0)) and is_unlimited n.limit) (exit f) none
