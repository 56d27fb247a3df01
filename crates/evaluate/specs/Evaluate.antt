-- Document 01, "Evaluation": a node's value is an endless list that never rises, with the loop it names.
use Rattle.std.specs.Prelude.{cond, Bool, true, List, ℕ, zero, suc, min, ◌+◌, ◌-◌, leb, get_or}
use Rattle.evaluate.specs.Nodes.{Number, Plain, Symbol, Most, Limit, Unlimited, AtMost, Kind, Block, Sequence, Choice, Loop}
use Rattle.booleans.specs.Tests.{◌and◌}
use Rattle.table.specs.Numbers.{whole_run, most_time, later_place}
use Rattle.table.specs.Questions.{paired}
use Rattle.table.specs.Trees.{Tree, node, Forest, nil, ◌▸◌, rest}
use Rattle.triangular.specs.Triangular.{triangular}
use Rattle.lists.specs.Streams.{Stream, cap, const, group, add, merge, holder}

-- what a desk's values are, by their numbers
abbrev pub Values : Type 0
Values = ℕ → ℕ

-- by a desk's list of them, the value of symbol 0 first
abbrev pub values_of : List ℕ → Values
values_of vs k = get_or vs k 0

-- what a time or bound comes to
unfoldable pub amount : Values → Number → ℕ
amount v (Plain n) = n
amount v (Symbol k) = v k

-- what a limit comes to: how many passes it allows
unfoldable pub allowed : Values → Most → ℕ
allowed v (Most.Plain n) = n
allowed v (Most.Symbol k) = v k
allowed v (Most.Triangular k) = triangular (v k)

-- What a time comes to at the later passes of its block in a run (document 02, CR 7). The later value of a paired symbol stands so many places after its first.
-- Question 14 keeps it to the first, so that the list never rises; one above it would count as the first.
unfoldable pub later : Values → Number → ℕ
later v (Plain n) = n
later v (Symbol k) = cond (paired (Symbol k)) (min (v k) (v (k + later_place))) (v k)

-- ---- the loop that a list names: 1 and on the loops around the node, counted outward, and 255 the whole run, so that the inner of two is the smaller

-- the inner of the node's own named loop and its limit's
unfoldable pub inner : Limit → ℕ → ℕ
inner Unlimited k = k
inner (AtMost j m) k = min j k

-- a loop named inside a loop's body, counted from outside: that very loop gives way to the whole run
unfoldable pub outward : ℕ → ℕ
outward k = cond (leb k 1) whole_run (cond (leb whole_run k) whole_run (k - 1))

unfoldable pub seen : Kind → ℕ → ℕ
seen (Block t) k = k
seen Sequence k = k
seen Choice k = k
seen (Loop n) k = outward k

-- a block names the whole run, a sequence or choice the innermost loop that any child names; it does not depend on values
unfoldable mutual
  pub name : Tree → ℕ
  name (node n f) = inner n.limit (name_in n.kind f)

  pub name_in : Kind → Forest → ℕ
  name_in k nil = whole_run
  name_in k (t ▸ f) = min (seen k (name t)) (name_in (rest k) f)

-- ---- the list

-- a limit m keeps the first m members and puts 0 after
unfoldable pub limit : Values → Limit → Stream → Stream
limit v Unlimited f = f
limit v (AtMost k m) f = cap (allowed v m) f

-- a loop of bound n over a body that names loop k: groups of n, each summed; only the first sum, for ever, where k is this very loop
unfoldable pub rounds : ℕ → ℕ → Stream → Stream
rounds k n f = cond (leb k 1) (const (group n f 0)) (group n f)

-- the first child, whose list f names loop k, as its parent takes it: a loop goes round its body
unfoldable pub turns : Values → Kind → ℕ → Stream → Stream
turns v (Block t) k f = f
turns v Sequence k f = f
turns v Choice k f = f
turns v (Loop n) k f = rounds k (amount v n) f

-- a choice takes the lists' members together; the others are added
unfoldable pub join : Kind → Stream → Stream → Stream
join (Block t) f g = add f g
join Sequence f g = add f g
join Choice f g = merge f g
join (Loop n) f g = add f g

-- a once, and b for ever
unfoldable pub once_then : ℕ → ℕ → Stream
once_then a b zero = a
once_then a b (suc i) = b

-- what the children's lists are joined to: a block's list is its first value, then its later one, which is the same unless its symbol is paired; 0 changes no
-- sum and no choice
unfoldable pub start : Values → Kind → Stream
start v (Block t) = once_then (amount v t) (later v t)
start v Sequence = const 0
start v Choice = const 0
start v (Loop n) = const 0

unfoldable mutual
  pub list : Values → Tree → Stream
  list v (node n f) = limit v n.limit (before v n.kind f)

  -- before the node's own limit
  pub before : Values → Kind → Forest → Stream
  before v k nil = start v k
  before v k (t ▸ f) = join k (turns v k (name t) (list v t)) (before v (rest k) f)

-- the root list's first member
unfoldable pub figure : Values → Tree → ℕ
figure v t = list v t 0

-- ---- the branch that sets the quote (document 02, CR 5)

-- what a node that is no choice has: a choice has at most 255 children, so that no child has this number
abbrev pub no_branch : ℕ
no_branch = 255

-- which of a choice's children, counted from 0, holds the largest first member after its own limit, the earliest on ties
unfoldable pub holder_in : Values → Forest → ℕ
holder_in v nil = 0
holder_in v (t ▸ f) = holder (list v t) (before v Choice f) (holder_in v f)

-- only a choice says; the others pass nothing on
unfoldable pub branch_in : Values → Kind → Forest → ℕ
branch_in v (Block t) f = no_branch
branch_in v Sequence f = no_branch
branch_in v Choice f = holder_in v f
branch_in v (Loop n) f = no_branch

-- the node's own limit changes its list, not the branch
unfoldable pub branch : Values → Tree → ℕ
branch v (node n f) = branch_in v n.kind f

-- question 10: every node's first member, before its own limit, is at most the ceiling
unfoldable mutual
  pub fits : Values → Tree → Bool
  fits v (node n f) = leb (before v n.kind f 0) most_time and fits_in v f

  pub fits_in : Values → Forest → Bool
  fits_in v nil = true
  fits_in v (t ▸ f) = fits v t and fits_in v f

-- question 10 of simplifying puts every value 0
abbrev pub zeros : Values
zeros k = 0
