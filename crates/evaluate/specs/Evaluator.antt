-- The evaluation of a table's tree as the program does it: one walk, on bytes, with lists as pairs.
-- It is total, and meant where questions 1 to 7 and 9 say yes: proofs/Laws/Evaluator says what it then finds. Elsewhere its tests keep every number in range.
use Rattle.std.specs.Prelude.{◌≡◌, Bool, false, true, cond, List, ℕ, ◌+◌, min, ◌*◌, ◌<◌, zero, suc, eqb, leb, ltb, drop, length}
use Rattle.table.specs.Numbers.{whole_run, most_time, most_weight, most_count, record_length, how_many_symbols, how_many_values}
use Rattle.table.specs.Table.{first_node, child_byte}
use Rattle.table.specs.Trees.{rest}
use Rattle.lists.specs.Operations.{add_pairs, merge_pairs, group_pairs, first, cap_pairs}
use Rattle.lists.specs.Pairs.{Pairs, ever, in_front, top, width}
use Rattle.evaluate.specs.Nodes.{Kind, Block, Sequence, Choice, Loop, Limit, Unlimited, AtMost, Most, Number}
use Rattle.evaluate.specs.Evaluate.{outward, Values, allowed, amount, later, no_branch}

-- what a walk finds of a tree, or of a node's children so far: the pairs of the list, the loop it names, how many records, which child of a choice holds the
-- largest first member, and whether question 10 says yes
pub record Found : Type 0 where
  pub pairs : Pairs
  pub named : ℕ
  pub records : ℕ
  pub branch : ℕ
  pub fits : Bool

-- where question 10 says no, nothing else is found
abbrev pub unfit : Found
unfit = record { pairs = ever 0; named = whole_run; records = 0; branch = no_branch; fits = false }

abbrev pub found : Pairs → (named records branch : ℕ) → Found
found p k n c = record { pairs = p; named = k; records = n; branch = c; fits = true }

-- before a node's first child: child 0 has the branch until a later one is larger
abbrev pub none_yet : Found
none_yet = found (ever 0) whole_run 0 0

-- pairs whose first value is within the ceiling of question 10
abbrev pub checked : Pairs → (named records branch : ℕ) → Found
checked p k n c = cond (leb (top p) most_time) (found p k n c) unfit

-- a choice takes the lists' members together; the others are added
unfoldable pub join_pairs : Kind → Pairs → Pairs → Pairs
join_pairs (Block t) r s = add_pairs r s
join_pairs Sequence r s = add_pairs r s
join_pairs Choice r s = merge_pairs r s
join_pairs (Loop n) r s = add_pairs r s

-- which of a choice's children holds the largest first member: child c, whose is x, or the next one, number i, where its first member y is larger
unfoldable pub next_holder : Kind → (c x i y : ℕ) → ℕ
next_holder (Block t) c x i y = no_branch
next_holder Sequence c x i y = no_branch
next_holder Choice c x i y = cond (leb y x) c i
next_holder (Loop n) c x i y = no_branch

-- the children so far, and the next one, child number i
unfoldable pub joined : Kind → (i : ℕ) → Found → Found → Found
joined k i s c =
    cond (leb (width s.pairs + width c.pairs) most_weight)
    (checked (join_pairs k s.pairs c.pairs) (min s.named c.named) (s.records + c.records) (next_holder k s.branch (top s.pairs) i (top c.pairs)))
    unfit

-- a loop of bound n over its body: the first sum where the body names this very loop, else groups of n; joining leaves the body's branch behind
unfoldable pub looped : ℕ → Found → Found
looped n c =
    cond (leb n most_count)
    (cond (leb c.named 1) (checked (ever (first c.pairs n)) (outward c.named) c.records c.branch)
    (cond (leb (2 * width c.pairs) most_weight) (checked (group_pairs n c.pairs) (outward c.named) c.records c.branch) unfit))
    unfit

-- the first child, as its parent takes it
unfoldable pub gone_round : Values → Kind → Found → Found
gone_round v (Block t) c = c
gone_round v Sequence c = c
gone_round v Choice c = c
gone_round v (Loop n) c = looped (amount v n) c

-- one after the other, where the first fits
abbrev pub and_then : Found → (Found → Found) → Found
and_then c f = cond c.fits (f c) unfit

-- n more children of a node of kind k, numbers i and on, after those of s; f evaluates a tree by the bytes from its record on. What does not fit ends the walk.
unfoldable pub evaluate_more : Values → (List ℕ → Found) → Kind → (i n : ℕ) → List ℕ → Found → Found
evaluate_more v f k i zero b s = s
evaluate_more v f k i (suc n) b s =
    and_then (f (drop (record_length * s.records) b)) (λ c.
    and_then (gone_round v k c) (λ d.
    and_then (joined k i s d) (λ e. evaluate_more v f (rest k) (suc i) n b e)))

-- a block's first value, then its later one
unfoldable pub time_pairs : Values → Number → Pairs
time_pairs v t = in_front (amount v t) (ever (later v t))

-- a node of this kind and its children, before its own limit; a block has none
unfoldable pub evaluate_below : Values → (List ℕ → Found) → Kind → ℕ → List ℕ → Found
evaluate_below v f (Block t) n b = checked (time_pairs v t) whole_run 0 no_branch
evaluate_below v f Sequence n b = evaluate_more v f Sequence 0 n b none_yet
evaluate_below v f Choice n b = evaluate_more v f Choice 0 n b none_yet
evaluate_below v f (Loop m) n b = evaluate_more v f (Loop m) 0 n b none_yet

-- The walk is lent all values and, behind them, the triangular numbers of those of symbols. That of symbol k, or 0 past the symbols:
unfoldable pub triangle_in : Values → ℕ → ℕ
triangle_in u k = cond (ltb k how_many_symbols) (u (how_many_values + k)) 0

-- what a limit comes to, by what is lent
unfoldable pub looked : Values → Most → ℕ
looked u (Most.Plain n) = n
looked u (Most.Symbol k) = u k
looked u (Most.Triangular k) = triangle_in u k

-- the node's own limit, and its record
unfoldable pub limited : Values → Limit → Found → Found
limited v Unlimited s = found s.pairs s.named (suc s.records) s.branch
limited v (AtMost k m) s =
    cond (leb (looked v m) most_count)
    (cond (leb (suc (width s.pairs)) most_weight) (found (cap_pairs (looked v m) s.pairs) (min k s.named) (suc s.records) s.branch) unfit)
    unfit

-- the node of b's first record with everything below it, at most h nodes deep
unfoldable pub evaluate_node : Values → (h : ℕ) → List ℕ → Found
evaluate_node v zero b = unfit
evaluate_node v (suc h) b =
    cond (leb record_length (length b))
    (and_then (evaluate_below v (evaluate_node v h) (first_node b).kind (child_byte b) (drop record_length b)) (limited v (first_node b).limit))
    unfit

-- What is lent to the walk says what the values v say: u has each value that v has,
abbrev pub Agree : (u v : Values) → Type 0
Agree u v = (k : ℕ) → k < how_many_values → u k ≡ v k

-- and a limit comes to the same.
unfoldable pub alike : (u v : Values) → Most → Bool
alike u v m = eqb (looked u m) (allowed v m)
