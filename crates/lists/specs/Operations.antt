-- Document 01, "Evaluation", on pairs: sequence, choice, loop and limit as they are computed, run by run.
use Rattle.std.specs.Prelude.{cond, ℕ, suc, zero, ◌-◌, min, ◌+◌, max, ◌%◌, ◌*◌, ◌/◌, leb, ltb, eqb}
use Rattle.lists.specs.Pairs.{Pairs, ever, run, top, width}
use Rattle.lists.specs.declared.Turn.{Turn}

unfoldable pub count : Pairs → ℕ
count (ever v) = 0
count (run v c r) = c

unfoldable pub rest : Pairs → Pairs
rest (ever v) = ever v
rest (run v c r) = r

-- a pair, for ever where the count is 0
unfoldable pub make : ℕ → ℕ → Pairs → Pairs
make v zero r = ever v
make v (suc c) r = run v (suc c) r

-- a pair, or none where the count is 0
unfoldable pub lead : ℕ → ℕ → Pairs → Pairs
lead v zero r = r
lead v (suc c) r = run v (suc c) r

-- Limit: the first m members, and 0 after
unfoldable pub capped : ℕ → ℕ → Pairs
capped zero m = ever 0
capped (suc v) m = lead (suc v) m (ever 0)

unfoldable pub cap_pairs : ℕ → Pairs → Pairs
cap_pairs m (ever v) = capped v m
cap_pairs m (run v c r) = cond (leb m c) (capped v m) (run v c (cap_pairs (m - c) r))

-- Sequence: place by place
-- the shorter of two counts, 0 meaning for ever
unfoldable pub shorter : ℕ → ℕ → ℕ
shorter zero d = d
shorter (suc c) zero = suc c
shorter (suc c) (suc d) = min (suc c) (suc d)

-- without the first m members, all of the first pair
unfoldable pub skip : ℕ → Pairs → Pairs
skip m (ever v) = ever v
skip m (run v c r) = cond (leb c m) r (run v (c - m) r)

unfoldable pub add_within : ℕ → Pairs → Pairs → Pairs
add_within zero r s = ever (top r + top s)
add_within (suc f) r s =
    let m = shorter (count r) (count s) in
    make (top r + top s) m (add_within f (skip m r) (skip m s))

unfoldable pub add_pairs : Pairs → Pairs → Pairs
add_pairs r s = add_within (width r + width s) r s

-- Choice: the members of both, largest first; equal values join, for ever where either is
unfoldable pub joined : ℕ → ℕ → ℕ
joined zero d = 0
joined (suc c) zero = 0
joined (suc c) (suc d) = suc c + suc d

unfoldable pub merge_within : ℕ → Pairs → Pairs → Pairs
merge_within zero r s = ever (max (top r) (top s))
merge_within (suc f) r s =
    cond (ltb (top s) (top r)) (make (top r) (count r) (merge_within f (rest r) s))
    (cond (ltb (top r) (top s)) (make (top s) (count s) (merge_within f r (rest s)))
    (make (top r) (joined (count r) (count s)) (merge_within f (rest r) (rest s))))

unfoldable pub merge_pairs : Pairs → Pairs → Pairs
merge_pairs r s = merge_within (width r + width s) r s

-- Loop: groups of n, each summed
unfoldable pub some : ℕ → ℕ
some zero = 0
some (suc m) = 1

-- a run of c times v comes to a group begun with m members of the sum a: the group ends or not, then come whole groups of v, and a group is begun
unfoldable pub turn_of : ℕ → ℕ → ℕ → ℕ → ℕ → Turn
turn_of n m a v c =
    cond (eqb m 0) (record { mixed = 0; ends = 0; times = c / n; held = c % n; sum = c % n * v })
    (cond (ltb c (n - m)) (record { mixed = 0; ends = 0; times = 0; held = m + c; sum = a + c * v })
    (record { mixed = a + (n - m) * v; ends = 1; times = (c - (n - m)) / n; held = (c - (n - m)) % n; sum = (c - (n - m)) % n * v }))

unfoldable pub group_from : ℕ → ℕ → ℕ → Pairs → Pairs
group_from n m a (ever v) = lead (a + (n - m) * v) (some m) (ever (n * v))
group_from n m a (run v c r) =
    let t = turn_of n m a v c in
    lead t.mixed t.ends (lead (n * v) t.times (group_from n t.held t.sum r))

unfoldable pub group_pairs : ℕ → Pairs → Pairs
group_pairs zero r = ever 0
group_pairs (suc n) r = group_from (suc n) 0 0 r

-- the sum of the first P members
unfoldable pub first : Pairs → ℕ → ℕ
first (ever v) P = P * v
first (run v c r) P = min c P * v + first r (P - c)
