-- The grafted tree: the host's named loop, and the host's list with the symbol set to the sent tree's figure.
use Rattle.std.specs.Prelude.{◌≡◌, Bool, true, false, ◌||◌, ℕ, suc, min, ◌<◌, ◌≤◌, T, eqb, leb, ltb}
use Rattle.std.proofs.Math.Path.{refl, ap, ap₂}
use Rattle.std.proofs.Common.{◌∙◌, sym, subst, le→leb, ltb→lt, ne_eqb}
use native.Mathlib.Omega.{arith}
use Rattle.triangular.specs.Triangular.{triangular}
use Rattle.table.specs.declared.Most.{Most}
use Rattle.table.specs.declared.Number.{Number}
use Rattle.table.specs.declared.Number.TheVariants.{Plain, Symbol}
use Rattle.table.specs.declared.Limit.{Limit}
use Rattle.table.specs.declared.Limit.TheVariants.{Unlimited, AtMost}
use Rattle.table.specs.declared.Kind.{Kind}
use Rattle.table.specs.declared.Kind.TheVariants.{Block, Sequence, Choice, Loop}
use Rattle.booleans.specs.Tests.{◌and◌}
use Rattle.booleans.specs.Laws.{both, join-and, by_cond, either, or_else, is_T, T-is}
use Rattle.table.specs.Numbers.{first_paired_symbol, first_time_symbol, most_time, whole_run}
use Rattle.table.specs.Trees.{Tree, node, Forest, nil, ◌▸◌, size, rest, around}
use Rattle.table.specs.Questions.{Accepted, arity, count_in_range, is_address, kind_in_range, limit_in_range, listed, listed_in, name_ok, named, named_in, number_has, paired, paired_block, time_in_range, most_in_range, unpaired}
use Rattle.lists.specs.Streams.{Stream, S, add, cap, const, group, shift}
use Rattle.evaluate.specs.Evaluate.{Values, amount, before, branch, branch_in, figure, fits, fits_in, holder_in, inner, join, later, limit, list, name, name_in, no_branch, once_then, rounds, seen, start, turns, allowed}
use Rattle.evaluate.specs.Closed.{stays, closed, closed_in}
use Rattle.evaluate.proofs.Laws.Evaluator.{Fair, rest-ranged}
use Rattle.evaluate.proofs.Laws.Ranges.{figure-most}
use Rattle.evaluate.proofs.Laws.Constant.{closed_in-const, closed_in-run}
use Rattle.evaluate.proofs.Laws.Times.{later-below, once-same}
use Rattle.values.proofs.Laws.Set.{later-but, set_other, set_there, set_value}
use Rattle.splice.specs.Graft.{graft, graft_in, in_place, is_symbol, rename, uses, uses_in, zero_block}
use Rattle.splice.specs.Laws.Sizes.{size-grafted, symbol-only}
use Rattle.graft.proofs.Laws.Renamed.{rename-closed, rename-fits, rename-list, rename-listed, rename-named}

-- what is asked of a sent tree
pub accepted-fair : (u : Tree) → Accepted u → Fair u 0
accepted-fair u a = record { listed = a.listed; nested = a.nested; named = a.named; weighed = a.weighed }

-- what question 11 asks of the symbol and of a sent tree, besides that it does not use the symbol
pub record Replaces (s : ℕ) (u : Tree) : Type 0 where
  pub time : first_time_symbol ≤ s
  pub low : s < first_paired_symbol
  pub unpaired : T (unpaired u)

-- ---- a tree that does not use the symbol stays as it is

or-none : (a b : Bool) → (a || b) ≡ false → (a ≡ false) × (b ≡ false)
or-none true b e = absurd (subst T e tt)
or-none false b e = (refl, e)

module _ (s : ℕ) (u : Tree) where
  mutual
    unfolding graft uses

    pub graft-unused : (t : Tree) → uses s t ≡ false → graft s u t ≡ t
    graft-unused (node n f) e = let (x, y) = or-none (is_symbol s n.kind) (uses_in s f) e in rw x (ap (node n) (graft_in-unused f y))

    graft_in-unused : (f : Forest) → uses_in s f ≡ false → graft_in s u f ≡ f
    graft_in-unused nil e = refl
    graft_in-unused (t ▸ f) e = let (x, y) = or-none (uses s t) (uses_in s f) e in ap₂ ◌▸◌ (graft-unused t x) (graft_in-unused f y)

-- ---- the loop that is put in place

-- its children
abbrev placed : Tree → Forest
placed u = rename u 0 ▸ zero_block ▸ nil

placed-closed : (u : Tree) → Fair u 0 → T (unpaired u) → T (closed_in (Loop (Plain 1)) (placed u) 0)
unfolding closed stays around rest paired_block paired
placed-closed u s i = join-and _ _ (rename-closed u 0 s.listed i s.nested s.named) (unfold ◌and◌ in tt)

-- a block with the symbol names the whole run, and its list repeats the symbol's value
symbol-name : (s : ℕ) (k : Kind) (f : Forest) → T (is_symbol s k) → T (arity k (size f)) → name_in k f ≡ whole_run
unfolding name
symbol-name s k f h a = let (x, y) = symbol-only s k f h a in ap₂ name_in x y

symbol-list : (v : Values) (s : ℕ) → s < first_paired_symbol → (k : Kind) (f : Forest) → T (is_symbol s k) → T (arity k (size f)) → before v k f ≡ const (v s)
unfolding list start amount
symbol-list v s l k f h a = let (x, y) = symbol-only s k f h a in ap₂ (before v) x y ∙ ap (once_then (v s)) (later-below v s l) ∙ once-same (v s)

-- ---- names

place-name : (u : Tree) (l : Limit) (a : ℕ) → Fair u 0 → T (unpaired u) → name (in_place u l a) ≡ inner l whole_run
unfolding in_place name
place-name u l a s i = ap (inner l) (closed_in-run (Loop (Plain 1)) (placed u) (placed-closed u s i))

module _ (s : ℕ) (u : Tree) (o : Fair u 0) (i : T (unpaired u)) where
  mutual
    unfolding graft listed name

    pub graft-name : (t : Tree) → T (listed t) → name (graft s u t) ≡ name t
    graft-name (node n f) h =
        let (p, c) = both _ _ h in
        by_cond (λ t. name t ≡ inner n.limit (name_in n.kind f)) (is_symbol s n.kind) _ _
        (λ b. place-name u n.limit n.address o i ∙ ap (inner n.limit) (sym (symbol-name s n.kind f b (both _ _ p).1)))
        (λ e. ap (inner n.limit) (graft_in-name n.kind f c))

    pub graft_in-name : (k : Kind) (f : Forest) → T (listed_in f) → name_in k (graft_in s u f) ≡ name_in k f
    graft_in-name k nil h = refl
    graft_in-name k (t ▸ f) h = let (a, b) = both _ _ h in ap₂ (λ x y. min (seen k x) y) (graft-name t a) (graft_in-name (rest k) f b)

-- ---- lists

first-turn : (k : ℕ) (f : Stream) → rounds k 1 f 0 ≡ f 0
unfolding rounds const
first-turn k f = by_cond (λ (g : Stream). g 0 ≡ f 0) (leb k 1) (const (group 1 f 0)) (group 1 f) (λ h. one) (λ h. one)
  where
    one : group 1 f 0 ≡ f 0
    one = unfold group S shift in omega arith

-- the loop's first member before its limit is the sent tree's figure
place-first : (v : Values) (u : Tree) → Fair u 0 → before v (Loop (Plain 1)) (placed u) 0 ≡ figure v u
unfolding list join add turns amount rest start const once_then figure limit
place-first v u s =
    let e = first-turn (name (rename u 0)) (list v (rename u 0)) in
    let q = ap (λ f. f 0) (rename-list v u 0 s.nested s.named) in
    omega (arith, e, q)

place-list : (v : Values) (u : Tree) (l : Limit) (a : ℕ) → Fair u 0 → T (unpaired u) → list v (in_place u l a) ≡ limit v l (const (figure v u))
unfolding in_place list paired_block
place-list v u l a s i =
    ap (limit v l) (closed_in-const v (Loop (Plain 1)) (placed u) tt (placed-closed u s i) ∙ ap const (place-first v u s))

-- ---- values that agree but for symbol s: of symbols from 16 on, only times read them

module _ (v w : Values) (s : ℕ) (h : first_time_symbol ≤ s) (same : (k : ℕ) → eqb k s ≡ false → v k ≡ w k) where
  pub count-but : (k : ℕ) → T (ltb k first_time_symbol) → v k ≡ w k
  count-but k r = same k (ne_eqb k s (λ e. omega (arith, ltb→lt k first_time_symbol r)))

  amount-but : (m : Number) → T (count_in_range m) → amount v m ≡ amount w m
  unfolding amount count_in_range
  amount-but (Plain n) r = refl
  amount-but (Symbol k) r = count-but k r

  allowed-but : (m : Most) → T (most_in_range m) → allowed v m ≡ allowed w m
  unfolding allowed most_in_range
  allowed-but (Most.Plain n) r = refl
  allowed-but (Most.Symbol k) r = count-but k r
  allowed-but (Most.Triangular k) r = ap triangular (count-but k r)

  limit-but : (l : Limit) (f : Stream) → T (limit_in_range l) → limit v l f ≡ limit w l f
  unfolding limit limit_in_range
  limit-but Unlimited f r = refl
  limit-but (AtMost k m) f r = ap (λ n. cap n f) (allowed-but m (both _ _ r).1)

  start-but : s < first_paired_symbol → (k : Kind) → T (kind_in_range k) → is_symbol s k ≡ false → start v k ≡ start w k
  unfolding start is_symbol number_has amount later
  start-but l (Block (Plain n)) r e = refl
  start-but l (Block (Symbol k)) r e = ap₂ once_then (same k e) (later-but v w s same l k e)
  start-but l Sequence r e = refl
  start-but l Choice r e = refl
  start-but l (Loop n) r e = refl

  turns-but : (k : Kind) (i : ℕ) (f : Stream) → T (kind_in_range k) → turns v k i f ≡ turns w k i f
  unfolding turns kind_in_range
  turns-but (Block t) i f r = refl
  turns-but Sequence i f r = refl
  turns-but Choice i f r = refl
  turns-but (Loop n) i f r = ap (λ m. rounds i m f) (amount-but n r)

rest-no-symbol : (s : ℕ) (k : Kind) → is_symbol s (rest k) ≡ false
unfolding is_symbol rest
rest-no-symbol s (Block t) = refl
rest-no-symbol s Sequence = refl
rest-no-symbol s Choice = refl
rest-no-symbol s (Loop n) = refl

module _ (v : Values) (s : ℕ) (u : Tree) (g : Replaces s u) (o : Fair u 0) where
  mutual
    unfolding graft listed list

    -- the grafted tree's list is the host's with the symbol set to the sent tree's figure
    pub graft-list : (t : Tree) → T (listed t) → list v (graft s u t) ≡ list (set_value v s (figure v u)) t
    graft-list (node n f) h =
        let (p, c) = both _ _ h in
        let (q, a) = both _ _ p in
        let (k, l) = both _ _ q in
        by_cond (λ t. list v t ≡ limit (set_value v s (figure v u)) n.limit (before (set_value v s (figure v u)) n.kind f)) (is_symbol s n.kind) _ _
        (λ b.
        place-list v u n.limit n.address o g.unpaired ∙ limit-but v (set_value v s (figure v u)) s g.time (set_other v s (figure v u)) n.limit _ l
        ∙ ap (limit (set_value v s (figure v u)) n.limit) (ap const (sym (set_there v s (figure v u))) ∙ sym (symbol-list (set_value v s (figure v u)) s g.low n.kind f b a)))
        (λ e. limit-but v (set_value v s (figure v u)) s g.time (set_other v s (figure v u)) n.limit _ l ∙ ap (limit (set_value v s (figure v u)) n.limit) (graft-before n.kind f (both _ _ k).1 e c))

    pub graft-before : (k : Kind) (f : Forest) → T (kind_in_range k) → is_symbol s k ≡ false → T (listed_in f) → before v k (graft_in s u f) ≡ before (set_value v s (figure v u)) k f
    graft-before k nil r e h = start-but v (set_value v s (figure v u)) s g.time (set_other v s (figure v u)) g.low k r e
    graft-before k (t ▸ f) r e h =
        let (a, b) = both _ _ h in
        ap₂ (join k)
        (turns-but v (set_value v s (figure v u)) s g.time (set_other v s (figure v u)) k _ _ r ∙ ap₂ (turns (set_value v s (figure v u)) k) (graft-name s u o g.unpaired t a) (graft-list t a))
        (graft-before (rest k) f (rest-ranged k) (rest-no-symbol s k) b)

  -- the grafted figure equals the host's figure with the symbol set to the sent tree's figure
  pub graft-figure : (t : Tree) → T (listed t) → figure v (graft s u t) ≡ figure (set_value v s (figure v u)) t
  unfolding figure
  graft-figure t h = ap (λ f. f 0) (graft-list t h)

  -- and so does the branch: what stands in place of a block is no choice, as the block is none
  graft-holder : (f : Forest) → T (listed_in f) → holder_in v (graft_in s u f) ≡ holder_in (set_value v s (figure v u)) f
  unfolding graft listed holder_in kind_in_range is_symbol
  graft-holder nil h = refl
  graft-holder (t ▸ f) h = let (a, b) = both _ _ h in rw (graft-list t a, graft-before Choice f tt refl b, graft-holder f b) refl

  symbol-branch : (k : Kind) (f : Forest) → T (is_symbol s k) → no_branch ≡ branch_in (set_value v s (figure v u)) k f
  unfolding is_symbol branch_in
  symbol-branch (Block t) f b = refl
  symbol-branch Sequence f b = absurd b
  symbol-branch Choice f b = absurd b
  symbol-branch (Loop n) f b = absurd b

  kind-branch : (k : Kind) (f : Forest) → T (listed_in f) → branch_in v k (graft_in s u f) ≡ branch_in (set_value v s (figure v u)) k f
  unfolding branch_in
  kind-branch (Block t) f h = refl
  kind-branch Sequence f h = refl
  kind-branch Choice f h = graft-holder f h
  kind-branch (Loop n) f h = refl

  pub graft-branch : (t : Tree) → T (listed t) → branch v (graft s u t) ≡ branch (set_value v s (figure v u)) t
  unfolding graft listed branch in_place branch_in
  graft-branch (node n f) h =
      by_cond (λ t. branch v t ≡ branch_in (set_value v s (figure v u)) n.kind f) (is_symbol s n.kind) _ _
      (symbol-branch n.kind f)
      (λ e. kind-branch n.kind f (both _ _ h).1)

-- ---- question 10

zero-fits : (v : Values) → T (fits v zero_block and true)
unfolding fits list start amount once_then ◌and◌
zero-fits v = tt

place-fits : (v : Values) (u : Tree) (l : Limit) (i : ℕ) → Fair u 0 → T (fits v u) → T (fits v (in_place u l i))
unfolding in_place fits
place-fits v u l i s h =
    join-and _ _ (subst (λ x. T (leb x most_time)) (sym (place-first v u s)) (le→leb _ _ (figure-most v u h)))
    (join-and _ _ (is_T _ (rename-fits v u 0 s.nested s.named ∙ T-is _ h)) (zero-fits v))

symbol-fits : (w : Values) (s : ℕ) → s < first_paired_symbol → (k : Kind) (f : Forest) → T (is_symbol s k) → T (arity k (size f)) → w s ≤ most_time → T (leb (before w k f 0) most_time and fits_in w f)
unfolding fits const
symbol-fits w s o k f h a l =
    let first : before w k f 0 ≡ w s = ap (λ (g : Stream). g 0) (symbol-list w s o k f h a) in
    join-and _ _ (le→leb (before w k f 0) most_time (omega (arith, first))) (subst (λ (g : Forest). T (fits_in w g)) (sym (symbol-only s k f h a).1) tt)

module _ (v : Values) (s : ℕ) (u : Tree) (g : Replaces s u) (o : Fair u 0) (y : T (fits v u)) where
  set-low : set_value v s (figure v u) s ≤ most_time
  set-low = omega (arith, set_there v s (figure v u), figure-most v u y)

  mutual
    unfolding graft listed fits

    -- where question 10 says yes to the sent tree, it says of the grafted tree what it says of the host
    pub graft-fits : (t : Tree) → T (listed t) → fits v (graft s u t) ≡ fits (set_value v s (figure v u)) t
    graft-fits (node n f) h =
        let (p, c) = both _ _ h in
        let (q, a) = both _ _ p in
        by_cond (λ t. fits v t ≡ (leb (before (set_value v s (figure v u)) n.kind f 0) most_time and fits_in (set_value v s (figure v u)) f)) (is_symbol s n.kind) _ _
        (λ b. T-is _ (place-fits v u n.limit n.address o y) ∙ sym (T-is _ (symbol-fits (set_value v s (figure v u)) s g.low n.kind f b a set-low)))
        (λ e. ap₂ ◌and◌ (ap (λ k. leb (k 0) most_time) (graft-before v s u g o n.kind f (both _ _ (both _ _ q).0).1 e c)) (graft_in-fits f c))

    graft_in-fits : (f : Forest) → T (listed_in f) → fits_in v (graft_in s u f) ≡ fits_in (set_value v s (figure v u)) f
    graft_in-fits nil h = refl
    graft_in-fits (t ▸ f) h = let (a, b) = both _ _ h in ap₂ ◌and◌ (graft-fits t a) (graft_in-fits f b)

module _ (v : Values) (s : ℕ) (u : Tree) (o : Fair u 0) where
  mutual
    unfolding graft uses in_place fits

    -- where the host uses the symbol, question 10 says yes to the grafted tree only if it does to the sent tree
    pub graft-needs : (t : Tree) → T (uses s t) → T (fits v (graft s u t)) → T (fits v u)
    graft-needs (node n f) h =
        by_cond (λ t. T (fits v t) → T (fits v u)) (is_symbol s n.kind) _ _
        (λ b y. subst T (rename-fits v u 0 o.nested o.named) (both _ _ (both _ _ y).1).0)
        (λ e y. graft_in-needs f (or_else (is_symbol s n.kind) (uses_in s f) h e) (both _ _ y).1)

    graft_in-needs : (f : Forest) → T (uses_in s f) → T (fits_in v (graft_in s u f)) → T (fits v u)
    graft_in-needs nil h y = absurd h
    graft_in-needs (t ▸ f) h y = let (a, b) = both _ _ y in either (uses s t) (uses_in s f) h (λ x. graft-needs t x a) (λ x. graft_in-needs f x b)

-- ---- questions 2, 3 and 6: always yes

zero-listed : T (listed zero_block and true)
unfolding listed is_address kind_in_range time_in_range limit_in_range arity size ◌and◌
zero-listed = tt

zero-named : (d : ℕ) → T (named zero_block d and true)
unfolding named name_ok ◌and◌
zero-named d = tt

place-listed : (u : Tree) (l : Limit) (i : ℕ) → Fair u 0 → T (is_address i) → T (limit_in_range l) → T (listed (in_place u l i))
unfolding in_place listed kind_in_range count_in_range time_in_range limit_in_range arity size
place-listed u l i s a h =
    join-and _ _ (join-and _ _ (join-and _ _ (join-and _ _ a tt) h) tt) (join-and _ _ (rename-listed u 0 s.nested s.weighed s.listed) zero-listed)

place-named : (u : Tree) (l : Limit) (i d : ℕ) → Fair u 0 → T (name_ok l d) → T (named (in_place u l i) d)
unfolding in_place named around rest name_ok
place-named u l i d s h = join-and _ _ h (join-and _ _ (rename-named u 0 (suc d) (omega arith) s.named) (zero-named d))

module _ (s : ℕ) (u : Tree) (o : Fair u 0) where
  mutual
    unfolding graft listed

    pub graft-listed : (t : Tree) → T (listed t) → T (listed (graft s u t))
    graft-listed (node n f) h =
        let (p, c) = both _ _ h in
        let (q, a) = both _ _ p in
        by_cond (λ t. T (listed t)) (is_symbol s n.kind) _ _
        (λ b. place-listed u n.limit n.address o (both _ _ (both _ _ q).0).0 (both _ _ q).1)
        (λ e. join-and _ _ (join-and _ _ q (rw (size-grafted s u f) a)) (graft_in-listed f c))

    graft_in-listed : (f : Forest) → T (listed_in f) → T (listed_in (graft_in s u f))
    graft_in-listed nil h = tt
    graft_in-listed (t ▸ f) h = let (a, b) = both _ _ h in join-and _ _ (graft-listed t a) (graft_in-listed f b)

  mutual
    unfolding graft named

    pub graft-named : (t : Tree) (d : ℕ) → T (named t d) → T (named (graft s u t) d)
    graft-named (node n f) d h =
        let (a, b) = both _ _ h in
        by_cond (λ t. T (named t d)) (is_symbol s n.kind) _ _
        (λ c. place-named u n.limit n.address d o a)
        (λ e. join-and _ _ a (graft_in-named n.kind f d b))

    graft_in-named : (k : Kind) (f : Forest) (d : ℕ) → T (named_in k f d) → T (named_in k (graft_in s u f) d)
    graft_in-named k nil d h = tt
    graft_in-named k (t ▸ f) d h = let (a, b) = both _ _ h in join-and _ _ (graft-named t (around k d) a) (graft_in-named (rest k) f d b)
