-- The renamed sent tree: the same list and, as far as its own loops go, the same named loop; closed but for the loop that is put around it.
use Rattle.std.specs.Prelude.{◌≡◌, refl, Bool, true, false, cond, ◌||◌, ℕ, suc, min, ◌-◌, ◌≤◌, ◌^◌, T, eqb, leb, ltb}
use Rattle.std.proofs.Common.{ap, ap₂, ◌∙◌, sym, arith, leb→le, le→leb, lt→ltb, leb-true, leb-false, eqb-true, le-leb}
use Rattle.std.proofs.lemmas.Bool.{lt-leb}
use Rattle.table.specs.declared.Limit.{Limit}
use Rattle.table.specs.declared.Limit.TheVariants.{Unlimited, AtMost}
use Rattle.table.specs.declared.Kind.{Kind}
use Rattle.table.specs.declared.Kind.TheVariants.{Block, Sequence, Choice, Loop}
use Rattle.booleans.specs.Tests.{◌and◌}
use Rattle.booleans.specs.Laws.{both, join-and, or-false, or_left}
use Rattle.table.specs.Numbers.{whole_run, most_loops, most_time, most_weight}
use Rattle.table.specs.Trees.{Tree, node, Forest, nil, ◌▸◌, rest, around, every_node, every_node_in}
use Rattle.table.specs.Questions.{limit_in_range, listed, listed_in, loops, loops_in, name_ok, named, named_in, share, single, unpaired, weight, weight_in}
use Rattle.lists.specs.Streams.{Stream, group, const}
use Rattle.evaluate.specs.Evaluate.{Values, amount, inner, outward, seen, name, name_in, limit, rounds, turns, join, list, before, fits, fits_in}
use Rattle.evaluate.specs.Closed.{stays, closed, closed_in}
use Rattle.splice.specs.Graft.{renamed_limit, rename, rename_in}
use Rattle.splice.specs.Laws.Sizes.{size-renamed}

-- ---- names that are the same as far as d loops go

-- j and k name the same of the d nearest loops, or neither names one
abbrev Alike : (d j k : ℕ) → Type 0
Alike d j k = min j (suc d) ≡ min k (suc d)

min-min : (a b c : ℕ) → min (min a b) c ≡ min (min a c) (min b c)
min-min a b c = omega arith

alike-min : (d a b x y : ℕ) → Alike d a x → Alike d b y → Alike d (min a b) (min x y)
alike-min d a b x y e f = min-min a b (suc d) ∙ ap₂ min e f ∙ sym (min-min x y (suc d))

-- a name seen from outside, as far as d loops go, is found from the name inside as far as d + 1 go
outward-near : (d k : ℕ) → d ≤ most_loops → min (outward k) (suc d) ≡ cond (leb (min k (suc (suc d))) 1) (suc d) (min k (suc (suc d)) - 1)
unfolding outward
outward-near d k h = go (leb k 1) refl (leb whole_run k) refl
  where
    low : leb k 1 ≡ true → leb (min k (suc (suc d))) 1 ≡ true
    low e = le-leb (min k (suc (suc d))) 1 (omega (arith, leb-true k 1 e))

    high : leb k 1 ≡ false → leb (min k (suc (suc d))) 1 ≡ false
    high e = lt-leb (min k (suc (suc d))) 1 (omega (arith, leb-false k 1 e))

    go : (b : Bool) → leb k 1 ≡ b → (c : Bool) → leb whole_run k ≡ c
        → min (cond b whole_run (cond c whole_run (k - 1))) (suc d) ≡ cond (leb (min k (suc (suc d))) 1) (suc d) (min k (suc (suc d)) - 1)
    go true e c q = rw (low e) (omega arith)
    go false e true q = rw (high e) (omega (arith, leb-true whole_run k q))
    go false e false q = rw (high e) (omega (arith, leb-false k 1 e, leb-false whole_run k q))

alike-outward : (d j k : ℕ) → d ≤ most_loops → Alike (suc d) j k → Alike d (outward j) (outward k)
alike-outward d j k h e = outward-near d j h ∙ ap (λ x. cond (leb x 1) (suc d) (x - 1)) e ∙ sym (outward-near d k h)

alike-seen : (k : Kind) (d i j : ℕ) → d ≤ most_loops → Alike (around k d) i j → Alike d (seen k i) (seen k j)
unfolding seen around
alike-seen (Block t) d i j h e = e
alike-seen Sequence d i j h e = e
alike-seen Choice d i j h e = e
alike-seen (Loop n) d i j h e = alike-outward d i j h e

alike-inner : (l : Limit) (d i j : ℕ) → d ≤ most_loops → T (name_ok l d) → Alike d i j → Alike d (inner (renamed_limit l d) i) (inner l j)
unfolding inner renamed_limit
alike-inner Unlimited d i j h o e = e
alike-inner (AtMost k m) d i j h o e = alike-min d _ i k j (go (eqb k whole_run) refl) e
  where
    go : (b : Bool) → eqb k whole_run ≡ b → Alike d (cond b (suc d) k) k
    go true q = omega (arith, eqb-true k whole_run q)
    go false q = refl

-- the same of whether the very loop is named
alike-one : (d j k : ℕ) → Alike (suc d) j k → leb j 1 ≡ leb k 1
alike-one d j k e = go (leb k 1) refl
  where
    go : (b : Bool) → leb k 1 ≡ b → leb j 1 ≡ b
    go true q = le-leb j 1 (omega (arith, leb-true k 1 q))
    go false q = lt-leb j 1 (omega (arith, leb-false k 1 q))

turns-alike : (v : Values) (k : Kind) (d i j : ℕ) (f : Stream) → Alike (around k d) i j → turns v k i f ≡ turns v k j f
unfolding turns around rounds
turns-alike v (Block t) d i j f e = refl
turns-alike v Sequence d i j f e = refl
turns-alike v Choice d i j f e = refl
turns-alike v (Loop n) d i j f e = ap (λ b. cond b (const (group (amount v n) f 0)) (group (amount v n) f)) (alike-one d i j e)

limit-renamed : (v : Values) (l : Limit) (d : ℕ) (f : Stream) → limit v (renamed_limit l d) f ≡ limit v l f
unfolding limit renamed_limit
limit-renamed v Unlimited d f = refl
limit-renamed v (AtMost k m) d f = refl

-- ---- the same names as far as the loops around go, and the same lists

mutual
  unfolding loops named name rename

  pub rename-name : (t : Tree) (d : ℕ) → loops t d ≤ most_loops → T (named t d) → Alike d (name (rename t d)) (name t)
  rename-name (node n f) d l h =
      let (a, b) = both _ _ h in
      alike-inner n.limit d _ _ (omega arith) a (rename_in-name n.kind f d (omega arith) (omega arith) b)

  pub rename_in-name : (k : Kind) (f : Forest) (d : ℕ) → d ≤ most_loops → loops_in k f d ≤ most_loops → T (named_in k f d) → Alike d (name_in k (rename_in k f d)) (name_in k f)
  rename_in-name k nil d g l h = refl
  rename_in-name k (t ▸ f) d g l h =
      let (a, b) = both _ _ h in
      alike-min d _ _ _ _ (alike-seen k d _ _ g (rename-name t (around k d) (omega arith) a)) (rename_in-name (rest k) f d g (omega arith) b)

module _ (v : Values) where
  mutual
    unfolding loops named list rename

    pub rename-list : (t : Tree) (d : ℕ) → loops t d ≤ most_loops → T (named t d) → list v (rename t d) ≡ list v t
    rename-list (node n f) d l h =
        let (a, b) = both _ _ h in
        limit-renamed v n.limit d _ ∙ ap (limit v n.limit) (rename-before n.kind f d (omega arith) b)

    pub rename-before : (k : Kind) (f : Forest) (d : ℕ) → loops_in k f d ≤ most_loops → T (named_in k f d) → before v k (rename_in k f d) ≡ before v k f
    rename-before k nil d l h = refl
    rename-before k (t ▸ f) d l h =
        let (a, b) = both _ _ h in
        ap₂ (join k)
        (turns-alike v k d _ _ _ (rename-name t (around k d) (omega arith) a) ∙ ap (turns v k (name t)) (rename-list t (around k d) (omega arith) a))
        (rename-before (rest k) f d (omega arith) b)

around-suc : (k : Kind) (d : ℕ) → around k (suc d) ≡ suc (around k d)
unfolding around
around-suc (Block t) d = refl
around-suc Sequence d = refl
around-suc Choice d = refl
around-suc (Loop n) d = refl

-- ---- closed, once limits that name the loop around are set aside

-- a limit's name that is not the whole run is 1 or more, and one of the loops around
named-low : (k : ℕ) → T ((leb 1 k and leb k most_loops) || eqb k whole_run) → eqb k whole_run ≡ false → 1 ≤ k
named-low k h e = leb→le 1 k (both _ _ (or-false (leb 1 k and leb k most_loops) (rw e at h))).0

named-near : (k d : ℕ) → T (leb k d || eqb k whole_run) → eqb k whole_run ≡ false → k ≤ d
named-near k d h e = leb→le k d (or-false (leb k d) (rw e at h))

stays-renamed : (l : Limit) (d : ℕ) → d ≤ most_loops → T (limit_in_range l) → T (name_ok l d) → T (stays (renamed_limit l d) (suc d))
unfolding stays renamed_limit limit_in_range name_ok
stays-renamed Unlimited d g r h = tt
stays-renamed (AtMost k m) d g r h = go (eqb k whole_run) refl
  where
    go : (b : Bool) → eqb k whole_run ≡ b → T (leb 1 (cond b (suc d) k) and leb (cond b (suc d) k) (suc d) and ltb (cond b (suc d) k) whole_run)
    go true q = join-and _ _ (join-and _ _ (le→leb 1 (suc d) (omega arith)) (le→leb (suc d) (suc d) (omega arith))) (lt→ltb (suc d) whole_run (omega arith))
    go false q =
        let low = named-low k (both _ _ r).0 q in
        let near = named-near k d h q in
        join-and _ _ (join-and _ _ (le→leb 1 k low) (le→leb k (suc d) (omega arith))) (lt→ltb k whole_run (omega arith))

mutual
  unfolding listed every_node loops named closed rename

  pub rename-closed : (t : Tree) (d : ℕ) → T (listed t) → T (unpaired t) → loops t d ≤ most_loops → T (named t d) → T (closed (rename t d) (suc d))
  rename-closed (node n f) d r u l h =
      let (p, c) = both _ _ r in
      let (i, j) = both _ _ u in
      let (a, b) = both _ _ h in
      join-and _ _ (join-and _ _ (stays-renamed n.limit d (omega arith) (both _ _ (both _ _ p).0).1 a) i) (rename_in-closed n.kind f d c j (omega arith) b)

  rename_in-closed : (k : Kind) (f : Forest) (d : ℕ) → T (listed_in f) → T (every_node_in single f) → loops_in k f d ≤ most_loops → T (named_in k f d) → T (closed_in k (rename_in k f d) (suc d))
  rename_in-closed k nil d r u l h = tt
  rename_in-closed k (t ▸ f) d r u l h =
      let (x, y) = both _ _ r in
      let (i, j) = both _ _ u in
      let (a, b) = both _ _ h in
      join-and _ _ (rw (around-suc k d) (rename-closed t (around k d) x i (omega arith) a)) (rename_in-closed (rest k) f d y j (omega arith) b)

-- ---- question 10 says the same of it

module _ (v : Values) where
  mutual
    unfolding loops named fits rename

    pub rename-fits : (t : Tree) (d : ℕ) → loops t d ≤ most_loops → T (named t d) → fits v (rename t d) ≡ fits v t
    rename-fits (node n f) d l h =
        let (a, b) = both _ _ h in
        ap₂ ◌and◌ (ap (λ s. leb (s 0) most_time) (rename-before v n.kind f d (omega arith) b)) (rename_in-fits n.kind f d (omega arith) b)

    rename_in-fits : (k : Kind) (f : Forest) (d : ℕ) → loops_in k f d ≤ most_loops → T (named_in k f d) → fits_in v (rename_in k f d) ≡ fits_in v f
    rename_in-fits k nil d l h = refl
    rename_in-fits k (t ▸ f) d l h =
        let (a, b) = both _ _ h in
        ap₂ ◌and◌ (rename-fits t (around k d) (omega arith) a) (rename_in-fits (rest k) f d (omega arith) b)

-- ---- what questions 2 to 7 ask of it

-- question 7 lets a whole-run limit stand under 7 loops at most
under-seven : (d : ℕ) → d ≤ most_loops → 2 ^ d ≤ most_weight → suc d ≤ most_loops
under-seven d h w = go (leb (suc d) most_loops) refl
  where
    go : (b : Bool) → leb (suc d) most_loops ≡ b → suc d ≤ most_loops
    go true e = leb-true (suc d) most_loops e
    go false e =
        let q : d ≡ 8 = omega (arith, leb-false (suc d) most_loops e) in
        let z : 2 ^ 8 ≤ most_weight = rw q at w in
        absurd (omega arith)

limit-in-range : (l : Limit) (d : ℕ) → d ≤ most_loops → share l d ≤ most_weight → T (limit_in_range l) → T (limit_in_range (renamed_limit l d))
unfolding limit_in_range renamed_limit share
limit-in-range Unlimited d g w r = tt
limit-in-range (AtMost k m) d g w r = let (a, c) = both _ _ r in join-and _ _ (go (eqb k whole_run) refl w a) c
  where
    go : (b : Bool) → eqb k whole_run ≡ b → cond b (2 ^ d) (2 ^ (k - 1)) ≤ most_weight → T ((leb 1 k and leb k most_loops) || b)
        → T ((leb 1 (cond b (suc d) k) and leb (cond b (suc d) k) most_loops) || eqb (cond b (suc d) k) whole_run)
    go true q w a =
        or_left (leb 1 (suc d) and leb (suc d) most_loops) (eqb (suc d) whole_run) (join-and _ _ (le→leb 1 (suc d) (omega arith)) (le→leb (suc d) most_loops (under-seven d g w)))
    go false q w a = or_left (leb 1 k and leb k most_loops) (eqb k whole_run) (or-false (leb 1 k and leb k most_loops) a)

mutual
  unfolding listed loops weight rename

  pub rename-listed : (t : Tree) (d : ℕ) → loops t d ≤ most_loops → weight t d ≤ most_weight → T (listed t) → T (listed (rename t d))
  rename-listed (node n f) d l w r =
      let (p, c) = both _ _ r in
      let (q, e) = both _ _ p in
      let (a, b) = both _ _ q in
      join-and _ _ (join-and _ _ (join-and _ _ a (limit-in-range n.limit d (omega arith) (omega arith) b)) (rw (size-renamed n.kind f d) e)) (rename_in-listed n.kind f d (omega arith) (omega arith) c)

  rename_in-listed : (k : Kind) (f : Forest) (d : ℕ) → loops_in k f d ≤ most_loops → weight_in k f d ≤ most_weight → T (listed_in f) → T (listed_in (rename_in k f d))
  rename_in-listed k nil d l w r = tt
  rename_in-listed k (t ▸ f) d l w r =
      let (x, y) = both _ _ r in
      join-and _ _ (rename-listed t (around k d) (omega arith) (omega arith) x) (rename_in-listed (rest k) f d (omega arith) (omega arith) y)

name-renamed : (l : Limit) (d e : ℕ) → suc d ≤ e → T (name_ok l d) → T (name_ok (renamed_limit l d) e)
unfolding name_ok renamed_limit
name-renamed Unlimited d e g h = tt
name-renamed (AtMost k m) d e g h = go (eqb k whole_run) refl
  where
    go : (b : Bool) → eqb k whole_run ≡ b → T (leb (cond b (suc d) k) e || eqb (cond b (suc d) k) whole_run)
    go true q = or_left (leb (suc d) e) (eqb (suc d) whole_run) (le→leb (suc d) e g)
    go false q = or_left (leb k e) (eqb k whole_run) (le→leb k e (omega (arith, named-near k d h q)))

around-le : (k : Kind) (d e : ℕ) → suc d ≤ e → suc (around k d) ≤ around k e
unfolding around
around-le (Block t) d e g = g
around-le Sequence d e g = g
around-le Choice d e g = g
around-le (Loop n) d e g = omega arith

-- with e loops around the place, of which the loop put there is one
mutual
  unfolding named rename

  pub rename-named : (t : Tree) (d e : ℕ) → suc d ≤ e → T (named t d) → T (named (rename t d) e)
  rename-named (node n f) d e g h =
      let (a, b) = both _ _ h in
      join-and _ _ (name-renamed n.limit d e g a) (rename_in-named n.kind f d e g b)

  rename_in-named : (k : Kind) (f : Forest) (d e : ℕ) → suc d ≤ e → T (named_in k f d) → T (named_in k (rename_in k f d) e)
  rename_in-named k nil d e g h = tt
  rename_in-named k (t ▸ f) d e g h =
      let (a, b) = both _ _ h in
      join-and _ _ (rename-named t (around k d) (around k e) (around-le k d e g) a) (rename_in-named (rest k) f d e g b)
