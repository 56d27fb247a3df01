-- The facts kept of a subtree say what the rules ask, and those of a node follow from its children's.
use Rattle.std.specs.Prelude.{◌≡◌, Bool, cond, not, ◌&&◌, ◌||◌, ℕ, ◌+◌, ◌-◌, ◌<◌, ◌≤◌, max, min, suc, T, eqb, leb}
use Rattle.std.proofs.Math.Path.{refl}
use Rattle.std.proofs.Common.{ap, sym, ◌∙◌, add_assoc, zero-add, arith, eqb→eq, leb→le, le→leb, lt→ltb, le-leb, leb-true}
use Rattle.std.proofs.Math.Bool.{true, false}
use Rattle.std.proofs.lemmas.Bool.{lt-leb}
use Rattle.booleans.specs.Laws.{and_is, both, is_T, join-and, same_test}
use Rattle.booleans.specs.Tests.{◌and◌}
use Rattle.table.specs.Numbers.{most_loops, whole_run}
use Rattle.table.specs.Questions.{paired_block, depth, depth_in, limit_in_range, listed, listed_in}
use Rattle.table.specs.Table.{loop_byte}
use Rattle.table.specs.Trees.{Forest, Tree, nil, node, ◌▸◌, around, records, records_in, rest}
use Rattle.table.proofs.Laws.Trees.{some-depth}
use Rattle.evaluate.specs.Closed.{closed, closed_in, stays, symbol_free, symbol_free_in}
use Rattle.evaluate.specs.Evaluate.{name, name_in, outward, seen}
use Rattle.evaluate.proofs.Laws.Monotone.{name_in-le}
use Rattle.subtrees.specs.Nodes.{AtMost, Block, Choice, Kind, Limit, Loop, Sequence, Unlimited}
use Rattle.subtrees.specs.Facts.{below_of, child_in, facts_of, is_loop, no_child, outer, paired_reach, passed, reach, reach_in, symbols, symbols_in}
use Rattle.subtrees.specs.declared.Below.{Below}
use Rattle.subtrees.specs.Laws.Forests.{Sound}

-- ---- symbols

pub free-is : (t : Tree) → eqb (symbols t) 0 ≡ symbol_free t
unfolding symbols
free-is t = go (symbol_free t)
  where
    go : (x : Bool) → eqb (cond x 0 1) 0 ≡ x
    go true = refl
    go false = refl

symbols-more : (t : Tree) (f : Forest) → symbols_in (t ▸ f) ≡ max (symbols t) (symbols_in f)
unfolding symbols symbols_in symbol_free_in
symbols-more t f = go (symbol_free t) (symbol_free_in f)
  where
    go : (x y : Bool) → cond (x and y) 0 1 ≡ max (cond x 0 1) (cond y 0 1)
    go true true = unfold ◌and◌ in refl
    go true false = unfold ◌and◌ in refl
    go false true = unfold ◌and◌ in refl
    go false false = unfold ◌and◌ in refl

-- ---- closed, by the outermost loop that a limit names

same-leb : (a b c d : ℕ) → (a ≤ b → c ≤ d) → (c ≤ d → a ≤ b) → leb a b ≡ leb c d
same-leb a b c d p q = same_test _ _ (λ t. le→leb c d (p (leb→le a b t))) (λ t. le→leb a b (q (leb→le c d t)))

and-max : (a b d : ℕ) → (leb a d and leb b d) ≡ leb (max a b) d
and-max a b d =
    same_test _ _
    (λ t. let (p, q) = both _ _ t in le→leb (max a b) d (omega (arith, leb→le a d p, leb→le b d q)))
    (λ t. let l = leb→le (max a b) d t in join-and _ _ (le→leb a d (omega arith)) (le→leb b d (omega arith)))

-- byte 3 of a limit is one of the listed ones
pub limit-byte : (k : ℕ) → T ((leb 1 k and leb k most_loops) || eqb k whole_run) → 1 ≤ k
limit-byte k h = go (leb 1 k and leb k most_loops) refl h
  where
    go : (x : Bool) → (leb 1 k and leb k most_loops) ≡ x → T (x || eqb k whole_run) → 1 ≤ k
    go true e t = leb→le 1 k (both _ _ (is_T _ e)).0
    go false e t = omega (arith, eqb→eq k whole_run t)

stays-is : (l : Limit) (d : ℕ) → T (limit_in_range l) → d < whole_run → stays l d ≡ leb (loop_byte l) d
unfolding stays loop_byte limit_in_range
stays-is Unlimited d h i = sym (le-leb 0 d (omega arith))
stays-is (AtMost k m) d h i =
    same_test _ _
    (λ t. (both _ _ (both _ _ t).0).1)
    (λ t. join-and _ _ (join-and _ _ (le→leb 1 k (limit-byte k (both _ _ h).0)) t) (lt→ltb k whole_run (omega (arith, leb→le k d t))))

outer-is : (r d : ℕ) → suc d < whole_run → leb r (suc d) ≡ leb (outer r) d
unfolding outer
outer-is r d h = go (leb whole_run r) refl
  where
    go : (x : Bool) → leb whole_run r ≡ x → leb r (suc d) ≡ leb (cond x whole_run (r - 1)) d
    go true e = same-leb r (suc d) whole_run d (λ l. absurd (omega (arith, leb-true whole_run r e))) (λ l. absurd (omega arith))
    go false e = same-leb r (suc d) (r - 1) d (λ l. omega arith) (λ l. omega arith)

passed_is : (k : Kind) (r d : ℕ) → suc d < whole_run → leb r (around k d) ≡ leb (passed k r) d
unfolding passed around
passed_is (Block t) r d h = refl
passed_is Sequence r d h = refl
passed_is Choice r d h = refl
passed_is (Loop n) r d h = outer-is r d h

around-most : (k : Kind) (d : ℕ) → around k d ≤ suc d
unfolding around
around-most (Block t) d = omega arith
around-most Sequence d = omega arith
around-most Choice d = omega arith
around-most (Loop n) d = omega arith

single-is : (k : Kind) (d : ℕ) → d < whole_run → not (paired_block k) ≡ leb (paired_reach k) d
unfolding paired_reach
single-is k d h = go (paired_block k)
  where
    go : (x : Bool) → not x ≡ leb (cond x whole_run 0) d
    go true = sym (lt-leb whole_run d h)
    go false = sym (le-leb 0 d (omega arith))

mutual
  unfolding closed reach listed depth

  pub closed_is : (t : Tree) (d : ℕ) → T (listed t) → d + depth t < whole_run → closed t d ≡ leb (reach t) d
  closed_is (node n f) d l h =
      let (p, q) = both _ _ l in
      rw (stays-is n.limit d (both _ _ (both _ _ p).0).1 (omega arith), single-is n.kind d (omega arith), closed_in-is n.kind f d q (omega arith), and-max (loop_byte n.limit) (paired_reach n.kind) d)
      (and-max _ _ d)

  pub closed_in-is : (k : Kind) (f : Forest) (d : ℕ) → T (listed_in f) → d + suc (depth_in f) < whole_run → closed_in k f d ≡ leb (reach_in k f) d
  closed_in-is k nil d l h = sym (le-leb 0 d (omega arith))
  closed_in-is k (t ▸ f) d l h =
      let (p, q) = both _ _ l in
      rw (closed_is t (around k d) p (omega (arith, around-most k d)), passed_is k (reach t) d (omega (arith, some-depth t)), closed_in-is (rest k) f d q (omega arith)) (and-max _ _ d)

pub closed_at : (t : Tree) → Sound t → closed t 0 ≡ leb (reach t) 0
closed_at t s = closed_is t 0 s.fair.listed (omega (arith, s.deep))

-- ---- children one after the other

rest-loop : (k : Kind) → is_loop (rest k) ≡ false
unfolding is_loop rest
rest-loop (Block t) = refl
rest-loop Sequence = refl
rest-loop Choice = refl
rest-loop (Loop n) = refl

seen-loop : (k : Kind) (n : ℕ) → cond (is_loop k) (outward n) n ≡ seen k n
unfolding is_loop seen
seen-loop (Block t) n = refl
seen-loop Sequence n = refl
seen-loop Choice n = refl
seen-loop (Loop m) n = refl

passed-loop : (k : Kind) (n : ℕ) → cond (is_loop k) (outer n) n ≡ passed k n
unfolding is_loop passed
passed-loop (Block t) n = refl
passed-loop Sequence n = refl
passed-loop Choice n = refl
passed-loop (Loop m) n = refl

-- the children so far, s, and those of f, the first of them a loop's body or not
unfoldable pub more_children : (body : Bool) → Below → Forest → Below
more_children body s nil = s
more_children body s (t ▸ f) = more_children false (child_in body s (facts_of t)) f

abbrev with-below : Below → Below → Below
with-below s c = record { records = s.records + c.records; symbol_free = s.symbol_free && c.symbol_free; named = min s.named c.named; reach = max s.reach c.reach }

free-more : (a : Bool) (t : Tree) (f : Forest) → (a && symbol_free t && symbol_free_in f) ≡ (a && symbol_free_in (t ▸ f))
unfolding symbol_free_in
free-more true t f = and_is (symbol_free t) (symbol_free_in f)
free-more false t f = refl

max_assoc : (a b c : ℕ) → max (max a b) c ≡ max a (max b c)
max_assoc a b c = omega arith

min_assoc : (a b c : ℕ) → min (min a b) c ≡ min a (min b c)
min_assoc a b c = omega arith

-- the same, one field after the other
child-below : (k : Kind) (t : Tree) (f : Forest) (s : Below) → with-below (child_in (is_loop k) s (facts_of t)) (below_of (rest k) f) ≡ with-below s (below_of k (t ▸ f))
unfolding records_in name_in reach_in
child-below k t f s = λ i. record {
  records = add_assoc s.records (records t) (records_in f) i;
  symbol_free = free-more s.symbol_free t f i;
  named = (ap (λ x. min (min s.named x) (name_in (rest k) f)) (seen-loop k (name t)) ∙ min_assoc s.named (seen k (name t)) (name_in (rest k) f)) i;
  reach = (ap (λ x. max (max s.reach x) (reach_in (rest k) f)) (passed-loop k (reach t)) ∙ max_assoc s.reach (passed k (reach t)) (reach_in (rest k) f)) i;
}

more-children : (k : Kind) (f : Forest) (s : Below) → s.named ≤ whole_run → more_children (is_loop k) s f ≡ with-below s (below_of k f)
unfolding more_children records_in name_in reach_in symbol_free_in
more-children k nil s h = λ i. record { records = nil-add s.records i; symbol_free = nil-free s.symbol_free i; named = nil-min s.named h i; reach = nil-max s.reach i }
  where
    nil-add : (n : ℕ) → n ≡ n + 0
    nil-add n = omega arith

    nil-free : (x : Bool) → x ≡ (x && true)
    nil-free true = refl
    nil-free false = refl

    nil-max : (n : ℕ) → n ≡ max n 0
    nil-max n = omega arith

    nil-min : (n : ℕ) → n ≤ whole_run → n ≡ min n whole_run
    nil-min n h = omega arith
more-children k (t ▸ f) s h =
    ap (λ x. more_children x (child_in (is_loop k) s (facts_of t)) f) (sym (rest-loop k))
    ∙ more-children (rest k) f (child_in (is_loop k) s (facts_of t)) (omega arith) ∙ child-below k t f s

pub all-children : (k : Kind) (f : Forest) → more_children (is_loop k) no_child f ≡ below_of k f
all-children k f = more-children k f no_child (omega arith) ∙ none_before
  where
    none_before : with-below no_child (below_of k f) ≡ below_of k f
    none_before = λ i. record { records = zero-add (records_in f) i; symbol_free = symbol_free_in f; named = run-min (name_in k f) (name_in-le k f) i; reach = zero-max (reach_in k f) i }
      where
        zero-max : (n : ℕ) → max 0 n ≡ n
        zero-max n = omega arith

        run-min : (n : ℕ) → n ≤ whole_run → min whole_run n ≡ n
        run-min n h = omega arith
