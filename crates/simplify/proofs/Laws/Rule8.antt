-- Rule 8: a closed second child is shared out of a choice.
use Rattle.std.specs.Prelude.{◌≡◌, refl, Bool, suc, ℕ, ◌≤◌, min, max, ◌+◌, ◌<◌}
use Rattle.std.proofs.Math.Path.{ap, sym, subst}
use Rattle.std.proofs.Common.{◌∙◌, ap₂, le→leb}
use Rattle.std.proofs.Math.Bool.{true}
use native.Mathlib.Omega.{arith}
use Rattle.std.proofs.Math.Dec.{T, leb→le}
use Rattle.booleans.specs.Laws.{both, join-and}
use Rattle.booleans.specs.Tests.{◌and◌}
use Rattle.table.specs.Numbers.{most_time, whole_run}
use Rattle.table.specs.Questions.{listed, depth, depth_in, loops, loops_in, named, weight, weight_in, arity, is_address, kind_in_range, limit_in_range, name_ok, share}
use Rattle.table.specs.Limits.{every_limit, limit_holds}
use Rattle.table.specs.Trees.{nil, ◌▸◌, node, Tree, Forest, size, rest, around, records, records_in, every_node}
use Rattle.lists.specs.Streams.{const, add, merge}
use Rattle.lists.specs.Laws.MergeLaws.{merge-zero, merge-lift, add_zero_r}
use Rattle.lists.specs.Laws.Sums.{const-falls, add-falls}
use Rattle.evaluate.specs.Closed.{closed}
use Rattle.evaluate.specs.Evaluate.{inner, name, seen, name_in, Values, limit, start, list, before, turns, join, fits}
use Rattle.evaluate.proofs.Laws.Constant.{unlimited-is, closed-const}
use Rattle.evaluate.proofs.Laws.Monotone.{name-le, list-falls, before_falls}
use Rattle.simplify.specs.Nodes.{Sequence, Unlimited, Choice, Limit, Most}
use Rattle.simplify.specs.Same.{same}
use Rattle.simplify.specs.Rules.{address_of, children, is_pair, head_of, tail_of, first_of, second_of, all_pairs, firsts, shares, shared_out}
use Rattle.simplify.proofs.Laws.Refines.{Refines, choice-sum}
use Rattle.simplify.proofs.Laws.Same.{at, kind-is, node-is, same-list, same-name}
use Rattle.simplify.proofs.Laws.Forests.{Each, fits_each, listed-each, limits-each, named-each}

-- two-child sequences
abbrev pub pair : (address : ℕ) → Tree → Tree → Tree
pair p a x = node (at Sequence Unlimited p) (a ▸ x ▸ nil)

-- the pairs of a forest, each by its address and its two children
unfoldable pub as_pairs : Forest → Forest
as_pairs nil = nil
as_pairs (t ▸ f) = pair (address_of t) (first_of t) (second_of t) ▸ as_pairs f

pair_is : (t : Tree) → T (is_pair t) → t ≡ pair (address_of t) (first_of t) (second_of t)
unfolding is_pair first_of second_of children head_of tail_of address_of
pair_is (node n nil) h = absurd h
pair_is (node n (a ▸ nil)) h = absurd h
pair_is (node n (a ▸ x ▸ nil)) h = let (p, q) = both _ _ h in ap (λ m. node m (a ▸ x ▸ nil)) (node-is n Sequence Unlimited (kind-is _ _ p) (unlimited-is _ q))
pair_is (node n (a ▸ x ▸ y ▸ f)) h = absurd h

pairs-are : (x : Tree) (f : Forest) → T (all_pairs x f) → f ≡ as_pairs f
unfolding all_pairs as_pairs
pairs-are x nil h = refl
pairs-are x (t ▸ f) h =
    let (p, r) = both _ _ h in
    ap₂ ◌▸◌ (pair_is t (both _ _ p).0) (pairs-are x f r)

-- each second child is the same as x, and so is the rest's
second-same : (x t : Tree) (f : Forest) → T (all_pairs x (t ▸ f)) → T (same (second_of t) x) × T (all_pairs x f)
unfolding all_pairs
second-same x t f h = let (p, r) = both _ _ h in ((both _ _ p).1, r)

firsts-size : (f : Forest) → size (firsts f) ≡ size f
unfolding firsts size
firsts-size nil = refl
firsts-size (t ▸ f) = ap suc (firsts-size f)

pairs-size : (f : Forest) → size (as_pairs f) ≡ size f
unfolding as_pairs size
pairs-size nil = refl
pairs-size (t ▸ f) = ap suc (pairs-size f)

each-name : (x t : Tree) (f : Forest) → T (all_pairs x (t ▸ f)) → name_in Choice (as_pairs (t ▸ f)) ≡ min (name_in Choice (firsts (t ▸ f))) (name x)
unfolding as_pairs firsts name seen rest inner
each-name x t nil h = omega (arith, name-le x, name-le (first_of t), same-name _ _ (second-same x t nil h).0)
each-name x t (u ▸ f) h =
    let (s, r) = second-same x t (u ▸ f) h in
    shuffle (name (first_of t)) (name_in Choice (firsts (u ▸ f))) (name x) (name (second_of t)) _ (name-le x) (same-name _ _ s) (each-name x u f r)
  where
    shuffle : (a b x z y : ℕ) → x ≤ whole_run → z ≡ x → y ≡ min b x → min (min a (min z whole_run)) y ≡ min (min a b) x
    shuffle a b x z y h s e = omega arith

each-list : (v : Values) (x t : Tree) (f : Forest) → T (all_pairs x (t ▸ f)) → (k : ℕ) → list v x ≡ const k
    → before v Choice (as_pairs (t ▸ f)) ≡ add (before v Choice (firsts (t ▸ f))) (list v x)
unfolding as_pairs firsts list limit start turns join rest
each-list v x t nil h k e =
    rw (add_zero_r, merge-zero (list v (first_of t)) (list-falls v (first_of t)), same-list v _ _ (second-same x t nil h).0, e)
    (merge-zero _ (add-falls _ _ (list-falls v (first_of t)) (const-falls k)))
each-list v x t (u ▸ f) h k e =
    let (s, r) = second-same x t (u ▸ f) h in
    ap₂ merge (ap (add (list v (first_of t))) (add_zero_r (list v (second_of t)) ∙ same-list v _ _ s)) (each-list v x u f r k e)
    ∙ rw e (merge-lift k (list v (first_of t)) (before v Choice (firsts (u ▸ f))) (list-falls v (first_of t)) (before_falls v Choice (firsts (u ▸ f))))

-- a test of each pair, which asks the same of its first child
each_first : {q : Tree → Bool} {qs : Forest → Bool} → Each q qs → ((p : ℕ) (a x : Tree) → T (q (pair p a x)) → T (q a)) → (f : Forest) → T (qs (as_pairs f)) → T (qs (firsts f))
unfolding as_pairs firsts
each_first e l nil h = e.none
each_first e l (t ▸ f) h =
    let (a, b) = e.apart (pair (address_of t) (first_of t) (second_of t)) (as_pairs f) h in
    e.more (first_of t) (firsts f) (l _ _ _ a) (each_first e l f b)

each-depth : (t : Tree) (f : Forest) → suc (depth_in (firsts (t ▸ f))) ≤ depth_in (as_pairs (t ▸ f))
unfolding as_pairs firsts depth
each-depth t nil = omega arith
each-depth t (u ▸ f) = shape (depth (first_of t)) (depth_in (firsts (u ▸ f))) (depth (second_of t)) _ (each-depth u f)
  where
    shape : (a b x y : ℕ) → suc b ≤ y → suc (max a b) ≤ max (suc (max a (max x 0))) y
    shape a b x y h = omega arith

each-loops : (f : Forest) (d : ℕ) → loops_in Choice (firsts f) d ≤ loops_in Choice (as_pairs f) d
unfolding as_pairs firsts loops around rest
each-loops nil d = omega arith
each-loops (t ▸ f) d = omega (arith, each-loops f d)

each-weight : (f : Forest) (d : ℕ) → weight_in Choice (firsts f) d ≤ weight_in Choice (as_pairs f) d
unfolding as_pairs firsts weight around rest
each-weight nil d = omega arith
each-weight (t ▸ f) d = omega (arith, each-weight f d)

each-records : (f : Forest) → records_in (firsts f) + size f ≤ records_in (as_pairs f)
unfolding as_pairs firsts records size
each-records nil = omega arith
each-records (t ▸ f) = omega (arith, each-records f)

-- a sequence of a choice of the first children and the first second child, with the choice's limit and address
abbrev pub factored : Limit → ℕ → Forest → Tree → Tree
factored l a c x = node (at Sequence l a) (node (at Choice Unlimited 0) c ▸ x ▸ nil)

module _ (l : Limit) (a : ℕ) (t : Tree) (f : Forest) where
  abbrev x : Tree
  x = second_of t

  abbrev new : Tree
  new = factored l a (firsts (t ▸ f)) x

  abbrev old : Tree
  old = node (at Choice l a) (as_pairs (t ▸ f))

  module _ (h : T (all_pairs x (t ▸ f))) (r : T (closed x 0)) where
    -- the second child, and the first members
    shared-list : (v : Values) → before v Sequence (node (at Choice Unlimited 0) (firsts (t ▸ f)) ▸ x ▸ nil) ≡ before v Choice (as_pairs (t ▸ f))
    shared-list v =
        let (k, e) = closed-const v x r in
        sym (each-list v x t f h k e ∙ unfold list in unfold limit in unfold start in unfold turns in unfold join in unfold rest in ap (add (before v Choice (firsts (t ▸ f)))) (sym (add_zero_r (list v x))))

    shared-first : (v : Values) → before v Choice (firsts (t ▸ f)) 0 ≤ before v Sequence (node (at Choice Unlimited 0) (firsts (t ▸ f)) ▸ x ▸ nil) 0
    unfolding list limit turns join rest add
    shared-first v = omega arith

    shared-fits : (v : Values) → T (fits v old) → T (fits v new)
    unfolding fits as_pairs
    shared-fits v q =
        let (i, b) = both _ _ q in
        let (p, o) = both _ _ b in
        let e : before v Sequence (node (at Choice Unlimited 0) (firsts (t ▸ f)) ▸ x ▸ nil) 0 ≡ before v Choice (as_pairs (t ▸ f)) 0 = ap (λ s. s 0) (shared-list v) in
        let m : before v Choice (as_pairs (t ▸ f)) 0 ≤ most_time = leb→le _ _ i in
        let y : before v Choice (firsts (t ▸ f)) 0 ≤ most_time = omega (arith, shared-first v) in
        let j : before v Sequence (node (at Choice Unlimited 0) (firsts (t ▸ f)) ▸ x ▸ nil) 0 ≤ most_time = omega arith in
        let z = (both _ _ (both _ _ p).1).1 in
        join-and _ _ (le→leb _ _ j) (join-and _ _ (join-and _ _ (le→leb _ _ y) (each_first (fits_each v) (λ i u w m. (both _ _ (both _ _ m).1).0) (t ▸ f) b)) z)

  shared-listed : T (listed old) → T (listed new)
  unfolding listed as_pairs kind_in_range limit_in_range is_address
  shared-listed q =
      let (i, b) = both _ _ q in
      let (p, o) = both _ _ b in
      let (j, g) = both _ _ i in
      let z = (both _ _ (both _ _ p).1).1 in
      let w : T (arity Sequence (size (node (at Choice Unlimited 0) (firsts (t ▸ f)) ▸ x ▸ nil))) = unfold size in unfold arity in unfold ◌and◌ in tt in
      let k : T (arity Choice (size (firsts (t ▸ f)))) = subst (λ k. T (arity Choice k)) (pairs-size (t ▸ f) ∙ sym (firsts-size (t ▸ f))) g in
      let u : T (listed (node (at Choice Unlimited 0) (firsts (t ▸ f)))) =
      join-and _ _ (join-and _ _ (join-and _ _ (join-and true true tt tt) tt) k) (each_first listed-each (λ i u w m. (both _ _ (both _ _ m).1).0) (t ▸ f) b) in
      join-and _ _ (join-and _ _ j w) (join-and _ _ u z)

  shared-loops : (d : ℕ) → loops new d ≤ loops old d
  shared-loops d = unfold loops in unfold around in unfold rest in shape d (loops_in Choice (firsts (t ▸ f)) d) (loops x d) _ (each-loops (t ▸ f) d) top
    where
      top : loops x d ≤ loops_in Choice (as_pairs (t ▸ f)) d
      top = unfold as_pairs in unfold loops in unfold around in unfold rest in omega arith

      shape : (d a x y : ℕ) → a ≤ y → x ≤ y → max d (max (max d a) (max x 0)) ≤ max d y
      shape d a x y h i = omega arith

  shared-named : (d : ℕ) → T (named old d) → T (named new d)
  unfolding named as_pairs name_ok around rest
  shared-named d q =
      let (i, b) = both _ _ q in
      let (p, o) = both _ _ b in
      let z = (both _ _ (both _ _ p).1).1 in
      join-and _ _ i (join-and _ _ (join-and _ _ tt (each_first (named-each Choice choice-sum d) (λ i u w m. (both _ _ (both _ _ m).1).0) (t ▸ f) b)) z)

  shared-limits : (p : ℕ → Most → Bool) → T (every_limit p old) → T (every_limit p new)
  unfolding every_node as_pairs limit_holds
  shared-limits p q =
      let (i, b) = both _ _ q in
      let (g, o) = both _ _ b in
      let z = (both _ _ (both _ _ g).1).1 in
      join-and _ _ i (join-and _ _ (join-and _ _ tt (each_first (limits-each p) (λ i u w m. (both _ _ (both _ _ m).1).0) (t ▸ f) b)) z)

  shared-weight : (d : ℕ) → weight new d ≤ weight old d
  unfolding weight as_pairs firsts share around rest
  shared-weight d = omega (arith, each-weight f d)

  shared-records : 1 ≤ size f → records new < records old
  unfolding records as_pairs firsts
  shared-records z = omega (arith, each-records f)

  pub shared_refines : T (all_pairs x (t ▸ f)) → T (closed x 0) → 1 ≤ size f → Refines new old
  shared_refines h r z = record {
    keeps = record {
      same_name = unfold name in unfold seen in unfold rest in unfold inner in ap (inner l) (omega (arith, each-name x t f h, name-le x));
      same_list = λ v. unfold list in ap (limit v l) (shared-list h r v);
      still_fits = λ v q. shared-fits h r v q;
      still_listed = λ i q. shared-listed q;
      deep = unfold depth in omega (arith, each-depth t f, deeper);
      nested = shared-loops;
      still_named = shared-named;
      weighed = shared-weight;
      limits = shared-limits;
    };
    fewer = λ q. shared-records z;
  }
    where
      deeper : depth x ≤ depth_in (as_pairs (t ▸ f))
      deeper = unfold as_pairs in unfold depth in omega arith

pub rule8-refines : (l : Limit) (a : ℕ) (f : Forest) → T (shares f) → Refines (shared_out l a f) (node (at Choice l a) f)
unfolding shares shared_out head_of size
rule8-refines l a nil h = absurd (both _ _ (both _ _ h).0).0
rule8-refines l a (t ▸ f) h =
    let (p, q) = both _ _ h in
    let (m, b) = both _ _ p in
    subst (λ g. Refines (factored l a (firsts (t ▸ f)) (second_of t)) (node (at Choice l a) g)) (sym (pairs-are (second_of t) (t ▸ f) q))
    (shared_refines l a t f q b (omega (arith, leb→le 2 (suc (size f)) m)))
