-- Rules 6 and 7: unlimited plain blocks become one, of their sum or their largest.
use Rattle.std.specs.Prelude.{◌≡◌, Bool, ◌≤◌, max, ◌+◌, suc, ℕ, T}
use Rattle.std.proofs.Math.Path.{refl, ap, sym}
use Rattle.std.proofs.Common.{◌∙◌, ap₂}
use Rattle.std.proofs.Math.Bool.{cond, true, false}
use native.Mathlib.Omega.{arith}
use Rattle.booleans.specs.Laws.{join-and, by_cond, by-conds}
use Rattle.table.specs.Numbers.{most_time}
use Rattle.table.specs.Questions.{listed, depth, depth_in, limit_in_range, loops_in, weight_in}
use Rattle.table.specs.Trees.{nil, ◌▸◌, Forest, records, records_in, size, Tree, node, every_node}
use Rattle.table.proofs.Laws.Trees.{some-records, some-depth, some-loops}
use Rattle.lists.specs.Streams.{const, Stream}
use Rattle.lists.specs.Laws.MergeLaws.{add-consts, merge-consts}
use Rattle.lists.specs.Laws.Sums.{const-falls}
use Rattle.evaluate.specs.Evaluate.{Values, fits, list, join, before, name_in, zeros}
use Rattle.evaluate.proofs.Laws.Monotone.{before_falls, name_in-le, list-falls}
use Rattle.evaluate.proofs.Laws.Joins.{join-left, zero-join, join-assoc, join-swap}
use Rattle.simplify.specs.Nodes.{Unlimited, Kind, Sequence, Choice, Limit}
use Rattle.simplify.specs.Rules.{bare, others, bares, at_first, leaf, time_of, total, largest}
use Rattle.simplify.proofs.Laws.Refines.{RefinesIn, SumKind, sequence-sum, choice-sum, Refines, node-refines, arity-of, of-arity}
use Rattle.simplify.proofs.Laws.Same.{at}
use Rattle.simplify.proofs.Laws.Forests.{Each, fits_each, listed-each, limits-each, named-each}
use Rattle.simplify.proofs.Laws.Blocks.{leaf-fits, leaf-listed, leaf-depth, leaf-records, bare-list, bare-name, leaf-list, leaf-name, leaf-named, leaf-limits, leaf-weight, leaf-loops}

-- ---- rules 6 and 7: the other children

others-each : {q : Tree → Bool} {qs : Forest → Bool} → Each q qs → (f : Forest) → T (qs f) → T (qs (others f))
unfolding others
others-each e nil h = h
others-each {q} {qs} e (t ▸ f) h =
    let (a, b) = e.apart t f h in
    by_cond (λ g. T (qs g)) (bare t) _ _ (λ i. others-each e f b) (λ i. e.more t (others f) a (others-each e f b))

others-depth : (f : Forest) → depth_in (others f) ≤ depth_in f
unfolding others depth
others-depth nil = omega arith
others-depth (t ▸ f) =
    by_cond (λ g. depth_in g ≤ max (depth t) (depth_in f)) (bare t) _ _ (λ e. omega (arith, others-depth f)) (λ e. omega (arith, others-depth f))

-- with the blocks counted
others-records : (f : Forest) → records_in (others f) + bares f ≤ records_in f
unfolding others bares records
others-records nil = omega arith
others-records (t ▸ f) =
    by-conds (λ g c. records_in g + c ≤ records t + records_in f) (bare t) _ _ _ _
    (λ e. omega (arith, others-records f, some-records t))
    (λ e. omega (arith, others-records f))

others-size : (f : Forest) → size (others f) + bares f ≡ size f
unfolding others bares size
others-size nil = refl
others-size (t ▸ f) =
    by-conds (λ g c. size g + c ≡ suc (size f)) (bare t) _ _ _ _
    (λ e. omega (arith, others-size f))
    (λ e. omega (arith, others-size f))

-- x at the first block's place
first-each : {q : Tree → Bool} {qs : Forest → Bool} → Each q qs → (x : ℕ) → T (q (leaf x Unlimited)) → (f : Forest) → T (qs f) → T (qs (at_first x f))
unfolding at_first
first-each e x l nil h = h
first-each {q} {qs} e x l (t ▸ f) h =
    let (a, b) = e.apart t f h in
    by_cond (λ g. T (qs g)) (bare t) _ _ (λ i. e.more (leaf x Unlimited) (others f) l (others-each e f b)) (λ i. e.more t (at_first x f) a (first-each e x l f b))

first-depth : (x : ℕ) (f : Forest) → depth_in (at_first x f) ≤ depth_in f
unfolding at_first depth
first-depth x nil = omega arith
first-depth x (t ▸ f) =
    by_cond (λ g. depth_in g ≤ max (depth t) (depth_in f)) (bare t) _ _
    (λ e. omega (arith, others-depth f, some-depth t, leaf-depth x Unlimited))
    (λ e. omega (arith, first-depth x f))

first-records : (x : ℕ) (f : Forest) → records_in (at_first x f) + bares f ≤ suc (records_in f)
unfolding at_first bares records
first-records x nil = omega arith
first-records x (t ▸ f) =
    by-conds (λ g c. records_in g + c ≤ suc (records t + records_in f)) (bare t) _ _ _ _
    (λ e. omega (arith, others-records f, some-records t, leaf-records x Unlimited))
    (λ e. omega (arith, first-records x f))

first-size : (x : ℕ) (f : Forest) → size (at_first x f) + bares f ≤ suc (size f)
unfolding at_first bares size
first-size x nil = omega arith
first-size x (t ▸ f) =
    by-conds (λ g c. size g + c ≤ suc (suc (size f))) (bare t) _ _ _ _
    (λ e. omega (arith, others-size f))
    (λ e. omega (arith, first-size x f))

first_some : (x : ℕ) (f : Forest) → 1 ≤ size f → 1 ≤ size (at_first x f)
unfolding at_first size
first_some x nil h = h
first_some x (t ▸ f) h = by_cond (λ g. 1 ≤ size g) (bare t) _ _ (λ e. omega arith) (λ e. omega arith)

pub depth-some : (f : Forest) → 1 ≤ size f → 1 ≤ depth_in f
unfolding size depth
depth-some nil h = h
depth-some (t ▸ f) h = omega (arith, some-depth t)

module _ (k : Kind) (s : SumKind k) where
  pub loops-some : (f : Forest) (d : ℕ) → 1 ≤ size f → d ≤ loops_in k f d
  unfolding size
  loops-some nil d h = absurd (omega arith)
  loops-some (t ▸ f) d h = omega (arith, s.loopses t f d, some-loops t d)

  others-name : (f : Forest) → name_in k (others f) ≡ name_in k f
  unfolding others
  others-name nil = refl
  others-name (t ▸ f) =
      by_cond (λ g. name_in k g ≡ name_in k (t ▸ f)) (bare t) _ _
      (λ e. omega (arith, others-name f, s.names t f, bare-name t e, name_in-le k f))
      (λ e. omega (arith, others-name f, s.names t f, s.names t (others f)))

  others-loops : (f : Forest) (d : ℕ) → loops_in k (others f) d ≤ loops_in k f d
  unfolding others
  others-loops nil d = omega arith
  others-loops (t ▸ f) d =
      by_cond (λ g. loops_in k g d ≤ loops_in k (t ▸ f) d) (bare t) _ _
      (λ e. omega (arith, others-loops f d, s.loopses t f d))
      (λ e. omega (arith, others-loops f d, s.loopses t f d, s.loopses t (others f) d))

  others-weight : (f : Forest) (d : ℕ) → weight_in k (others f) d ≤ weight_in k f d
  unfolding others
  others-weight nil d = omega arith
  others-weight (t ▸ f) d =
      by_cond (λ g. weight_in k g d ≤ weight_in k (t ▸ f) d) (bare t) _ _
      (λ e. omega (arith, others-weight f d, s.weights t f d))
      (λ e. omega (arith, others-weight f d, s.weights t f d, s.weights t (others f) d))

  first-name : (x : ℕ) (f : Forest) → name_in k (at_first x f) ≡ name_in k f
  unfolding at_first
  first-name x nil = refl
  first-name x (t ▸ f) =
      by_cond (λ g. name_in k g ≡ name_in k (t ▸ f)) (bare t) _ _
      (λ e. omega (arith, others-name f, s.names t f, s.names (leaf x Unlimited) (others f), bare-name t e, leaf-name x))
      (λ e. omega (arith, first-name x f, s.names t f, s.names t (at_first x f)))

  first-loops : (x : ℕ) (f : Forest) (d : ℕ) → loops_in k (at_first x f) d ≤ loops_in k f d
  unfolding at_first
  first-loops x nil d = omega arith
  first-loops x (t ▸ f) d =
      by_cond (λ g. loops_in k g d ≤ loops_in k (t ▸ f) d) (bare t) _ _
      (λ e. omega (arith, others-loops f d, s.loopses t f d, s.loopses (leaf x Unlimited) (others f) d, leaf-loops x Unlimited d, some-loops t d))
      (λ e. omega (arith, first-loops x f d, s.loopses t f d, s.loopses t (at_first x f) d))

  first-weight : (x : ℕ) (f : Forest) (d : ℕ) → weight_in k (at_first x f) d ≤ weight_in k f d
  unfolding at_first
  first-weight x nil d = omega arith
  first-weight x (t ▸ f) d =
      by_cond (λ g. weight_in k g d ≤ weight_in k (t ▸ f) d) (bare t) _ _
      (λ e. omega (arith, others-weight f d, s.weights t f d, s.weights (leaf x Unlimited) (others f) d, leaf-weight x d))
      (λ e. omega (arith, first-weight x f d, s.weights t f d, s.weights t (at_first x f) d))

  -- the list of the others with a block of x
  first-list : (v : Values) (x : ℕ) (f : Forest) → 1 ≤ bares f → before v k (at_first x f) ≡ join k (const x) (before v k (others f))
  unfolding at_first others bares
  first-list v x nil h = absurd (omega arith)
  first-list v x (t ▸ f) h = go (bare t) h (first-list v x f)
    where
      go : (b : Bool) → 1 ≤ cond b (suc (bares f)) (bares f) → (1 ≤ bares f → before v k (at_first x f) ≡ join k (const x) (before v k (others f)))
          → before v k (cond b (leaf x Unlimited ▸ others f) (t ▸ at_first x f)) ≡ join k (const x) (before v k (cond b (others f) (t ▸ others f)))
      go true p h = s.lists v (leaf x Unlimited) (others f) ∙ ap (λ y. join k y (before v k (others f))) (leaf-list v x)
      go false p h =
          s.lists v t (at_first x f) ∙ ap (join k (list v t)) (h p)
          ∙ join-swap k _ _ _ (list-falls v t) (const-falls x) (before_falls v k (others f))
          ∙ ap (join k (const x)) (sym (s.lists v t (others f)))

  -- what the blocks come to, joined by op
  module _ (op : ℕ → ℕ → ℕ) (o : (a b : ℕ) → join k (const a) (const b) ≡ const (op a b))
      (acc : Forest → ℕ) (z : acc nil ≡ 0) (c : (t : Tree) (f : Forest) → acc (t ▸ f) ≡ cond (bare t) (op (time_of t) (acc f)) (acc f)) where
    gathered : (v : Values) (f : Forest) → before v k f ≡ join k (const (acc f)) (before v k (others f))
    unfolding others
    gathered v nil = sym (ap (λ x. join k (const x) (before v k nil)) z ∙ zero-join k _ (before_falls v k nil))
    gathered v (t ▸ f) = rw (c t f) (go (bare t) (bare-list v t) (gathered v f))
      where
        g : Stream
        g = before v k (others f)

        go : (b : Bool) → (T b → list v t ≡ const (time_of t)) → before v k f ≡ join k (const (acc f)) g
            → before v k (t ▸ f) ≡ join k (const (cond b (op (time_of t) (acc f)) (acc f))) (before v k (cond b (others f) (t ▸ others f)))
        go true p h =
            s.lists v t f ∙ ap₂ (join k) (p tt) h
            ∙ sym (join-assoc k _ _ _ (const-falls _) (const-falls _) (before_falls v k (others f)))
            ∙ ap (λ y. join k y g) (o (time_of t) (acc f))
        go false p h =
            s.lists v t f ∙ ap (join k (list v t)) h
            ∙ join-swap k _ _ _ (list-falls v t) (const-falls (acc f)) (before_falls v k (others f))
            ∙ ap (join k (const (acc f))) (sym (s.lists v t (others f)))

    acc-most : (v : Values) (f : Forest) → before v k f 0 ≤ most_time → acc f ≤ most_time
    unfolding const
    acc-most v f h =
        let e : before v k f 0 ≡ join k (const (acc f)) (before v k (others f)) 0 = ap (λ q. q 0) (gathered v f) in
        let l : acc f ≤ join k (const (acc f)) (before v k (others f)) 0 = join-left k (const (acc f)) (before v k (others f)) in
        omega arith

    bares-size : (f : Forest) → bares f ≤ size f
    bares-size f = omega (arith, others-size f)

    pub one-for-all : (f : Forest) → 2 ≤ bares f → RefinesIn k (leaf (acc f) Unlimited ▸ others f) f
    unfolding fits listed depth every_node records limit_in_range
    one-for-all f p =
        let n : 1 ≤ size f = omega (arith, bares-size f) in record {
          keeps = record {
            same_name = omega (arith, s.names (leaf (acc f) Unlimited) (others f), leaf-name (acc f), others-name f, name_in-le k f);
            same_list = λ v. s.lists v (leaf (acc f) Unlimited) (others f) ∙ ap (λ y. join k y (before v k (others f))) (leaf-list v (acc f)) ∙ sym (gathered v f);
            still_fits = λ v b h. join-and _ _ (leaf-fits v (acc f) Unlimited (acc-most v f b)) (others-each (fits_each v) f h);
            still_listed = λ b h l. join-and _ _ (leaf-listed (acc f) Unlimited (acc-most zeros f (b tt)) tt) (others-each listed-each f l);
            deep = omega (arith, leaf-depth (acc f) Unlimited, others-depth f, depth-some f n);
            nested = λ d. omega (arith, s.loopses (leaf (acc f) Unlimited) (others f) d, leaf-loops (acc f) Unlimited d, others-loops f d, loops-some f d n);
            still_named = λ d h. (named-each k s d).more (leaf (acc f) Unlimited) (others f) (leaf-named (acc f) d) (others-each (named-each k s d) f h);
            weighed = λ d. omega (arith, s.weights (leaf (acc f) Unlimited) (others f) d, leaf-weight (acc f) d, others-weight f d);
            limits = λ q h. join-and _ _ (leaf-limits q (acc f)) (others-each (limits-each q) f h);
          };
          fewer = λ l. omega (arith, leaf-records (acc f) Unlimited, others-records f);
        }

    pub one-at-first : (f : Forest) → 2 ≤ bares f → RefinesIn k (at_first (acc f) f) f
    unfolding limit_in_range
    one-at-first f p = record {
      keeps = record {
        same_name = first-name (acc f) f;
        same_list = λ v. first-list v (acc f) f (omega arith) ∙ sym (gathered v f);
        still_fits = λ v b h. first-each (fits_each v) (acc f) (leaf-fits v (acc f) Unlimited (acc-most v f b)) f h;
        still_listed = λ b h l. first-each listed-each (acc f) (leaf-listed (acc f) Unlimited (acc-most zeros f (b tt)) tt) f l;
        deep = first-depth (acc f) f;
        nested = λ d. first-loops (acc f) f d;
        still_named = λ d h. first-each (named-each k s d) (acc f) (leaf-named (acc f) d) f h;
        weighed = λ d. first-weight (acc f) f d;
        limits = λ q h. first-each (limits-each q) (acc f) (leaf-limits q (acc f)) f h;
      };
      fewer = λ l. omega (arith, first-records (acc f) f);
    }

total-refines : (f : Forest) → 2 ≤ bares f → RefinesIn Sequence (leaf (total f) Unlimited ▸ others f) f
unfolding join total
total-refines f p = one-for-all Sequence sequence-sum (λ a b. a + b) add-consts total refl (λ t g. refl) f p

largest-refines : (f : Forest) → 2 ≤ bares f → RefinesIn Choice (at_first (largest f) f) f
unfolding join largest
largest-refines f p = one-at-first Choice choice-sum max merge-consts largest refl (λ t g. refl) f p

pub rule6-refines : (l : Limit) (a : ℕ) (f : Forest) → 2 ≤ bares f → Refines (node (at Sequence l a) (leaf (total f) Unlimited ▸ others f)) (node (at Sequence l a) f)
unfolding size
rule6-refines l a f p =
    node-refines (at Sequence l a) _ f (total-refines f p)
    (λ q r. arity-of Sequence sequence-sum _ (omega arith) (omega (arith, others-size f, (of-arity Sequence sequence-sum _ r).1)))

pub rule7-refines : (l : Limit) (a : ℕ) (f : Forest) → 2 ≤ bares f → Refines (node (at Choice l a) (at_first (largest f) f)) (node (at Choice l a) f)
rule7-refines l a f p =
    node-refines (at Choice l a) _ f (largest-refines f p)
    (λ q r. arity-of Choice choice-sum _ (first_some (largest f) f (of-arity Choice choice-sum _ r).0) (omega (arith, first-size (largest f) f, (of-arity Choice choice-sum _ r).1)))
