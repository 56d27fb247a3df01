-- Rules 2 and 3: an inner sequence or choice gives way, and one of a single child becomes that child.
use Rattle.std.specs.Prelude.{◌≡◌, refl}
use Rattle.std.proofs.Math.Path.{subst, ap, sym}
use Rattle.std.proofs.Common.{◌∙◌}
use Prim.Native.Nat.{ℕ, ◌≤◌, ◌+◌, max, suc, min}
use native.Mathlib.Omega.{arith}
use Rattle.std.proofs.Math.Dec.{T, leb→le}
use Rattle.booleans.specs.Laws.{both, join-and, by_cond, or_else}
use Rattle.table.specs.Numbers.{most_children}
use Rattle.table.specs.Questions.{depth, listed, listed_in, loops, loops_in, name_ok, named, share, weight, weight_in}
use Rattle.table.specs.Trees.{Forest, nil, ◌▸◌, ◌⧺◌, size, records, Tree, node, every_node}
use Rattle.evaluate.specs.Closed.{is_unlimited}
use Rattle.evaluate.specs.Evaluate.{limit, join, Values, fits, inner, name, name_in, list, before}
use Rattle.evaluate.proofs.Laws.Constant.{unlimited-is}
use Rattle.evaluate.proofs.Laws.Monotone.{list-falls, before_falls, name_in-le, name-le}
use Rattle.evaluate.proofs.Laws.Joins.{zero-join, join-assoc, join-zero}
use Rattle.simplify.specs.Nodes.{Unlimited, Kind, Node, Limit}
use Rattle.simplify.specs.Rules.{address_of, is_sum, children, gives, any_gives, give_way, limit_of, relimit}
use Rattle.simplify.proofs.Laws.Refines.{SumKind, RefinesIn, tail-sum, of-arity, Refines, node-refines, sum_is, arity-of}
use Rattle.simplify.proofs.Laws.Same.{kind-is, at, node-is}
use Rattle.simplify.proofs.Laws.Forests.{size-⧺, records-⧺, depth-⧺, fits_each, listed-each, limits-each, named-each, each-⧺}

module _ (k : Kind) (s : SumKind k) where
  name-⧺ : (g f : Forest) → name_in k (g ⧺ f) ≡ min (name_in k g) (name_in k f)
  unfolding ◌⧺◌ name
  name-⧺ nil f = omega (arith, name_in-le k f)
  name-⧺ (t ▸ g) f = omega (arith, s.names t (g ⧺ f), s.names t g, name-⧺ g f)

  list-⧺ : (v : Values) (g f : Forest) → before v k (g ⧺ f) ≡ join k (before v k g) (before v k f)
  unfolding ◌⧺◌
  list-⧺ v nil f = sym (ap (λ x. join k x (before v k f)) (s.empty v) ∙ zero-join k _ (before_falls v k f))
  list-⧺ v (t ▸ g) f =
      s.lists v t (g ⧺ f) ∙ ap (join k (list v t)) (list-⧺ v g f)
      ∙ sym (join-assoc k _ _ _ (list-falls v t) (before_falls v k g) (before_falls v k f))
      ∙ ap (λ x. join k x (before v k f)) (sym (s.lists v t g))

  loops-⧺ : (g f : Forest) (d : ℕ) → loops_in k (g ⧺ f) d ≡ max (loops_in k g d) (loops_in k f d)
  unfolding ◌⧺◌ loops
  loops-⧺ nil f d = omega arith
  loops-⧺ (t ▸ g) f d = omega (arith, s.loopses t (g ⧺ f) d, s.loopses t g d, loops-⧺ g f d)

  weight-⧺ : (g f : Forest) (d : ℕ) → weight_in k (g ⧺ f) d ≡ weight_in k g d + weight_in k f d
  unfolding ◌⧺◌ weight
  weight-⧺ nil f d = omega arith
  weight-⧺ (t ▸ g) f d = omega (arith, s.weights t (g ⧺ f) d, s.weights t g d, weight-⧺ g f d)

  -- ---- rule 2

  pub splice : (a : ℕ) (g f : Forest) → RefinesIn k (g ⧺ f) (node (at k Unlimited a) g ▸ f)
  unfolding name list inner limit fits listed depth loops name_ok named share weight every_node records
  splice a g f = record {
    keeps = record {
      same_name = name-⧺ g f ∙ sym (s.names (node (at k Unlimited a) g) f);
      same_list = λ v. list-⧺ v g f ∙ sym (s.lists v (node (at k Unlimited a) g) f);
      still_fits = λ v b h. let (x, y) = both _ _ h in each-⧺ (fits_each v) g f (both _ _ x).1 y;
      still_listed = λ b h l. let (x, y) = both _ _ l in each-⧺ listed-each g f (both _ _ x).1 y;
      deep = omega (arith, depth-⧺ g f);
      nested = λ d. omega (arith, loops-⧺ g f d, s.loopses (node (at k Unlimited a) g) f d);
      still_named = λ d h. let (x, y) = (named-each k s d).apart (node (at k Unlimited a) g) f h in each-⧺ (named-each k s d) g f (both _ _ x).1 y;
      weighed = λ d. omega (arith, weight-⧺ g f d, s.weights (node (at k Unlimited a) g) f d);
      limits = λ p h. let (x, y) = both _ _ h in each-⧺ (limits-each p) g f (both _ _ x).1 y;
    };
    fewer = λ l. omega (arith, records-⧺ g f);
  }

  gives-is : (c : ℕ) (t : Tree) → T (gives k c t) → t ≡ node (at k Unlimited (address_of t)) (children t)
  unfolding gives children address_of
  gives-is c (node n f) h =
      let (p, z) = both _ _ h in
      let (x, y) = both _ _ p in
      ap (λ m. node m f) (node-is n k Unlimited (kind-is _ _ x) (unlimited-is _ y))

  gives-few : (c : ℕ) (t : Tree) → T (gives k c t) → c + size (children t) ≤ suc most_children
  unfolding gives children
  gives-few c (node n f) h = leb→le _ _ (both _ _ h).1

  pub give_way-refines : (c : ℕ) (f : Forest) → T (any_gives k c f) → RefinesIn k (give_way k c f) f
  unfolding any_gives give_way
  give_way-refines c nil h = absurd h
  give_way-refines c (t ▸ f) h =
      by_cond (λ g. RefinesIn k g (t ▸ f)) (gives k c t) _ _
      (λ e. subst (λ u. RefinesIn k (children t ⧺ f) (u ▸ f)) (sym (gives-is c t e)) (splice (address_of t) (children t) f))
      (λ e. tail-sum k s t _ f (give_way-refines c f (or_else _ _ h e)))

  pub give_way-most : (c : ℕ) (f : Forest) → T (any_gives k c f) → c + size (give_way k c f) ≤ size f + most_children
  unfolding any_gives give_way size
  give_way-most c nil h = absurd h
  give_way-most c (t ▸ f) h =
      by_cond (λ g. c + size g ≤ suc (size f) + most_children) (gives k c t) _ _
      (λ e. omega (arith, size-⧺ (children t) f, gives-few c t e))
      (λ e. omega (arith, give_way-most c f (or_else _ _ h e)))

  some-children : (t : Tree) → t ≡ node (at k Unlimited (address_of t)) (children t) → T (listed t) → 1 ≤ size (children t)
  unfolding listed
  some-children t e l =
      let q : T (listed (node (at k Unlimited (address_of t)) (children t))) = subst (λ u. T (listed u)) e l in
      let (x, y) = both _ _ q in
      (of-arity k s _ (both _ _ x).1).0

  pub give_way-least : (c : ℕ) (f : Forest) → T (any_gives k c f) → T (listed_in f) → 1 ≤ size (give_way k c f)
  unfolding any_gives give_way size listed
  give_way-least c nil h l = absurd h
  give_way-least c (t ▸ f) h l =
      by_cond (λ g. 1 ≤ size g) (gives k c t) _ _
      (λ e. omega (arith, size-⧺ (children t) f, some-children t (gives-is c t e) (both _ _ l).0))
      (λ e. omega arith)

pub rule2-refines : (n : Node) (f : Forest) → T (is_sum n.kind) → T (any_gives n.kind (size f) f) → Refines (node n (give_way n.kind (size f) f)) (node n f)
rule2-refines n f i h =
    let s = sum_is n.kind i in
    node-refines n _ f (give_way-refines _ s (size f) f h)
    (λ l a. arity-of _ s _ (give_way-least _ s (size f) f h l) (omega (arith, give_way-most _ s (size f) f h)))

-- ---- rule 3

pub alone-free : (k : Kind) → SumKind k → (a : ℕ) (t : Tree) → Refines t (node (at k Unlimited a) (t ▸ nil))
unfolding name list inner limit fits listed depth loops name_ok named share weight every_node records
alone-free k s a t = record {
  keeps = record {
    same_name = omega (arith, s.names t nil, name-le t);
    same_list = λ v. sym (s.lists v t nil ∙ ap (join k (list v t)) (s.empty v) ∙ join-zero k _ (list-falls v t));
    still_fits = λ v h. let (a, b) = both _ _ h in (both _ _ b).0;
    still_listed = λ h l. let (a, b) = both _ _ l in (both _ _ b).0;
    deep = omega arith;
    nested = λ d. omega (arith, s.loopses t nil d);
    still_named = λ d h. ((named-each k s d).apart t nil (both _ _ h).1).0;
    weighed = λ d. omega (arith, s.weights t nil d);
    limits = λ p h. let (a, b) = both _ _ h in (both _ _ b).0;
  };
  fewer = λ l. omega arith;
}

pub alone-limited : (k : Kind) → SumKind k → (l : Limit) (a : ℕ) (j : Kind) (i : ℕ) (g : Forest) → Refines (node (at j l i) g) (node (at k l a) (node (at j Unlimited i) g ▸ nil))
unfolding name list fits listed depth loops named weight every_node records
alone-limited k s l a j i g =
    let t = node (at j Unlimited i) g in record {
      keeps = record {
        same_name = unfold inner in ap (inner l) (omega (arith, s.names t nil, name_in-le j g));
        same_list = λ v. unfold limit in ap (limit v l) (sym (s.lists v t nil ∙ ap (join k (list v t)) (s.empty v) ∙ join-zero k _ (list-falls v t)));
        still_fits = λ v h. let (a, b) = both _ _ h in (both _ _ b).0;
        still_listed = λ h q.
            let (a, b) = both _ _ q in
            let (c, e) = both _ _ (both _ _ b).0 in
            let (x, y) = both _ _ (both _ _ a).0 in
            let (z, w) = both _ _ c in
            join-and _ _ (join-and _ _ (join-and _ _ (both _ _ z).0 y) w) e;
        deep = omega arith;
        nested = λ d. omega (arith, s.loopses t nil d);
        still_named = λ d h. let (a, b) = both _ _ h in join-and _ _ a (both _ _ ((named-each k s d).apart t nil b).0).1;
        weighed = λ d. omega (arith, s.weights t nil d);
        limits = λ p h. let (a, b) = both _ _ h in join-and _ _ a (both _ _ (both _ _ b).0).1;
      };
      fewer = λ q. omega arith;
    }

pub relimit-refines : (k : Kind) → SumKind k → (l : Limit) (a : ℕ) (t : Tree) → T (is_unlimited (limit_of t)) → Refines (relimit l t) (node (at k l a) (t ▸ nil))
unfolding relimit limit_of
relimit-refines k s l a (node m g) h =
    subst (λ u. Refines (node (at m.kind l m.address) g) (node (at k l a) (node u g ▸ nil))) (sym (node-is m m.kind Unlimited refl (unlimited-is _ h)))
    (alone-limited k s l a m.kind m.address g)
