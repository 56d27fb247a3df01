-- A step keeps a table accepted, question 10 answered, and the figure; and it makes the table smaller, or its last.
use Rattle.std.specs.Prelude.{refl, ◌≡◌, Bool, true, not, suc, ◌<◌, ℕ, T}
use Rattle.std.proofs.Math.Path.{sym, ap}
use Rattle.std.proofs.Common.{subst, ◌∙◌, arith, leb→le}
use Rattle.std.proofs.Math.Bool.{false}
use Rattle.std.proofs.Math.Option.{Option, some, none}
use Rattle.booleans.specs.Laws.{both, by_cond}
use Rattle.booleans.specs.Tests.{◌and◌}
use Rattle.table.specs.Questions.{arity, listed, limit_in_range}
use Rattle.table.specs.Trees.{Tree, node, Forest, nil, ◌▸◌, size, rest, records}
use Rattle.table.proofs.Laws.Trees.{some-records}
use Rattle.lists.specs.Streams.{const}
use Rattle.evaluate.specs.Closed.{is_unlimited, symbol_free, is_plain, plain_kind, plain_limit}
use Rattle.evaluate.specs.Evaluate.{name, Values, figure, zeros, list}
use Rattle.evaluate.proofs.Laws.Constant.{unlimited-is, list-free}
use Rattle.evaluate.proofs.Laws.Ranges.{figure-most}
use Rattle.simplify.specs.Nodes.{Kind, Node, Unlimited, Sequence, Choice, Plain, Loop}
use Rattle.simplify.specs.Rules.{when, rule2, alone, is_sum, rule3, rule4, rule5, rule6, rule7, rule8, exit, rule9, leaf, is_block, bare, rule1}
use Rattle.simplify.specs.Same.{same_kind}
use Rattle.simplify.specs.Steps.{or_else, rule, also, inside, inside_in, step}
use Rattle.simplify.proofs.Laws.Blocks.{leaf-fits, leaf-listed, leaf-depth, leaf-loops, leaf-records, leaf-named, leaf-weight, leaf-limits, leaf-list}
use Rattle.simplify.proofs.Laws.Keeps.{Kept, keeps-kept}
use Rattle.simplify.proofs.Laws.Refines.{Refines, SumKind, sum_is, RefinesIn, node-refines, head-refines, tail-refines}
use Rattle.simplify.proofs.Laws.Rule4.{rule4-refines}
use Rattle.simplify.proofs.Laws.Rule5.{rule5-refines}
use Rattle.simplify.proofs.Laws.Rule8.{rule8-refines}
use Rattle.simplify.proofs.Laws.Rule9.{rule9-refines, names-run}
use Rattle.simplify.proofs.Laws.Rules2And3.{rule2-refines, alone-free, relimit-refines}
use Rattle.simplify.proofs.Laws.Rules6And7.{rule6-refines, rule7-refines}
use Rattle.simplify.proofs.Laws.Same.{kind-is, at, node-is}

-- what may become of a tree
pub data Moves (t : Tree) : Option Tree → Type 0 where
  stays-so : Moves t none
  moves : {u : Tree} → Refines u t → Moves t (some u)

pub or-moves : (t : Tree) (x y : Option Tree) → Moves t x → Moves t y → Moves t (or_else x y)
unfolding or_else
or-moves t none y p q = q
or-moves t (some u) y p q = p

when-moves : (t : Tree) (b : Bool) (u : Tree) → (T b → Refines u t) → Moves t (when b u)
unfolding when
when-moves t true u f = moves (f tt)
when-moves t false u f = stays-so

-- ---- each rule

-- a node whose kind, or kind and limit, a test has told
as-kind : (n : Node) (k : Kind) (u : Tree) (f : Forest) → T (same_kind n.kind k) → Refines u (node (at k n.limit n.address) f) → Refines u (node n f)
as-kind n k u f h r = subst (λ m. Refines u (node m f)) (sym (node-is n k n.limit (kind-is _ _ h) refl)) r

-- the same, where the new tree has the node too
as-kind₂ : (n : Node) (k : Kind) (g f : Forest) → T (same_kind n.kind k) → Refines (node (at k n.limit n.address) g) (node (at k n.limit n.address) f) → Refines (node n g) (node n f)
as-kind₂ n k g f h r = subst (λ m. Refines (node m g) (node m f)) (sym (node-is n k n.limit (kind-is _ _ h) refl)) r

as-free : (n : Node) (u : Tree) (f : Forest) → T (is_unlimited n.limit) → Refines u (node (at n.kind Unlimited n.address) f) → Refines u (node n f)
as-free n u f h r = subst (λ m. Refines u (node m f)) (sym (node-is n n.kind Unlimited refl (unlimited-is _ h))) r

rule2-moves : (n : Node) (f : Forest) → Moves (node n f) (rule2 n f)
unfolding rule2
rule2-moves n f = when-moves _ _ _ (λ h. let (a, b) = both _ _ h in rule2-refines n f a b)

alone-moves : (n : Node) → SumKind n.kind → (f : Forest) → Moves (node n f) (alone n.limit f)
unfolding alone
alone-moves n s nil = stays-so
alone-moves n s (t ▸ nil) =
    by_cond (Moves (node n (t ▸ nil))) (is_unlimited n.limit) _ _
    (λ h. moves (as-free n t (t ▸ nil) h (alone-free n.kind s n.address t)))
    (λ e. when-moves _ _ _ (λ h. relimit-refines n.kind s n.limit n.address t h))
alone-moves n s (t ▸ u ▸ f) = stays-so

rule3-moves : (n : Node) (f : Forest) → Moves (node n f) (rule3 n f)
unfolding rule3
rule3-moves n f = by_cond (Moves (node n f)) (is_sum n.kind) _ _ (λ h. alone-moves n (sum_is _ h) f) (λ e. stays-so)

rule4-moves : (n : Node) (f : Forest) → Moves (node n f) (rule4 n f)
unfolding rule4
rule4-moves n f = when-moves _ _ _ (λ h. let (p, c) = both _ _ h in let (a, b) = both _ _ p in rule4-refines n f a b c)

rule5-moves : (n : Node) (f : Forest) → Moves (node n f) (rule5 n f)
unfolding rule5
rule5-moves n f = when-moves _ _ _ (λ h. let (p, c) = both _ _ h in let (a, b) = both _ _ p in rule5-refines n f a (leb→le 2 _ b) c)

rule6-moves : (n : Node) (f : Forest) → Moves (node n f) (rule6 n f)
unfolding rule6
rule6-moves n f = when-moves _ _ _ (λ h. let (a, b) = both _ _ h in as-kind₂ n Sequence _ f a (rule6-refines n.limit n.address f (leb→le 2 _ b)))

rule7-moves : (n : Node) (f : Forest) → Moves (node n f) (rule7 n f)
unfolding rule7
rule7-moves n f = when-moves _ _ _ (λ h. let (a, b) = both _ _ h in as-kind₂ n Choice _ f a (rule7-refines n.limit n.address f (leb→le 2 _ b)))

rule8-moves : (n : Node) (f : Forest) → Moves (node n f) (rule8 n f)
unfolding rule8
rule8-moves n f = when-moves _ _ _ (λ h. let (a, b) = both _ _ h in as-kind n Choice _ f a (rule8-refines n.limit n.address f b))

exit-moves : (a : ℕ) (f : Forest) → Moves (node (at (Loop (Plain 0)) Unlimited a) f) (exit f)
unfolding exit
exit-moves a nil = stays-so
exit-moves a (b ▸ nil) = stays-so
exit-moves a (b ▸ e ▸ nil) = when-moves _ _ _ (λ h. rule9-refines a b e (names-run (name b) h))
exit-moves a (b ▸ e ▸ t ▸ f) = stays-so

rule9-moves : (n : Node) (f : Forest) → Moves (node n f) (rule9 n f)
unfolding rule9
rule9-moves n f =
    by_cond (Moves (node n f)) (same_kind n.kind (Loop (Plain 0)) and is_unlimited n.limit) _ _
    (λ h. let (a, b) = both _ _ h in subst (λ m. Moves (node m f) (exit f)) (sym (node-is n _ Unlimited (kind-is _ _ a) (unlimited-is _ b))) (exit-moves n.address f))
    (λ e. stays-so)

pub rule-moves : (n : Node) (f : Forest) → Moves (node n f) (rule n f)
unfolding rule
rule-moves n f =
    or-moves _ _ _ (rule2-moves n f) (or-moves _ _ _ (rule3-moves n f) (or-moves _ _ _ (rule4-moves n f) (or-moves _ _ _ (rule5-moves n f)
    (or-moves _ _ _ (rule6-moves n f) (or-moves _ _ _ (rule7-moves n f) (or-moves _ _ _ (rule8-moves n f) (rule9-moves n f)))))))

-- ---- inside a tree

data MovesIn (k : Kind) (f : Forest) : Option Forest → Type 0 where
  stays-in : MovesIn k f none
  moves-in : {g : Forest} → RefinesIn k g f → size g ≡ size f → MovesIn k f (some g)

or-moves-in : (k : Kind) (f : Forest) (x y : Option Forest) → MovesIn k f x → MovesIn k f y → MovesIn k f (or_else x y)
unfolding or_else
or-moves-in k f none y p q = q
or-moves-in k f (some u) y p q = p

in-node : (n : Node) (f : Forest) (x : Option Forest) → MovesIn n.kind f x → Moves (node n f) (also (node n) x)
unfolding also
in-node n f none stays-in = stays-so
in-node n f (some g) (moves-in r e) = moves (node-refines n g f r (λ l a. subst (λ c. T (arity n.kind c)) (sym e) a))

in_head : (k : Kind) (t : Tree) (f : Forest) (x : Option Tree) → Moves t x → MovesIn k (t ▸ f) (also (λ u. u ▸ f) x)
unfolding also size
in_head k t f none stays-so = stays-in
in_head k t f (some u) (moves r) = moves-in (head-refines k u t f r) refl

in_tail : (k : Kind) (t : Tree) (f : Forest) (x : Option Forest) → MovesIn (rest k) f x → MovesIn k (t ▸ f) (also (λ g. t ▸ g) x)
unfolding also size
in_tail k t f none stays-in = stays-in
in_tail k t f (some g) (moves-in r e) = moves-in (tail-refines k t g f r) (ap suc e)

mutual
  unfolding inside

  pub inside-moves : (t : Tree) → Moves t (inside t)
  inside-moves (node n f) = or-moves _ _ _ (rule-moves n f) (in-node n f _ (inside_in-moves n.kind f))

  inside_in-moves : (k : Kind) (f : Forest) → MovesIn k f (inside_in f)
  inside_in-moves k nil = stays-in
  inside_in-moves k (t ▸ f) = or-moves-in k _ _ _ (in_head k t f _ (inside-moves t)) (in_tail k t f _ (inside_in-moves (rest k) f))

-- ---- the whole table

rule1-kept : (t : Tree) → T (symbol_free t) → Kept true (leaf (figure zeros t) Unlimited) t
rule1-kept t h = record {
  same_figure = λ v. same-figure v;
  still_fits = λ v q. leaf-fits v (figure zeros t) Unlimited (rw (same_first v) at (figure-most v t q));
  still_accepted = λ q a. record {
    short = omega (arith, leaf-records (figure zeros t) Unlimited);
    listed = leaf-listed (figure zeros t) Unlimited (figure-most zeros t (q tt)) (unfold limit_in_range in tt);
    deep = omega (arith, leaf-depth (figure zeros t) Unlimited);
    nested = omega (arith, leaf-loops (figure zeros t) Unlimited 0);
    named = leaf-named (figure zeros t) 0;
    weighed = omega (arith, leaf-weight (figure zeros t) 0);
  };
  no_more = λ h a. omega (arith, leaf-records (figure zeros t) Unlimited, some-records t);
  limits = λ p q. leaf-limits p (figure zeros t);
}
  where
    same_first : (v : Values) → figure v t ≡ figure zeros t
    same_first v = unfold figure in ap (λ s. s 0) (list-free v zeros t h)

    same-figure : (v : Values) → figure v (leaf (figure zeros t) Unlimited) ≡ figure v t
    same-figure v = sym (same_first v ∙ unfold figure in sym (ap (λ s. s 0) (leaf-list v (list zeros t 0)) ∙ unfold const in refl))

-- a step, where there is one: it keeps, and it leaves fewer records, or, by rule 1, one record alone (fewer too, unless the table was a lone limited
-- block), where no rule fits any more
pub data Steps (t : Tree) : Option Tree → Type 0 where
  ends : Steps t none
  goes : {u : Tree} → Kept true u t → (T (listed t) → records u < records t) → Steps t (some u)
  last : {u : Tree} → Kept true u t → records u ≡ 1 → step u ≡ none → Steps t (some u)

-- no rule fits an unlimited plain block
pub leaf-done : (x : ℕ) → step (leaf x Unlimited) ≡ none
unfolding step rule1 when symbol_free plain_kind plain_limit is_plain bare is_unlimited is_block leaf ◌and◌ or_else also inside rule rule2 rule3 rule4 rule5 rule6 rule7 rule8 rule9 is_sum same_kind
leaf-done x = refl

pub step-steps : (t : Tree) → Steps t (step t)
unfolding step rule1
step-steps t = go (symbol_free t and not (bare t)) (λ h. (both _ _ h).0) (inside t) (inside-moves t)
  where
    go : (b : Bool) → (T b → T (symbol_free t)) → (x : Option Tree) → Moves t x → Steps t (or_else (when b (leaf (figure zeros t) Unlimited)) x)
    go true h x m = unfold when in unfold or_else in last (rule1-kept t (h tt)) (leaf-records _ Unlimited) (leaf-done _)
    go false h none stays-so = unfold when in unfold or_else in ends
    go false h (some u) (moves r) = unfold when in unfold or_else in goes (keeps-kept u t r.keeps (λ l. omega (arith, r.fewer l))) r.fewer
