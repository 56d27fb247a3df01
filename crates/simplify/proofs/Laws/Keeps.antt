-- What any change that keeps quotes keeps of a tree: `Keeps asked u t`, u is no worse than t in anything that the calls ask, and the same in what they answer.
-- It says nothing of the number of records, so that it holds of a rule and of a change of order alike. `asked` says what `still_listed` presupposes: where it
-- is true, that question 10 says yes of t with every value 0, which puts the time of a rule's new block in range; where it is false, nothing.
use Rattle.std.specs.Prelude.{◌≡◌, refl, Bool, ℕ, ◌≤◌, min, T, leb}
use Rattle.std.proofs.Common.{sym, ap, subst, ap₂, ◌∙◌, le_trans, arith, leb→le}
use Rattle.booleans.specs.Laws.{both, join-and}
use Rattle.table.specs.Numbers.{most_time}
use Rattle.table.specs.Questions.{listed, depth, loops, named, weight, listed_in, depth_in, loops_in, named_in, weight_in, arity, Accepted}
use Rattle.table.specs.Limits.{every_limit, every_limit_in}
use Rattle.table.specs.Trees.{Tree, records, Forest, node, size, ◌▸◌, rest, around, every_node}
use Rattle.evaluate.specs.Evaluate.{Values, name, list, fits, zeros, name_in, before, fits_in, inner, limit, seen, turns, join, figure}
use Rattle.evaluate.proofs.Laws.Joins.{join-right}
use Rattle.simplify.specs.Nodes.{Kind, Node, Most}

pub record Keeps (asked : Bool) (u t : Tree) : Type 0 where
  pub same_name : name u ≡ name t
  pub same_list : (v : Values) → list v u ≡ list v t
  pub still_fits : (v : Values) → T (fits v t) → T (fits v u)
  pub still_listed : (T asked → T (fits zeros t)) → T (listed t) → T (listed u)
  pub deep : depth u ≤ depth t
  pub nested : (d : ℕ) → loops u d ≤ loops t d
  pub still_named : (d : ℕ) → T (named t d) → T (named u d)
  pub weighed : (d : ℕ) → weight u d ≤ weight t d
  pub limits : (p : ℕ → Most → Bool) → T (every_limit p t) → T (every_limit p u)

-- the same of the children of a node of kind k
pub record KeepsIn (asked : Bool) (k : Kind) (g f : Forest) : Type 0 where
  pub same_name : name_in k g ≡ name_in k f
  pub same_list : (v : Values) → before v k g ≡ before v k f
  pub still_fits : (v : Values) → before v k f 0 ≤ most_time → T (fits_in v f) → T (fits_in v g)
  pub still_listed : (T asked → before zeros k f 0 ≤ most_time) → (T asked → T (fits_in zeros f)) → T (listed_in f) → T (listed_in g)
  pub deep : depth_in g ≤ depth_in f
  pub nested : (d : ℕ) → loops_in k g d ≤ loops_in k f d
  pub still_named : (d : ℕ) → T (named_in k f d) → T (named_in k g d)
  pub weighed : (d : ℕ) → weight_in k g d ≤ weight_in k f d
  pub limits : (p : ℕ → Most → Bool) → T (every_limit_in p f) → T (every_limit_in p g)

-- ---- one change after another: keeps-trans, keeps_in-refl and keeps_in-trans serve a change made of several, as a reordering of children is

pub keeps-refl : {asked : Bool} (t : Tree) → Keeps asked t t
keeps-refl t = record {
  same_name = refl;
  same_list = λ v. refl;
  still_fits = λ v h. h;
  still_listed = λ h l. l;
  deep = omega arith;
  nested = λ d. omega arith;
  still_named = λ d h. h;
  weighed = λ d. omega arith;
  limits = λ p h. h;
}

pub keeps-trans : {asked : Bool} (t u w : Tree) → Keeps asked w u → Keeps asked u t → Keeps asked w t
keeps-trans t u w p q = record {
  same_name = p.same_name ∙ q.same_name;
  same_list = λ v. p.same_list v ∙ q.same_list v;
  still_fits = λ v h. p.still_fits v (q.still_fits v h);
  still_listed = λ h l. p.still_listed (λ x. q.still_fits zeros (h x)) (q.still_listed h l);
  deep = le_trans p.deep q.deep;
  nested = λ d. le_trans (p.nested d) (q.nested d);
  still_named = λ d h. p.still_named d (q.still_named d h);
  weighed = λ d. le_trans (p.weighed d) (q.weighed d);
  limits = λ r h. p.limits r (q.limits r h);
}

pub keeps_in-refl : {asked : Bool} (k : Kind) (f : Forest) → KeepsIn asked k f f
keeps_in-refl k f = record {
  same_name = refl;
  same_list = λ v. refl;
  still_fits = λ v b h. h;
  still_listed = λ b h l. l;
  deep = omega arith;
  nested = λ d. omega arith;
  still_named = λ d h. h;
  weighed = λ d. omega arith;
  limits = λ p h. h;
}

pub keeps_in-trans : {asked : Bool} (k : Kind) (f g h : Forest) → KeepsIn asked k h g → KeepsIn asked k g f → KeepsIn asked k h f
keeps_in-trans k f g h p q = record {
  same_name = p.same_name ∙ q.same_name;
  same_list = λ v. p.same_list v ∙ q.same_list v;
  still_fits = λ v b a. p.still_fits v (few v b) (q.still_fits v b a);
  still_listed = λ b a l. p.still_listed (λ x. few zeros (b x)) (λ x. q.still_fits zeros (b x) (a x)) (q.still_listed b a l);
  deep = le_trans p.deep q.deep;
  nested = λ d. le_trans (p.nested d) (q.nested d);
  still_named = λ d a. p.still_named d (q.still_named d a);
  weighed = λ d. le_trans (p.weighed d) (q.weighed d);
  limits = λ r a. p.limits r (q.limits r a);
}
  where
    few : (v : Values) → before v k f 0 ≤ most_time → before v k g 0 ≤ most_time
    few v b = subst (λ s. s 0 ≤ most_time) (sym (q.same_list v)) b

-- ---- it passes through a context

pub node-keeps : {asked : Bool} (n : Node) (g f : Forest) → KeepsIn asked n.kind g f → (T (listed_in f) → T (arity n.kind (size f)) → T (arity n.kind (size g))) → Keeps asked (node n g) (node n f)
unfolding name list fits listed depth loops named weight every_node
node-keeps n g f r s = record {
  same_name = ap (inner n.limit) r.same_name;
  same_list = λ v. ap (limit v n.limit) (r.same_list v);
  still_fits = λ v h.
      let (a, b) = both _ _ h in
      join-and _ _ (subst (λ x. T (leb x most_time)) (sym (ap (λ s. s 0) (r.same_list v))) a) (r.still_fits v (leb→le _ _ a) b);
  still_listed = λ h l.
      let (p, c) = both _ _ l in
      let (q, e) = both _ _ p in
      join-and _ _ (join-and _ _ q (s c e)) (r.still_listed (λ x. leb→le _ _ (both _ _ (h x)).0) (λ x. (both _ _ (h x)).1) c);
  deep = omega (arith, r.deep);
  nested = λ d. omega (arith, r.nested d);
  still_named = λ d h. let (a, b) = both _ _ h in join-and _ _ a (r.still_named d b);
  weighed = λ d. omega (arith, r.weighed d);
  limits = λ p h. let (a, b) = both _ _ h in join-and _ _ a (r.limits p b);
}

pub head-keeps : {asked : Bool} (k : Kind) (u t : Tree) (f : Forest) → Keeps asked u t → KeepsIn asked k (u ▸ f) (t ▸ f)
unfolding name list fits listed depth loops named weight every_node
head-keeps k u t f r = record {
  same_name = ap (λ x. min (seen k x) (name_in (rest k) f)) r.same_name;
  same_list = λ v. ap₂ (λ x s. join k (turns v k x s) (before v (rest k) f)) r.same_name (r.same_list v);
  still_fits = λ v b h. let (x, y) = both _ _ h in join-and _ _ (r.still_fits v x) y;
  still_listed = λ b h l. let (p, q) = both _ _ l in join-and _ _ (r.still_listed (λ x. (both _ _ (h x)).0) p) q;
  deep = omega (arith, r.deep);
  nested = λ d. omega (arith, r.nested (around k d));
  still_named = λ d h. let (x, y) = both _ _ h in join-and _ _ (r.still_named (around k d) x) y;
  weighed = λ d. omega (arith, r.weighed (around k d));
  limits = λ p h. let (x, y) = both _ _ h in join-and _ _ (r.limits p x) y;
}

pub tail-keeps : {asked : Bool} (k : Kind) (t : Tree) (g f : Forest) → KeepsIn asked (rest k) g f → KeepsIn asked k (t ▸ g) (t ▸ f)
unfolding name list fits listed depth loops named weight every_node
tail-keeps k t g f r = record {
  same_name = ap (min (seen k (name t))) r.same_name;
  same_list = λ v. ap (join k (turns v k (name t) (list v t))) (r.same_list v);
  still_fits = λ v b h. let (x, y) = both _ _ h in join-and _ _ x (r.still_fits v (le_trans (join-right k _ _) b) y);
  still_listed = λ b h l. let (p, q) = both _ _ l in join-and _ _ p (r.still_listed (λ x. le_trans (join-right k _ _) (b x)) (λ x. (both _ _ (h x)).1) q);
  deep = omega (arith, r.deep);
  nested = λ d. omega (arith, r.nested d);
  still_named = λ d h. let (x, y) = both _ _ h in join-and _ _ x (r.still_named d y);
  weighed = λ d. omega (arith, r.weighed d);
  limits = λ p h. let (x, y) = both _ _ h in join-and _ _ x (r.limits p y);
}

-- ---- the whole table

-- what a change keeps of a table: the same figure at all values, what the questions ask, and whatever holds of every limit
pub record Kept (asked : Bool) (u t : Tree) : Type 0 where
  pub same_figure : (v : Values) → figure v u ≡ figure v t
  pub still_fits : (v : Values) → T (fits v t) → T (fits v u)
  pub still_accepted : (T asked → T (fits zeros t)) → Accepted t → Accepted u
  pub no_more : (T asked → T (fits zeros t)) → Accepted t → records u ≤ records t
  pub limits : (p : ℕ → Most → Bool) → T (every_limit p t) → T (every_limit p u)

-- no more records is all that it takes besides
pub keeps-kept : {asked : Bool} (u t : Tree) → Keeps asked u t → (T (listed t) → records u ≤ records t) → Kept asked u t
unfolding figure
keeps-kept u t r n = record {
  same_figure = λ v. ap (λ s. s 0) (r.same_list v);
  still_fits = r.still_fits;
  still_accepted = λ h a. record {
    short = le_trans (n a.listed) a.short;
    listed = r.still_listed h a.listed;
    deep = le_trans r.deep a.deep;
    nested = le_trans (r.nested 0) a.nested;
    named = r.still_named 0 a.named;
    weighed = le_trans (r.weighed 0) a.weighed;
  };
  no_more = λ h a. n a.listed;
  limits = r.limits;
}

pub kept_refl : {asked : Bool} (t : Tree) → Kept asked t t
kept_refl t = keeps-kept t t (keeps-refl t) (λ l. omega arith)

pub kept_trans : {asked : Bool} (t u w : Tree) → Kept asked w u → Kept asked u t → Kept asked w t
kept_trans t u w p q = record {
  same_figure = λ v. p.same_figure v ∙ q.same_figure v;
  still_fits = λ v h. p.still_fits v (q.still_fits v h);
  still_accepted = λ h a. p.still_accepted (λ x. q.still_fits zeros (h x)) (q.still_accepted h a);
  no_more = λ h a. le_trans (p.no_more (λ x. q.still_fits zeros (h x)) (q.still_accepted h a)) (q.no_more h a);
  limits = λ r h. p.limits r (q.limits r h);
}
