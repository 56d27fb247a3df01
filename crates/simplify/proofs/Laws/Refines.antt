-- What a rule does to a tree: `Refines u t`, u keeps what t has, and has fewer records.
use Rattle.std.specs.Prelude.{◌≡◌, refl, true, ℕ, ◌≤◌, ◌<◌, min, ◌+◌, max, T, leb}
use Rattle.std.proofs.Common.{sym, subst, arith, leb→le, le→leb}
use Rattle.booleans.specs.Laws.{both, join-and}
use Rattle.booleans.specs.Tests.{◌and◌}
use Rattle.table.specs.Numbers.{most_children}
use Rattle.table.specs.Questions.{listed, loops, named, weight, listed_in, loops_in, named_in, weight_in, arity}
use Rattle.table.specs.Trees.{Tree, records, Forest, records_in, node, size, ◌▸◌, rest, around, nil}
use Rattle.lists.specs.Streams.{const}
use Rattle.evaluate.specs.Evaluate.{Values, name, list, name_in, before, seen, turns, join, start}
use Rattle.simplify.specs.Nodes.{Kind, Node, Sequence, Choice, Block, Loop}
use Rattle.simplify.specs.Rules.{is_sum}
use Rattle.simplify.proofs.Laws.Keeps.{Keeps, KeepsIn, node-keeps, head-keeps, tail-keeps}

pub record Refines (u t : Tree) : Type 0 where
  pub keeps : Keeps true u t
  pub fewer : T (listed t) → records u < records t

-- the same of the children of a node of kind k
pub record RefinesIn (k : Kind) (g f : Forest) : Type 0 where
  pub keeps : KeepsIn true k g f
  pub fewer : T (listed_in f) → records_in g < records_in f

-- ---- it passes through a context

pub node-refines : (n : Node) (g f : Forest) → RefinesIn n.kind g f → (T (listed_in f) → T (arity n.kind (size f)) → T (arity n.kind (size g))) → Refines (node n g) (node n f)
unfolding listed records
node-refines n g f r s = record { keeps = node-keeps n g f r.keeps s; fewer = λ l. omega (arith, r.fewer (both _ _ l).1) }

pub head-refines : (k : Kind) (u t : Tree) (f : Forest) → Refines u t → RefinesIn k (u ▸ f) (t ▸ f)
unfolding listed records
head-refines k u t f r = record { keeps = head-keeps k u t f r.keeps; fewer = λ l. omega (arith, r.fewer (both _ _ l).0) }

pub tail-refines : (k : Kind) (t : Tree) (g f : Forest) → RefinesIn (rest k) g f → RefinesIn k (t ▸ g) (t ▸ f)
unfolding listed records
tail-refines k t g f r = record { keeps = tail-keeps k t g f r.keeps; fewer = λ l. omega (arith, r.fewer (both _ _ l).1) }

-- ---- a sequence or a choice, where the first child is as the others

pub record SumKind (k : Kind) : Type 0 where
  pub rests : rest k ≡ k
  pub names : (t : Tree) (f : Forest) → name_in k (t ▸ f) ≡ min (name t) (name_in k f)
  pub lists : (v : Values) (t : Tree) (f : Forest) → before v k (t ▸ f) ≡ join k (list v t) (before v k f)
  pub empty : (v : Values) → before v k nil ≡ const 0
  pub loopses : (t : Tree) (f : Forest) (d : ℕ) → loops_in k (t ▸ f) d ≡ max (loops t d) (loops_in k f d)
  pub nameds : (t : Tree) (f : Forest) (d : ℕ) → named_in k (t ▸ f) d ≡ (named t d and named_in k f d)
  pub weights : (t : Tree) (f : Forest) (d : ℕ) → weight_in k (t ▸ f) d ≡ weight t d + weight_in k f d
  pub arities : (c : ℕ) → arity k c ≡ (leb 1 c and leb c most_children)

pub sequence-sum : SumKind Sequence
unfolding rest name seen list start turns loops around named weight arity
sequence-sum = record { rests = refl; names = λ t f. refl; lists = λ v t f. refl; empty = λ v. refl; loopses = λ t f d. refl; nameds = λ t f d. refl; weights = λ t f d. refl; arities = λ c. refl }

pub choice-sum : SumKind Choice
unfolding rest name seen list start turns loops around named weight arity
choice-sum = record { rests = refl; names = λ t f. refl; lists = λ v t f. refl; empty = λ v. refl; loopses = λ t f d. refl; nameds = λ t f d. refl; weights = λ t f d. refl; arities = λ c. refl }

pub tail-sum : (k : Kind) → SumKind k → (t : Tree) (g f : Forest) → RefinesIn k g f → RefinesIn k (t ▸ g) (t ▸ f)
tail-sum k s t g f r = tail-refines k t g f (subst (λ j. RefinesIn j g f) (sym s.rests) r)

pub sum_is : (k : Kind) → T (is_sum k) → SumKind k
unfolding is_sum
sum_is (Block t) h = absurd h
sum_is Sequence h = sequence-sum
sum_is Choice h = choice-sum
sum_is (Loop n) h = absurd h

pub arity-of : (k : Kind) → SumKind k → (c : ℕ) → 1 ≤ c → c ≤ most_children → T (arity k c)
arity-of k s c a b = subst T (sym (s.arities c)) (join-and _ _ (le→leb 1 c a) (le→leb c most_children b))

pub of-arity : (k : Kind) → SumKind k → (c : ℕ) → T (arity k c) → (1 ≤ c) × (c ≤ most_children)
of-arity k s c a = let (x, y) = both _ _ (subst T (s.arities c) a) in (leb→le 1 c x, leb→le c most_children y)
