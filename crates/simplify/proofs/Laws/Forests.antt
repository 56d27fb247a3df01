-- Children put together: what is asked of them, and of each part.
use Rattle.std.specs.Prelude.{◌≡◌, Bool, ℕ, ◌+◌, max, T}
use Rattle.std.proofs.Common.{subst, sym, arith}
use Rattle.booleans.specs.Laws.{both, join-and}
use Rattle.table.specs.Questions.{depth, depth_in, listed, listed_in, named, named_in}
use Rattle.table.specs.Limits.{every_limit, every_limit_in}
use Rattle.table.specs.Trees.{Tree, Forest, nil, ◌▸◌, ◌⧺◌, size, records, records_in, every_node}
use Rattle.evaluate.specs.Evaluate.{Values, fits, fits_in}
use Rattle.simplify.specs.Nodes.{Kind, Most}
use Rattle.simplify.proofs.Laws.Refines.{SumKind}

-- ---- children put together

pub size-⧺ : (g f : Forest) → size (g ⧺ f) ≡ size g + size f
unfolding ◌⧺◌ size
size-⧺ nil f = omega arith
size-⧺ (t ▸ g) f = omega (arith, size-⧺ g f)

pub records-⧺ : (g f : Forest) → records_in (g ⧺ f) ≡ records_in g + records_in f
unfolding ◌⧺◌ records
records-⧺ nil f = omega arith
records-⧺ (t ▸ g) f = omega (arith, records-⧺ g f)

pub depth-⧺ : (g f : Forest) → depth_in (g ⧺ f) ≡ max (depth_in g) (depth_in f)
unfolding ◌⧺◌ depth
depth-⧺ nil f = omega arith
depth-⧺ (t ▸ g) f = omega (arith, depth-⧺ g f)

-- ---- a test of children that is a test of each

pub record Each (q : Tree → Bool) (qs : Forest → Bool) : Type 0 where
  pub none : T (qs nil)
  pub apart : (t : Tree) (f : Forest) → T (qs (t ▸ f)) → T (q t) × T (qs f)
  pub more : (t : Tree) (f : Forest) → T (q t) → T (qs f) → T (qs (t ▸ f))

pub fits_each : (v : Values) → Each (fits v) (fits_in v)
unfolding fits
fits_each v = record { none = tt; apart = λ t f h. both _ _ h; more = λ t f h i. join-and _ _ h i }

pub listed-each : Each listed listed_in
unfolding listed
listed-each = record { none = tt; apart = λ t f h. both _ _ h; more = λ t f h i. join-and _ _ h i }

pub limits-each : (p : ℕ → Most → Bool) → Each (every_limit p) (every_limit_in p)
unfolding every_node
limits-each p = record { none = tt; apart = λ t f h. both _ _ h; more = λ t f h i. join-and _ _ h i }

pub named-each : (k : Kind) → SumKind k → (d : ℕ) → Each (λ t. named t d) (λ f. named_in k f d)
unfolding named
named-each k s d = record {
  none = tt;
  apart = λ t f h. both _ _ (subst T (s.nameds t f d) h);
  more = λ t f h i. subst T (sym (s.nameds t f d)) (join-and _ _ h i);
}

pub each-⧺ : {q : Tree → Bool} {qs : Forest → Bool} → Each q qs → (g f : Forest) → T (qs g) → T (qs f) → T (qs (g ⧺ f))
unfolding ◌⧺◌
each-⧺ e nil f h i = i
each-⧺ e (t ▸ g) f h i = let (a, b) = e.apart t g h in e.more t (g ⧺ f) a (each-⧺ e g f b i)
