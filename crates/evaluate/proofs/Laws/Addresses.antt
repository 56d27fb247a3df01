-- Nothing that evaluation says of a tree depends on its addresses.
use Rattle.std.specs.Prelude.{◌≡◌, leb, min}
use Rattle.std.proofs.Math.Path.{refl, ap}
use Rattle.std.proofs.Common.{ap₂}
use Rattle.booleans.specs.Tests.{◌and◌}
use Rattle.table.specs.Numbers.{most_time}
use Rattle.table.specs.Trees.{Tree, node, Forest, nil, ◌▸◌, rest, unaddressed, unaddressed_in}
use Rattle.evaluate.specs.Nodes.{Kind, Block, Sequence, Choice, Loop}
use Rattle.evaluate.specs.Evaluate.{Values, before, branch, branch_in, figure, fits, fits_in, holder_in, inner, limit, list, name, name_in, seen}

mutual
  unfolding unaddressed name

  pub name-unaddressed : (t : Tree) → name (unaddressed t) ≡ name t
  name-unaddressed (node n f) = ap (inner n.limit) (names-unaddressed n.kind f)

  pub names-unaddressed : (k : Kind) (f : Forest) → name_in k (unaddressed_in f) ≡ name_in k f
  names-unaddressed k nil = refl
  names-unaddressed k (t ▸ f) = ap₂ (λ x y. min (seen k x) y) (name-unaddressed t) (names-unaddressed (rest k) f)

module _ (v : Values) where
  mutual
    unfolding unaddressed list

    pub list-unaddressed : (t : Tree) → list v (unaddressed t) ≡ list v t
    list-unaddressed (node n f) = ap (limit v n.limit) (lists-unaddressed n.kind f)

    pub lists-unaddressed : (k : Kind) (f : Forest) → before v k (unaddressed_in f) ≡ before v k f
    lists-unaddressed k nil = refl
    lists-unaddressed k (t ▸ f) = rw (name-unaddressed t, list-unaddressed t, lists-unaddressed (rest k) f) refl

  pub figure-unaddressed : (t : Tree) → figure v (unaddressed t) ≡ figure v t
  unfolding figure
  figure-unaddressed t = ap (λ s. s 0) (list-unaddressed t)

  holder-unaddressed : (f : Forest) → holder_in v (unaddressed_in f) ≡ holder_in v f
  unfolding unaddressed holder_in
  holder-unaddressed nil = refl
  holder-unaddressed (t ▸ f) = rw (list-unaddressed t, lists-unaddressed Choice f, holder-unaddressed f) refl

  branches-unaddressed : (k : Kind) (f : Forest) → branch_in v k (unaddressed_in f) ≡ branch_in v k f
  unfolding branch_in
  branches-unaddressed (Block t) f = refl
  branches-unaddressed Sequence f = refl
  branches-unaddressed Choice f = holder-unaddressed f
  branches-unaddressed (Loop n) f = refl

  pub branch-unaddressed : (t : Tree) → branch v (unaddressed t) ≡ branch v t
  unfolding unaddressed branch
  branch-unaddressed (node n f) = branches-unaddressed n.kind f

  mutual
    unfolding unaddressed fits

    pub fits-unaddressed : (t : Tree) → fits v (unaddressed t) ≡ fits v t
    fits-unaddressed (node n f) = ap₂ (λ s y. leb (s 0) most_time and y) (lists-unaddressed n.kind f) (fits_in-unaddressed f)

    fits_in-unaddressed : (f : Forest) → fits_in v (unaddressed_in f) ≡ fits_in v f
    fits_in-unaddressed nil = refl
    fits_in-unaddressed (t ▸ f) = ap₂ ◌and◌ (fits-unaddressed t) (fits_in-unaddressed f)
