-- Keeps and Refines pass through a context: a tree with a hole, where one subtree is replaced.
use Rattle.std.specs.Prelude.{◌≡◌, refl, Bool, suc}
use Rattle.std.proofs.Common.{ap, sym}
use Rattle.std.proofs.Math.Path.{subst}
use Rattle.std.proofs.Math.Dec.{T}
use Rattle.simplify.specs.Nodes.{Node, Kind}
use Rattle.table.specs.Trees.{Forest, Tree, node, ◌▸◌, ◌⧺◌, nil, rest, size}
use Rattle.table.specs.Questions.{arity, listed_in}
use Rattle.simplify.proofs.Laws.Keeps.{Keeps, KeepsIn, head-keeps, tail-keeps, node-keeps}
use Rattle.simplify.proofs.Laws.Refines.{Refines, RefinesIn, head-refines, tail-refines, node-refines}

pub data Context : Type 0 where
  hole : Context
  within : Node → (left : Forest) → Context → (right : Forest) → Context

unfoldable pub plug : Context → Tree → Tree
plug hole t = t
plug (within n l c r) t = node n (l ⧺ (plug c t ▸ r))

among-size : (l : Forest) (u t : Tree) (r : Forest) → size (l ⧺ (u ▸ r)) ≡ size (l ⧺ (t ▸ r))
unfolding ◌⧺◌ size
among-size nil u t r = refl
among-size (s ▸ l) u t r = ap suc (among-size l u t r)

-- what passes to a node from its children, and to children from the first or from the rest, passes through a context
module _ (R : Tree → Tree → Type 0) (RIn : Kind → Forest → Forest → Type 0)
    (on-node : (n : Node) (g f : Forest) → RIn n.kind g f → (T (listed_in f) → T (arity n.kind (size f)) → T (arity n.kind (size g))) → R (node n g) (node n f))
    (on-head : (k : Kind) (u t : Tree) (f : Forest) → R u t → RIn k (u ▸ f) (t ▸ f))
    (on-tail : (k : Kind) (t : Tree) (g f : Forest) → RIn (rest k) g f → RIn k (t ▸ g) (t ▸ f)) where
  among : (k : Kind) (l : Forest) (u t : Tree) (r : Forest) → R u t → RIn k (l ⧺ (u ▸ r)) (l ⧺ (t ▸ r))
  unfolding ◌⧺◌
  among k nil u t r h = on-head k u t r h
  among k (s ▸ l) u t r h = on-tail k s _ _ (among (rest k) l u t r h)

  plugged : (c : Context) (u t : Tree) → R u t → R (plug c u) (plug c t)
  unfolding plug
  plugged hole u t h = h
  plugged (within n l c r) u t h =
      on-node n _ _ (among n.kind l _ _ r (plugged c u t h))
      (λ q a. subst (λ x. T (arity n.kind x)) (sym (among-size l (plug c u) (plug c t) r)) a)

pub plug-keeps : {asked : Bool} (c : Context) (u t : Tree) → Keeps asked u t → Keeps asked (plug c u) (plug c t)
plug-keeps {asked} = plugged (Keeps asked) (KeepsIn asked) node-keeps head-keeps tail-keeps

pub plug-refines : (c : Context) (u t : Tree) → Refines u t → Refines (plug c u) (plug c t)
plug-refines = plugged Refines RefinesIn node-refines head-refines tail-refines
