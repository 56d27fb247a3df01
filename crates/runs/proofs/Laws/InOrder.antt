-- The cost of a run is what its passes cost one after the other.
use Rattle.std.specs.Prelude.{◌≡◌}
use Rattle.std.proofs.Math.Path.{refl, fun_ext}
use Rattle.std.proofs.Common.{ap, inl, inr}
use mathlib.Core.List.{List, [], ◌∷◌}
use Prim.Native.Nat.{ℕ, zero, suc, ◌+◌}
use native.Mathlib.Omega.{arith}
use Rattle.table.specs.Trees.{Tree, node, Forest, nil, ◌▸◌}
use Rattle.runs.specs.Nodes.{Kind, Block, Sequence, Choice, Loop, Number}
use Rattle.evaluate.specs.Evaluate.{Values}
use Rattle.runs.specs.Runs.{Pass, PassIn, Spot, SpotIn, total, count, count_in, charged, own_charge, charge, charge_in, cost}
use Rattle.runs.specs.InOrder.{cost_after, cost_after_in, cost_in_order, due, one_by_one}
use Rattle.runs.proofs.Laws.Covered.{charge-none}

module _ (v : Values) where
  charged-next : (x : Number) (z : ℕ) → charged v x (z + 1) ≡ charged v x z + due v (Block x) z
  unfolding charged due
  charged-next x zero = omega arith
  charged-next x (suc z) = let e : suc z + 1 ≡ suc (suc z) = omega arith in rw e (omega arith)

  own-next : (k : Kind) (z : ℕ) → own_charge v k (z + 1) ≡ own_charge v k z + due v k z
  own-next (Block x) z = unfold own_charge in charged-next x z
  own-next Sequence z = unfold own_charge in unfold due in refl
  own-next Choice z = unfold own_charge in unfold due in refl
  own-next (Loop n) z = unfold own_charge in unfold due in refl

  same : (t : Tree) (c : Spot t → ℕ) → charge v t (λ x. c x + 0) ≡ charge v t c
  same t c = ap (charge v t) (fun_ext (λ x. omega arith))

  same_in : (f : Forest) (c : SpotIn f → ℕ) → charge_in v f (λ x. c x + 0) ≡ charge_in v f c
  same_in f c = ap (charge_in v f) (fun_ext (λ x. omega arith))

  regroup : (t : Tree) (c d e : Spot t → ℕ) → charge v t (λ x. c x + (d x + e x)) ≡ charge v t (λ x. c x + d x + e x)
  regroup t c d e = ap (charge v t) (fun_ext (λ x. omega arith))

  -- a loop's passes of its body
  each_next : (t : Tree) → ((c : Spot t → ℕ) (r : Pass t) → charge v t (λ x. c x + count t r x) ≡ charge v t c + cost_after v t c r)
      → (c : Spot t → ℕ) (ps : List (Pass t)) → charge v t (λ x. c x + total (λ p. count t p x) ps) ≡ charge v t c + one_by_one (λ d p. cost_after v t d p) (λ p x. count t p x) c ps
  unfolding one_by_one total
  each_next t h c [] = omega (arith, same t c)
  each_next t h c (p ∷ ps) =
      omega (arith, regroup t c (λ x. count t p x) (λ x. total (λ p. count t p x) ps), each_next t h (λ x. c x + count t p x) ps, h c p)

  mutual
    unfolding charge count cost_after

    in_order : (t : Tree) (c : Spot t → ℕ) (r : Pass t) → charge v t (λ x. c x + count t r x) ≡ charge v t c + cost_after v t c r
    in_order (node n f) c r = omega (arith, own-next n.kind (c (inl tt)), in-order_in f n.kind (λ x. c (inr x)) r)

    in-order_in : (f : Forest) (k : Kind) (c : SpotIn f → ℕ) (r : PassIn f k) → charge_in v f (λ x. c x + count_in f k r x) ≡ charge_in v f c + cost_after_in v f k c r
    in-order_in nil k c r = refl
    in-order_in (t ▸ f) (Block y) c r = absurd r
    in-order_in (t ▸ f) Sequence c r = omega (arith, in_order t (λ x. c (inl x)) r.0, in-order_in f Sequence (λ x. c (inr x)) r.1)
    in-order_in (t ▸ f) Choice c (inl r) = omega (arith, in_order t (λ x. c (inl x)) r, same_in f (λ x. c (inr x)))
    in-order_in (t ▸ f) Choice c (inr r) = omega (arith, same t (λ x. c (inl x)), in-order_in f Choice (λ x. c (inr x)) r)
    in-order_in (t ▸ f) (Loop n) c r = omega (arith, each_next t (λ d p. in_order t d p) (λ x. c (inl x)) r.0, in-order_in f Sequence (λ x. c (inr x)) r.1)

  alone : (t : Tree) (c : Spot t → ℕ) → charge v t (λ x. 0 + c x) ≡ charge v t c
  alone t c = ap (charge v t) (fun_ext (λ x. omega arith))

  -- so a run costs what its passes cost in their order
  pub pass-by-pass : (t : Tree) (r : Pass t) → cost v t r ≡ cost_in_order v t r
  unfolding cost
  pass-by-pass t r = omega (arith, alone t (λ x. count t r x), in_order t (λ x. 0) r, charge-none v t)
