-- Where no symbol is paired, each pass of a block costs its time, and costs add, as document 01 has it.
use Rattle.std.specs.Prelude.{◌≡◌, not, List, [], ◌∷◌, T}
use Rattle.std.proofs.Math.Path.{refl}
use Rattle.std.proofs.Common.{ap₂, ◌∙◌, inl, inr, arith}
use Prim.Native.Nat.{ℕ, zero, suc, ◌+◌}
use Rattle.std.proofs.lemmas.Bool.{not-true}
use Rattle.booleans.specs.Laws.{T-is, both}
use Rattle.table.specs.Questions.{paired, paired_block, single, unpaired}
use Rattle.table.specs.Trees.{Tree, node, Forest, nil, ◌▸◌, every_node, every_node_in}
use Rattle.runs.specs.Nodes.{Kind, Block, Sequence, Choice, Loop, Number}
use Rattle.evaluate.specs.Evaluate.{Values, amount}
use Rattle.evaluate.proofs.Laws.Times.{later_same}
use Rattle.runs.specs.Runs.{Pass, PassIn, SpotIn, Spot, total, count, cost}
use Rattle.runs.specs.InOrder.{cost_after, cost_after_in, due, one_by_one, pass_cost, pass_cost_in}
use Rattle.runs.proofs.Laws.InOrder.{pass-by-pass}

-- passes that cost the same whatever was passed before
each-alone : {A X : Type 0} (g : (X → ℕ) → A → ℕ) (h : A → X → ℕ) (f : A → ℕ) → ((c : X → ℕ) (p : A) → g c p ≡ f p)
    → (c : X → ℕ) (ps : List A) → one_by_one g h c ps ≡ total f ps
unfolding one_by_one total
each-alone g h f e c [] = refl
each-alone g h f e c (p ∷ ps) = ap₂ ◌+◌ (e c p) (each-alone g h f e (λ x. c x + h p x) ps)

module _ (v : Values) where
  time-due : (x : Number) (z : ℕ) → T (not (paired x)) → due v (Block x) z ≡ amount v x
  unfolding due
  time-due x zero h = refl
  time-due x (suc z) h = later_same v x (not-true (paired x) (T-is (not (paired x)) h))

  mutual
    unfolding every_node paired_block due cost_after pass_cost

    after-alone : (t : Tree) (c : Spot t → ℕ) (r : Pass t) → T (unpaired t) → cost_after v t c r ≡ pass_cost v t r
    after-alone (node n f) c r h = let (a, b) = both _ _ h in after-alone_in f n.kind (c (inl tt)) (λ x. c (inr x)) r a b

    after-alone_in : (f : Forest) (k : Kind) (z : ℕ) (c : SpotIn f → ℕ) (r : PassIn f k) → T (not (paired_block k)) → T (every_node_in single f)
        → due v k z + cost_after_in v f k c r ≡ pass_cost_in v f k r
    after-alone_in nil (Block x) z c r p h = omega (arith, time-due x z p)
    after-alone_in nil Sequence z c r p h = refl
    after-alone_in nil Choice z c r p h = absurd r
    after-alone_in nil (Loop n) z c r p h = refl
    after-alone_in (t ▸ f) (Block x) z c r p h = absurd r
    after-alone_in (t ▸ f) Sequence z c r p h =
        let (a, b) = both _ _ h in
        omega (arith, after-alone t (λ x. c (inl x)) r.0 a, after-alone_in f Sequence 0 (λ x. c (inr x)) r.1 tt b)
    after-alone_in (t ▸ f) Choice z c (inl r) p h = omega (arith, after-alone t (λ x. c (inl x)) r (both _ _ h).0)
    after-alone_in (t ▸ f) Choice z c (inr r) p h = omega (arith, after-alone_in f Choice 0 (λ x. c (inr x)) r tt (both _ _ h).1)
    after-alone_in (t ▸ f) (Loop n) z c r p h =
        let (a, b) = both _ _ h in
        omega (
          arith,
          each-alone (λ d p. cost_after v t d p) (λ p x. count t p x) (pass_cost v t) (λ d p. after-alone t d p a) (λ x. c (inl x)) r.0,
          after-alone_in f Sequence 0 (λ x. c (inr x)) r.1 tt b,
        )

  pub unpaired-cost : (t : Tree) (r : Pass t) → T (unpaired t) → cost v t r ≡ pass_cost v t r
  unpaired-cost t r h = pass-by-pass v t r ∙ after-alone t (λ x. 0) r h
