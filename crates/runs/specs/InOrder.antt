-- The cost of a run in other words than Runs has. Its passes in their order: a block's first pass in the run costs its first value, each other its later one
-- (document 02, CR 7). It is per block: two blocks with one symbol have a first pass each. proofs/Laws/InOrder shows that it is the same.
use Rattle.std.specs.Prelude.{List, [], ◌∷◌, ℕ, zero, suc, ◌+◌}
use Rattle.std.proofs.Common.{inl, inr}
use Rattle.table.specs.Trees.{Tree, node, Forest, nil, ◌▸◌}
use Rattle.runs.specs.Nodes.{Kind, Block, Sequence, Choice, Loop}
use Rattle.evaluate.specs.Evaluate.{Values, amount, later}
use Rattle.runs.specs.Runs.{Pass, PassIn, Spot, SpotIn, count, total}

-- passes one after the other: g is what a pass costs where each node was passed so often before, h how often it passes each
unfoldable pub one_by_one : {A X : Type 0} → ((X → ℕ) → A → ℕ) → (A → X → ℕ) → (X → ℕ) → List A → ℕ
one_by_one g h c [] = 0
one_by_one g h c (p ∷ ps) = g c p + one_by_one g h (λ x. c x + h p x) ps

module _ (v : Values) where
  -- what a pass of a node costs by itself, where it was passed z times before
  unfoldable pub due : Kind → ℕ → ℕ
  due (Block x) zero = amount v x
  due (Block x) (suc z) = later v x
  due Sequence z = 0
  due Choice z = 0
  due (Loop n) z = 0

  -- what a pass of a tree costs, where node x was passed c x times before
  unfoldable mutual
    pub cost_after : (t : Tree) → (Spot t → ℕ) → Pass t → ℕ
    cost_after (node n f) c r = due n.kind (c (inl tt)) + cost_after_in f n.kind (λ x. c (inr x)) r

    pub cost_after_in : (f : Forest) (k : Kind) → (SpotIn f → ℕ) → PassIn f k → ℕ
    cost_after_in nil k c r = 0
    cost_after_in (t ▸ f) (Block y) c r = absurd r
    cost_after_in (t ▸ f) Sequence c r = cost_after t (λ x. c (inl x)) r.0 + cost_after_in f Sequence (λ x. c (inr x)) r.1
    cost_after_in (t ▸ f) Choice c (inl r) = cost_after t (λ x. c (inl x)) r
    cost_after_in (t ▸ f) Choice c (inr r) = cost_after_in f Choice (λ x. c (inr x)) r
    cost_after_in (t ▸ f) (Loop n) c r =
        one_by_one (λ d p. cost_after t d p) (λ p x. count t p x) (λ x. c (inl x)) r.0 + cost_after_in f Sequence (λ x. c (inr x)) r.1

  -- of a run, with nothing passed before
  abbrev pub cost_in_order : (t : Tree) → Pass t → ℕ
  cost_in_order t r = cost_after t (λ x. 0) r

  -- Document 01's own words, for a tree without paired symbols: a pass of a block costs its time, and costs add. proofs/Laws/Unpaired shows that it is the same there.
  unfoldable mutual
    pub pass_cost : (t : Tree) → Pass t → ℕ
    pass_cost (node n f) r = pass_cost_in f n.kind r

    pub pass_cost_in : (f : Forest) (k : Kind) → PassIn f k → ℕ
    pass_cost_in nil (Block x) r = amount v x
    pass_cost_in nil Sequence r = 0
    pass_cost_in nil Choice r = absurd r
    pass_cost_in nil (Loop n) r = 0
    pass_cost_in (t ▸ f) (Block x) r = absurd r
    pass_cost_in (t ▸ f) Sequence r = pass_cost t r.0 + pass_cost_in f Sequence r.1
    pass_cost_in (t ▸ f) Choice (inl r) = pass_cost t r
    pass_cost_in (t ▸ f) Choice (inr r) = pass_cost_in f Choice r
    pass_cost_in (t ▸ f) (Loop n) r = total (λ p. pass_cost t p) r.0 + pass_cost_in f Sequence r.1
