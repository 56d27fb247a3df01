-- Case I of document 01: its figure is 66, and no admitted run costs more than 46. The limited 0 makes the inner loop forget the limit on the outer one,
-- so the figure has the 10 three times; but a run passes it once, and without it each of at most nine passes of the inner body costs at most 4.
use Rattle.std.specs.Prelude.{List, [], ◌∷◌, ℕ, ◌+◌, ◌*◌, ◌≤◌, length}
use Rattle.std.proofs.Common.{inl, inr}
use native.Mathlib.Omega.{arith}
use Rattle.table.specs.Notation.{◌/◌at◌, block, both, either, loop}
use Rattle.table.specs.Questions.{paired_block}
use Rattle.table.specs.Trees.{Tree, every_node}
use Rattle.evaluate.specs.Evaluate.{Values}
use Rattle.runs.specs.Runs.{Admitted, All, Pass, Run, Spot, cost, count, here, total}
use Rattle.runs.specs.InOrder.{pass_cost}
use Rattle.runs.proofs.Cases.{case_i, computed, limited_zero}
use Rattle.runs.proofs.Laws.PassLists.{all-impl}
use Rattle.runs.proofs.Laws.Unpaired.{unpaired-cost}

total-under : {A : Type 0} (f g : A → ℕ) (c k : ℕ) (xs : List A) → All (λ x. f x ≤ c + k * g x) xs → total f xs ≤ length xs * c + k * total g xs
unfolding total
total-under f g c k [] h = omega arith
total-under f g c k (x ∷ xs) h = omega (arith, h.0, total-under f g c k xs h.1)

all_of : {A : Type 0} (P : A → Type 0) → ((x : A) → P x) → (xs : List A) → All P xs
all_of P f [] = tt
all_of P f (x ∷ xs) = (f x, all_of P f xs)

-- the inner loop's body and the inner loop
abbrev inner_body : Tree
inner_body = both limited_zero (either (block 10 / 1 at 2) (block 0))

abbrev inner_loop : Tree
inner_loop = loop 3 inner_body (block 0)

-- a choice's limited block, and the 10 in each of the two
unfoldable limited_of : (x y k : ℕ) → Spot (either (block x / 1 at k) (block y))
unfolding computed
limited_of x y k = inr (inl (inl tt))

unfoldable ten_of_body : Spot inner_body
unfolding computed
ten_of_body = inr (inr (inl (limited_of 10 0 2)))

unfoldable ten_of_loop : Spot inner_loop
unfolding computed
ten_of_loop = inr (inl ten_of_body)

module _ (v : Values) where
  -- what a pass costs at most, by how often it passes the limited block
  choice-costs : (x y k : ℕ) (r : Pass (either (block x / 1 at k) (block y)))
      → pass_cost v (either (block x / 1 at k) (block y)) r ≤ y + x * count (either (block x / 1 at k) (block y)) r (limited_of x y k)
  unfolding computed pass_cost limited_of
  choice-costs x y k (inl r) = omega arith
  choice-costs x y k (inr (inl r)) = omega arith
  choice-costs x y k (inr (inr r)) = absurd r

  body-costs : (r : Pass inner_body) → pass_cost v inner_body r ≤ 4 + 10 * count inner_body r ten_of_body
  unfolding computed pass_cost limited_of ten_of_body
  body-costs r = omega (arith, choice-costs 0 4 1 r.0, choice-costs 10 0 2 r.1.0)

  loop-costs : (r : Pass inner_loop) → Admitted v inner_loop r → pass_cost v inner_loop r ≤ 12 + 10 * count inner_loop r ten_of_loop
  unfolding computed pass_cost ten_of_loop
  loop-costs r h = omega (arith, h.0, total-under (λ p. pass_cost v inner_body p) (λ p. count inner_body p ten_of_body) 4 10 r.0 (all_of _ body-costs r.0))

  pub most-I : (r : Pass (case_i limited_zero)) → Run v (case_i limited_zero) r → cost v (case_i limited_zero) r ≤ 46
  unfolding computed here limited_of ten_of_body ten_of_loop pass_cost every_node paired_block
  most-I r h =
      omega
      (arith, unpaired-cost v (case_i limited_zero) r tt, h.inside.0, h.inside.1 ten_of_loop (omega arith), total-under (λ p. pass_cost v inner_loop p) (λ p. count inner_loop p ten_of_loop) 12 10 r.0 (all-impl _ _ loop-costs r.0 h.inside.2))
