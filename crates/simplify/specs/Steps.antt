-- Document 01, "Simplification": a step, and steps up to an allowance.
use Rattle.std.specs.Prelude.{Bool, true, false, ℕ, suc, zero}
use Rattle.std.proofs.Math.Option.{Option, some, none}
use Rattle.simplify.specs.Nodes.{Node}
use Rattle.table.specs.Trees.{Tree, Forest, node, nil, ◌▸◌}
use Rattle.simplify.specs.Rules.{rule2, rule3, rule4, rule5, rule6, rule7, rule8, rule9, rule1}

-- ---- a step: the earliest record where a rule fits, and there the lowest rule

unfoldable pub or_else {ℓ} : {A : Type ℓ} → Option A → Option A → Option A
or_else none y = y
or_else (some x) y = some x

unfoldable pub also {ℓ κ} : {A : Type ℓ} {B : Type κ} → (A → B) → Option A → Option B
also f none = none
also f (some x) = some (f x)

-- rules 2 to 9 at a node
unfoldable pub rule : Node → Forest → Option Tree
rule n f =
    or_else (rule2 n f) (or_else (rule3 n f) (or_else (rule4 n f) (or_else (rule5 n f)
    (or_else (rule6 n f) (or_else (rule7 n f) (or_else (rule8 n f) (rule9 n f)))))))

unfoldable mutual
  pub inside : Tree → Option Tree
  inside (node n f) = or_else (rule n f) (also (node n) (inside_in f))

  pub inside_in : Forest → Option Forest
  inside_in nil = none
  inside_in (t ▸ f) = or_else (also (λ u. u ▸ f) (inside t)) (also (λ g. t ▸ g) (inside_in f))

unfoldable pub step : Tree → Option Tree
step t = or_else (rule1 t) (inside t)

-- ---- steps up to an allowance

pub record Made : Type 0 where
  pub tree : Tree
  pub taken : ℕ
  pub finished : Bool

unfoldable pub is_none : Option Tree → Bool
is_none none = true
is_none (some t) = false

-- after a step, where there is one, those that k makes
unfoldable pub onward : Tree → (Tree → Made) → Option Tree → Made
onward t k none = record { tree = t; taken = 0; finished = true }
onward t k (some u) = record { tree = (k u).tree; taken = suc (k u).taken; finished = (k u).finished }

unfoldable pub steps : ℕ → Tree → Made
steps zero t = record { tree = t; taken = 0; finished = is_none (step t) }
steps (suc n) t = onward t (steps n) (step t)

-- what exactly n steps make of a tree, if there are as many
unfoldable pub and_then : (Tree → Option Tree) → Option Tree → Option Tree
and_then k none = none
and_then k (some u) = k u

unfoldable pub after : ℕ → Tree → Option Tree
after zero t = some t
after (suc n) t = and_then (after n) (step t)
