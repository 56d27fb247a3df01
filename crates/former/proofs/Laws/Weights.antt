-- Question 7's sum, and what it was before a block of a paired symbol weighed.
use Rattle.std.specs.Prelude.{◌≡◌, refl, Bool, cond, not, true, false, ℕ, ◌^◌, ◌≤◌, T}
use Rattle.std.proofs.Common.{arith}
use Rattle.booleans.specs.Laws.{both}
use Rattle.table.specs.Questions.{paired_block, paired_share, single, unpaired, weight, weight_in}
use Rattle.table.specs.Trees.{Forest, Tree, around, every_node, every_node_in, nil, node, rest, ◌▸◌}
use Rattle.table.specs.declared.Kind.{Kind}
use Rattle.former.specs.Former.{former_weight, former_weight_in}

-- it was no larger
mutual
  unfolding weight former_weight

  pub former-lighter : (t : Tree) (d : ℕ) → former_weight t d ≤ weight t d
  former-lighter (node n f) d = omega (arith, former-lighter_in n.kind f d)

  former-lighter_in : (k : Kind) (f : Forest) (d : ℕ) → former_weight_in k f d ≤ weight_in k f d
  former-lighter_in k nil d = omega arith
  former-lighter_in k (t ▸ f) d = omega (arith, former-lighter t (around k d), former-lighter_in (rest k) f d)

-- and the same without such a block
no-share : (k : Kind) (d : ℕ) → T (not (paired_block k)) → paired_share k d ≡ 0
unfolding paired_share
no-share k d h = go (paired_block k) h
  where
    go : (b : Bool) → T (not b) → cond b (2 ^ d) 0 ≡ 0
    go true i = absurd i
    go false i = refl

mutual
  unfolding weight former_weight every_node

  pub same-weight : (t : Tree) (d : ℕ) → T (unpaired t) → weight t d ≡ former_weight t d
  same-weight (node n f) d h = let (a, b) = both _ _ h in omega (arith, no-share n.kind d a, same-weight_in n.kind f d b)

  same-weight_in : (k : Kind) (f : Forest) (d : ℕ) → T (every_node_in single f) → weight_in k f d ≡ former_weight_in k f d
  same-weight_in k nil d h = refl
  same-weight_in k (t ▸ f) d h = let (a, b) = both _ _ h in omega (arith, same-weight t (around k d) a, same-weight_in (rest k) f d b)
