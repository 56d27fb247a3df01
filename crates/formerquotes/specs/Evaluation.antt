-- Evaluation as it was before paired symbols (document 02, CR 7): a symbol stands for one value, and a block's list is its time for ever.
use Rattle.std.specs.Prelude.{Bool, true, ℕ, leb}
use Rattle.booleans.specs.Tests.{◌and◌}
use Rattle.table.specs.Numbers.{most_time}
use Rattle.table.specs.Trees.{Forest, Tree, nil, node, rest, ◌▸◌}
use Rattle.table.specs.declared.Kind.{Kind}
use Rattle.table.specs.declared.Kind.TheVariants.{Block, Choice, Loop, Sequence}
use Rattle.lists.specs.Pairs.{Pairs, pairs}
use Rattle.lists.specs.Streams.{Stream, const, holder}
use Rattle.evaluate.specs.Evaluate.{Values, amount, join, limit, name, no_branch, turns}
use Rattle.evaluate.specs.ListPairs.{place}

unfoldable pub former_start : Values → Kind → Stream
former_start v (Block t) = const (amount v t)
former_start v Sequence = const 0
former_start v Choice = const 0
former_start v (Loop n) = const 0

unfoldable mutual
  pub former_list : Values → Tree → Stream
  former_list v (node n f) = limit v n.limit (former_before v n.kind f)

  pub former_before : Values → Kind → Forest → Stream
  former_before v k nil = former_start v k
  former_before v k (t ▸ f) = join k (turns v k (name t) (former_list v t)) (former_before v (rest k) f)

unfoldable pub former_figure : Values → Tree → ℕ
former_figure v t = former_list v t 0

-- the pairs of a list do not depend on the place from which it is known to be constant
unfoldable pub former_pairs : Values → Tree → Pairs
former_pairs v t = pairs (former_list v t) (place v t)

-- ---- the branch

unfoldable pub former_holder_in : Values → Forest → ℕ
former_holder_in v nil = 0
former_holder_in v (t ▸ f) = holder (former_list v t) (former_before v Choice f) (former_holder_in v f)

unfoldable pub former_branch_in : Values → Kind → Forest → ℕ
former_branch_in v (Block t) f = no_branch
former_branch_in v Sequence f = no_branch
former_branch_in v Choice f = former_holder_in v f
former_branch_in v (Loop n) f = no_branch

unfoldable pub former_branch : Values → Tree → ℕ
former_branch v (node n f) = former_branch_in v n.kind f

-- ---- question 10

unfoldable mutual
  pub former_fits : Values → Tree → Bool
  former_fits v (node n f) = leb (former_before v n.kind f 0) most_time and former_fits_in v f

  pub former_fits_in : Values → Forest → Bool
  former_fits_in v nil = true
  former_fits_in v (t ▸ f) = former_fits v t and former_fits_in v f
