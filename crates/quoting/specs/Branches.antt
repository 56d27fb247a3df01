-- Document 02, CR 5: what the branch of a quote promises of the root's children.
use Rattle.std.specs.Prelude.{◌≡◌, List, [], ◌∷◌, ℕ, ◌<◌, ◌≤◌, get_or, length}
use Rattle.refusals.specs.Refusals.{Answer, refused}
use Rattle.table.specs.declared.Kind.{Kind}
use Rattle.table.specs.declared.Kind.TheVariants.{Block, Sequence, Choice, Loop}
use Rattle.table.specs.declared.Limit.{Limit}
use Rattle.table.specs.declared.Limit.TheVariants.{Unlimited}
use Rattle.table.specs.Table.{decode}
use Rattle.table.specs.Trees.{Forest, Tree, nil, node, ◌▸◌}
use Rattle.evaluate.specs.Evaluate.{Values, list, no_branch, values_of}
use Rattle.quoting.specs.declared.Quote.{Quote}
use Rattle.quoting.specs.Answers.{quoted_branch, quoted_figure}

-- of each child's list the first member, after the child's own limit
unfoldable pub first_members : Values → Forest → List ℕ
first_members v nil = []
first_members v (t ▸ f) = list v t 0 ∷ first_members v f

-- number c, counted from 0, is the first of the largest: none before it is as large, and none after it is larger
pub record FirstLargest (xs : List ℕ) (c : ℕ) : Type 0 where
  pub child : c < length xs
  pub before : (i : ℕ) → i < c → get_or xs i 0 < get_or xs c 0
  pub after : (i : ℕ) → c < i → get_or xs i 0 ≤ get_or xs c 0

-- Of a root of this kind and limit with the children f, quoted x with branch c: in a choice child c has the largest first member, and that is the figure where
-- the root has no limit; the other kinds have no branch.
unfoldable pub Branched : Values → Kind → Limit → Forest → (x c : ℕ) → Type 0
Branched v (Block t) l f x c = c ≡ no_branch
Branched v Sequence l f x c = c ≡ no_branch
Branched v Choice l f x c = FirstLargest (first_members v f) c × (l ≡ Unlimited → get_or (first_members v f) c 0 ≡ x)
Branched v (Loop n) l f x c = c ≡ no_branch

unfoldable pub BranchOf : Values → Tree → (x c : ℕ) → Type 0
BranchOf v (node n f) x c = Branched v n.kind n.limit f x c

-- an answer that is no refusal promises this of its branch
unfoldable pub BranchPromises : (table values : List ℕ) → Answer Quote → Type 0
BranchPromises b vs q = refused q ≡ 0 → BranchOf (values_of vs) (decode b) (quoted_figure q) (quoted_branch q)
