-- Every tree has a record, a depth, and a loop count no smaller than what is around it.
use Rattle.std.specs.Prelude.{◌≤◌, ℕ}
use Rattle.std.proofs.Common.{arith}
use Rattle.table.specs.Trees.{Tree, node, records}
use Rattle.table.specs.Questions.{depth, loops}

pub some-records : (t : Tree) → 1 ≤ records t
unfolding records
some-records (node n f) = omega arith

pub some-depth : (t : Tree) → 1 ≤ depth t
unfolding depth
some-depth (node n f) = omega arith

pub some-loops : (t : Tree) (d : ℕ) → d ≤ loops t d
unfolding loops
some-loops (node n f) d = omega arith
