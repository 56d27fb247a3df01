use mathlib.Core.Path.{sym}
use native.Mathlib.Omega.{arith}
use Rattle.subtrees.specs.Facts.{paired_reach}
use Rattle.subtrees.proofs.own_reach.Goals as goal

pub returns-then-is_paired_block : goal.returns-then-is_paired_block
unfolding paired_reach
returns-then-is_paired_block c = rw (sym c.is_paired_block.ensures, c.if-is_paired_block.true) (omega (arith, c.ranges.name))

pub returns-else-is_paired_block : goal.returns-else-is_paired_block
unfolding paired_reach
returns-else-is_paired_block c = rw (sym c.is_paired_block.ensures, c.if-is_paired_block.false) (omega arith)
