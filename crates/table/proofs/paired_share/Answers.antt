use mathlib.Core.Path.{sym}
use borrow.Author.Rules.{rules}
use Rattle.table.specs.Questions.{paired_share}
use Rattle.table.proofs.paired_share.Goals as goal

pub returns-then-is_paired_block : goal.returns-then-is_paired_block
unfolding paired_share
returns-then-is_paired_block c = rw (sym c.is_paired_block.ensures, c.if-is_paired_block.true) c.power_of_two.ensures

pub returns-else-is_paired_block : goal.returns-else-is_paired_block
unfolding paired_share
returns-else-is_paired_block c = rw (sym c.is_paired_block.ensures, c.if-is_paired_block.false) (search rules)
