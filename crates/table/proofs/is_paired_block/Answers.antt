use Rattle.std.proofs.Common.{rules}
use Rattle.table.specs.Questions.{paired_block}
use Rattle.table.proofs.is_paired_block.Goals as goal

pub returns-in-Block : goal.returns-in-Block
unfolding paired_block
returns-in-Block c = rw c.in-Block.is (search rules)

pub returns-in_default : goal.returns-in_default
unfolding paired_block
returns-in_default c = rw c.in-Block.is (search rules)

pub returns-in_default-2 : goal.returns-in_default-2
unfolding paired_block
returns-in_default-2 c = search rules
