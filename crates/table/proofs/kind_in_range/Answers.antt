-- Each arm is told which constructor the kind is; a block and a loop pass on what their callee ensures.
use Rattle.std.proofs.Common.{refl, inl, inr}
use Rattle.table.specs.Questions.{kind_in_range}
use Rattle.table.proofs.kind_in_range.Goals as goal

pub returns-in-Block : goal.returns-in-Block
unfolding kind_in_range
returns-in-Block c = rw c.in-Block.is c.time_in_range.ensures

pub returns-in-Sequence : goal.returns-in-Sequence
unfolding kind_in_range
returns-in-Sequence c = elim c.in-Sequence.is [ inl e ↦ rw e refl | inr e ↦ rw e refl ]

pub returns-in-Loop : goal.returns-in-Loop
unfolding kind_in_range
returns-in-Loop c = rw c.in-Loop.is c.count_in_range.ensures
