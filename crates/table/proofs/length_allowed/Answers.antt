-- The code's tests, joined by `&`, are question 1's.
use Rattle.table.specs.Checking.{question1}
use Rattle.booleans.specs.Laws.{and_is}
use Rattle.table.proofs.length_allowed.Goals as goal

pub returns : goal.returns
unfolding question1
returns c = simp and_is
