-- The code's tests, joined by `&`, are question 1's.
use Rattle.booleans.specs.Laws.{and_is}
use Rattle.former.specs.Former.{former_question1}
use Rattle.former.proofs.length_allowed.Goals as goal

pub returns : goal.returns
unfolding former_question1
returns c = simp and_is
