-- A choice is told its constructor; the others are among those left.
use Rattle.lists.specs.Reading.{pairs_of}
use Rattle.evaluate.specs.Evaluator.{join_pairs}
use Rattle.evaluate.proofs.Others.{join-other}
use Rattle.evaluate.proofs.join_lists.Goals as goal

pub returns-in-Choice : goal.returns-in-Choice
unfolding join_pairs
returns-in-Choice c = rw c.in-Choice.is c.merge_in.ensures

pub returns-in_default : goal.returns-in_default
returns-in_default c =
    let a = c.args in
    rw (← join-other a.kind (pairs_of a.list.now) (pairs_of a.other.now) c.in_default.not-Choice) c.add_in.ensures
