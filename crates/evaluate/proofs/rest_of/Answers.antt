-- A choice is told its constructor; the others are among those left.
use borrow.Author.Rules.{rules}
use Rattle.table.specs.Trees.{rest}
use Rattle.evaluate.proofs.Others.{rest-other}
use Rattle.evaluate.proofs.rest_of.Goals as goal

pub returns-in-Choice : goal.returns-in-Choice
unfolding rest
returns-in-Choice c = search rules

pub returns-in_default : goal.returns-in_default
returns-in_default c = rest-other _ c.in_default.not-Choice
