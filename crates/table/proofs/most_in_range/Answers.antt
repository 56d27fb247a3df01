-- Each arm is told which constructor the number is, and `most_in_range` computes there.
use Rattle.table.specs.Questions.{most_in_range}
use Rattle.table.proofs.most_in_range.Goals as goal

pub returns-in-Plain : goal.returns-in-Plain
unfolding most_in_range
returns-in-Plain c = rw c.in-Plain.is

pub returns-in-Symbol : goal.returns-in-Symbol
unfolding most_in_range
returns-in-Symbol c = rw c.in-Symbol.is

pub returns-in-Triangular : goal.returns-in-Triangular
unfolding most_in_range
returns-in-Triangular c = rw c.in-Triangular.is
