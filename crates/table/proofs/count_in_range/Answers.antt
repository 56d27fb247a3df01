-- Each arm is told which constructor the number is, and `count_in_range` computes there.
use Rattle.table.specs.Questions.{count_in_range}
use Rattle.table.proofs.count_in_range.Goals as goal

pub returns-in-Plain : goal.returns-in-Plain
unfolding count_in_range
returns-in-Plain c = rw c.in-Plain.is

pub returns-in-Symbol : goal.returns-in-Symbol
unfolding count_in_range
returns-in-Symbol c = rw c.in-Symbol.is
