-- Each arm is told which constructor the number is, and `time_in_range` computes there.
use Rattle.table.specs.Questions.{time_in_range}
use Rattle.booleans.specs.Laws.{and_is}
use Rattle.table.proofs.time_in_range.Goals as goal

pub returns-in-Plain : goal.returns-in-Plain
unfolding time_in_range
returns-in-Plain c = rw c.in-Plain.is

pub returns-in-Symbol : goal.returns-in-Symbol
unfolding time_in_range
returns-in-Symbol c = rw (c.in-Symbol.is, and_is)
