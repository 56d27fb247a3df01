-- Each arm is told which constructor the time is.
use mathlib.Core.Path.{refl}
use Rattle.evaluate.specs.Evaluate.{later}
use Rattle.evaluate.proofs.later_of.Goals as goal

pub returns-in-Plain : goal.returns-in-Plain
unfolding later
returns-in-Plain c = rw c.in-Plain.is refl

pub returns-in-Symbol : goal.returns-in-Symbol
returns-in-Symbol c = rw c.in-Symbol.is c.later_value.ensures
