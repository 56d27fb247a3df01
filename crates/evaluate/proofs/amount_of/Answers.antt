-- Each arm is told which constructor the number is.
use mathlib.Core.Path.{refl}
use Rattle.evaluate.specs.Evaluate.{amount}
use Rattle.evaluate.proofs.amount_of.Goals as goal

pub returns-in-Plain : goal.returns-in-Plain
unfolding amount
returns-in-Plain c = rw c.in-Plain.is refl

pub returns-in-Symbol : goal.returns-in-Symbol
unfolding amount
returns-in-Symbol c = rw c.in-Symbol.is c.value_of.ensures
