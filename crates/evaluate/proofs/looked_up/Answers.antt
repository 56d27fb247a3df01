-- Each arm is told which constructor the number is.
use mathlib.Core.Path.{refl}
use Rattle.evaluate.specs.Evaluator.{looked}
use Rattle.evaluate.proofs.looked_up.Goals as goal

pub returns-in-Plain : goal.returns-in-Plain
unfolding looked
returns-in-Plain c = rw c.in-Plain.is refl

pub returns-in-Symbol : goal.returns-in-Symbol
unfolding looked
returns-in-Symbol c = rw c.in-Symbol.is c.value_of.ensures

pub returns-in-Triangular : goal.returns-in-Triangular
unfolding looked
returns-in-Triangular c = rw c.in-Triangular.is c.triangle_of.ensures
