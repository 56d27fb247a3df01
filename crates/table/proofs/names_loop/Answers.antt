use mathlib.Core.Path.{refl}
use borrow.Author.Rules.{rules}
use Rattle.table.specs.Questions.{name_ok}
use Rattle.table.proofs.names_loop.Goals as goal

pub returns-in-Unlimited : goal.returns-in-Unlimited
unfolding name_ok
returns-in-Unlimited c = search rules

pub returns-in-AtMost : goal.returns-in-AtMost
unfolding name_ok
returns-in-AtMost c = rw c.in-AtMost.is refl
