use mathlib.Core.Path.{sym, ◌∙◌}
use Rattle.refusals.specs.Refusals.{Refused}
use Rattle.refusals.specs.Laws.{number-some, passed_on}
use Rattle.table.proofs.Laws.Asking.{answered, refused}
use Rattle.quoting.specs.Answers.{check_answer}
use Rattle.quoting.proofs.check.Goals as goal

pub returns-in_err-accept : goal.returns-in_err-accept
unfolding check_answer
returns-in_err-accept c =
    passed_on _ _ c.from_residual.ensures.1 ∙ sym (refused _ _ Refused (sym c.in_err-accept.ensures) (number-some _))

pub returns : goal.returns
unfolding check_answer
returns c = sym (answered _ _ Refused (sym c.in_ok-accept.ensures))
