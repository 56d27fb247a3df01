use mathlib.Core.Path.{sym, ap, ◌∙◌}
use Rattle.refusals.specs.Laws.{number-some, passed_on}
use Rattle.refusals.specs.Refusals.{refused}
use Rattle.table.specs.Asking.{first_no}
use Rattle.retime.proofs.Laws.Answering.{table-refused, time-asked}
use Rattle.retime.proofs.accept.Goals as goal

pub returns-in_err-accept : goal.returns-in_err-accept
returns-in_err-accept c = ap refused (passed_on _ _ c.from_residual.ensures.1) ∙ table-refused _ _ _ _ c.in_err-accept.ensures (number-some _)

pub returns-then-time_allowed : goal.returns-then-time_allowed
unfolding first_no
returns-then-time_allowed c = time-asked _ _ _ _ (sym c.in_ok-accept.ensures) (sym c.if-time_allowed.true ∙ c.time_allowed.ensures)

pub returns-else-time_allowed : goal.returns-else-time_allowed
unfolding first_no
returns-else-time_allowed c = time-asked _ _ _ _ (sym c.in_ok-accept.ensures) (sym c.if-time_allowed.false ∙ c.time_allowed.ensures)
