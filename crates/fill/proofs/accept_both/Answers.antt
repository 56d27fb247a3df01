-- Each question put in its order.
use Rattle.std.specs.Prelude.{not}
use Rattle.std.proofs.Math.Path.{ap}
use Rattle.std.proofs.Common.{◌∙◌, sym}
use borrow.Author.Tests.{not-false, not-true}
use Rattle.refusals.specs.Laws.{number-some, passed_on}
use Rattle.refusals.specs.Refusals.{refused}
use Rattle.fill.proofs.Laws.Asking.{both-fine, both-number, both-refused, both-short}
use Rattle.fill.proofs.accept_both.Goals as goal

pub returns-in_err-accept : goal.returns-in_err-accept
returns-in_err-accept c = ap refused (passed_on _ _ c.from_residual.ensures.1) ∙ both-refused _ _ _ _ c.in_err-accept.ensures (number-some _)

pub returns-then-not-roomy : goal.returns-then-not-roomy
returns-then-not-roomy c = both-short _ _ _ _ (sym c.in_ok-accept.ensures) (ap not c.if-not-roomy.true)

pub returns-then-not-may_fill : goal.returns-then-not-may_fill
returns-then-not-may_fill c = both-number _ _ _ _ (sym c.in_ok-accept.ensures) _ c.may_fill.ensures (ap not c.if-not-roomy.false) (not-true _ (ap not c.if-not-may_fill.true))

pub returns : goal.returns
returns c = both-fine _ _ _ _ (sym c.in_ok-accept.ensures) _ c.may_fill.ensures (ap not c.if-not-roomy.false) (not-false _ (ap not c.if-not-may_fill.false))
