-- A refusal is checking's, and any other answer has its promises from being the definition's.
use mathlib.Core.Path.{◌∙◌}
use native.Mathlib.Omega.{arith}
use Rattle.refusals.specs.Laws.{number-some, passed_on}
use Rattle.table.specs.Bytes.{AreBytes}
use Rattle.quoting.proofs.Laws.Evaluated.{figure-refused}
use Rattle.quoting.proofs.Laws.Figures.{checked-no, checked-yes}
use Rattle.quoting.proofs.Laws.Promises.{kept}
use Rattle.quoting.proofs.figure.Goals as goal

pub returns-in_err-check : goal.returns-in_err-check
returns-in_err-check c =
    let bytes : AreBytes c.args.table.now = λ i. omega (arith, c.type_inv.table i) in
    let k = kept c.args.table.now c.args.values.now bytes _ (passed_on _ _ c.from_residual.ensures.1 ∙ figure-refused _ _ (checked-no _ c.in_err-check.ensures) (number-some _)) in
    record { answer = k.0; promise = k.1.0; branch = k.1.1.0; rising = k.1.1.1 }

pub quote_checked-requires : goal.quote_checked-requires
quote_checked-requires c = checked-yes _ c.in_ok-check.ensures

pub returns : goal.returns
returns c =
    let bytes : AreBytes c.args.table.now = λ i. omega (arith, c.type_inv.table i) in
    let k = kept c.args.table.now c.args.values.now bytes _ c.quote_checked.ensures in
    record { answer = k.0; promise = k.1.0; branch = k.1.1.0; rising = k.1.1.1 }
