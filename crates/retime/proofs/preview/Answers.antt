use mathlib.Core.Path.{refl, ap₂, sym, ◌∙◌}
use native.Mathlib.Omega.{arith}
use Rattle.refusals.specs.Laws.{number-some, passed_on}
use Rattle.table.specs.Bytes.{AreBytes}
use Rattle.retime.specs.Previews.{figures}
use Rattle.retime.proofs.Laws.Answering.{left-accepted, preview-no, preview-yes, retimable, room, short}
use Rattle.retime.proofs.preview.Goals as goal

pub returns-in_err-accept : goal.returns-in_err-accept
returns-in_err-accept c =
    let k = preview-no _ _ _ _ _ (λ i. omega (arith, c.type_inv.table i)) (passed_on _ _ c.from_residual.ensures.1) c.in_err-accept.ensures (number-some _) in
    record { answer = k.0; promise = k.1 }

pub quote_checked-requires : goal.quote_checked-requires
quote_checked-requires c = (retimable _ _ _ _ (sym c.in_ok-accept.ensures)).0

pub returns-in_err-before : goal.returns-in_err-before
unfolding figures
returns-in_err-before c =
    let k = preview-yes _ _ _ _ _ (λ i. omega (arith, c.type_inv.table i)) (sym c.in_ok-accept.ensures)
    (passed_on _ _ c.from_residual-in_err-before.ensures.1 ∙ rw (sym c.in_err-before.ensures) refl) in
    record { answer = k.0; promise = k.1 }

pub quote_after-requires : goal.quote_after-requires
quote_after-requires c =
    let bytes : AreBytes c.args.table.now = λ i. omega (arith, c.type_inv.table i) in
    let free = sym c.in_ok-accept.ensures in
    record { fact_1 = (room _ _ _ _ free, short _ _ _ _ bytes free); fact_2 = left-accepted _ _ _ _ bytes free }

pub returns-in_err-after : goal.returns-in_err-after
unfolding figures
returns-in_err-after c =
    let k = preview-yes _ _ _ _ _ (λ i. omega (arith, c.type_inv.table i)) (sym c.in_ok-accept.ensures)
    (passed_on _ _ c.from_residual-in_err-after.ensures.1 ∙ ap₂ figures c.in_ok-before.ensures c.in_err-after.ensures) in
    record { answer = k.0; promise = k.1 }

pub returns : goal.returns
unfolding figures
returns c =
    let k = preview-yes _ _ _ _ _ (λ i. omega (arith, c.type_inv.table i)) (sym c.in_ok-accept.ensures)
    (ap₂ figures c.in_ok-before.ensures c.in_ok-after.ensures) in
    record { answer = k.0; promise = k.1 }
