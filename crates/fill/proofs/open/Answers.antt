use Rattle.std.specs.Prelude.{not}
use Rattle.std.proofs.Math.Path.{ap}
use Rattle.std.proofs.Common.{◌∙◌, arith, leb→le, sym}
use borrow.Author.Tests.{not-false, not-true}
use Rattle.booleans.specs.Laws.{is_T}
use Rattle.refusals.specs.Laws.{number-some, passed_on}
use Rattle.table.specs.Bytes.{AreBytes}
use Rattle.table.proofs.Laws.Accepted.{is-table}
use Rattle.marking.specs.Laws.Opening.{marks-whole}
use Rattle.fill.proofs.Laws.Asking.{both_yes}
use Rattle.fill.proofs.Laws.Answering.{open-all, open-marks, open-refused, open-written}
use Rattle.fill.proofs.open.Goals as goal

pub returns-in_err-accept_both : goal.returns-in_err-accept_both
returns-in_err-accept_both c =
    let bytes : AreBytes c.args.table.now = λ i. omega (arith, c.type_inv.table i) in
    let no = open-refused _ _ _ _ _ c.in_err-accept_both.ensures (number-some _) in
    let k = open-all _ _ _ _ _ bytes (passed_on _ _ c.from_residual.ensures.1 ∙ no.0, no.1) in
    record { answer = k.0; written = k.1.0; promise = k.1.1 }

pub returns-then-not-marks_allowed : goal.returns-then-not-marks_allowed
returns-then-not-marks_allowed c =
    let k = open-all _ _ _ _ _ (λ i. omega (arith, c.type_inv.table i)) (open-marks _ _ _ _ _ (sym c.in_ok-accept_both.ensures) (sym c.marks_allowed.ensures ∙ not-true _ (ap not c.if-not-marks_allowed.true))) in
    record { answer = k.0; written = k.1.0; promise = k.1.1 }

pub write_opened-requires : goal.write_opened-requires
write_opened-requires c =
    let (one, (room, _)) = both_yes _ _ _ _ (sym c.in_ok-accept_both.ensures) in
    record {
      fact_1 = is-table _ (λ i. omega (arith, c.type_inv.table i)) one;
      fact_2 = (leb→le _ _ room, marks-whole _ _ _ _ (is_T _ (sym c.marks_allowed.ensures ∙ not-false _ (ap not c.if-not-marks_allowed.false))));
    }

pub returns : goal.returns
returns c =
    let k = open-all _ _ _ _ _ (λ i. omega (arith, c.type_inv.table i))
    (open-written _ _ _ _ _ (sym c.in_ok-accept_both.ensures) (sym c.marks_allowed.ensures ∙ not-false _ (ap not c.if-not-marks_allowed.false)) _ c.write_opened.ensures) in
    record { answer = k.0; written = k.1.0; promise = k.1.1 }
