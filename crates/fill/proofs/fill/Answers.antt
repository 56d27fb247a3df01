use Rattle.std.proofs.Common.{◌∙◌, arith, sym}
use Rattle.refusals.specs.Laws.{number-some, passed_on}
use Rattle.table.specs.Bytes.{AreBytes}
use Rattle.table.proofs.Laws.Accepted.{is-table}
use Rattle.fill.proofs.Laws.Asking.{both_yes}
use Rattle.fill.proofs.Laws.Answering.{fill-all, fill-refused, fill-room, fill-written}
use Rattle.fill.proofs.fill.Goals as goal

pub returns-in_err-accept_both : goal.returns-in_err-accept_both
returns-in_err-accept_both c =
    let bytes : AreBytes c.args.table.now = λ i. omega (arith, c.type_inv.table i) in
    let no = fill-refused _ _ _ _ _ c.in_err-accept_both.ensures (number-some _) in
    let k = fill-all _ _ _ _ _ bytes (passed_on _ _ c.from_residual.ensures.1 ∙ no.0, no.1) in
    record { answer = k.0; written = k.1.0; marked = k.1.1.0; promise = k.1.1.1 }

pub write_filled-requires : goal.write_filled-requires
write_filled-requires c =
    let (one, (room, _)) = both_yes _ _ _ _ (sym c.in_ok-accept_both.ensures) in
    let a = c.args in
    record {
      fact_1 = is-table _ (λ i. omega (arith, c.type_inv.table i)) one;
      fact_2 = fill-room a.table.now a.out.now a.marks.now room;
    }

pub returns : goal.returns
returns c =
    let k = fill-all _ _ _ _ _ (λ i. omega (arith, c.type_inv.table i)) (fill-written _ _ _ _ _ (sym c.in_ok-accept_both.ensures) _ _ c.write_filled.ensures) in
    record { answer = k.0; written = k.1.0; marked = k.1.1.0; promise = k.1.1.1 }
