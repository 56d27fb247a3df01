-- Each question put in its order; what is left is the grafting.
use Rattle.std.specs.Prelude.{not}
use Rattle.std.proofs.Math.Path.{ap}
use Rattle.std.proofs.Common.{◌∙◌, arith, sym}
use borrow.Author.Tests.{not-false, not-true}
use Rattle.booleans.specs.Laws.{is_T}
use Rattle.refusals.specs.Laws.{number-some, passed_on}
use Rattle.table.specs.Bytes.{AreBytes}
use Rattle.table.proofs.Laws.Accepted.{is-table}
use Rattle.graft.proofs.Laws.Answering.{host-refused, promised, sent-refused, symbol-refused}
use Rattle.graft.proofs.graft.Goals as goal

pub returns-in_err-accept : goal.returns-in_err-accept
returns-in_err-accept c =
    let host : AreBytes c.args.host.now = λ i. omega (arith, c.type_inv.host i) in
    let sent : AreBytes c.args.sent.now = λ i. omega (arith, c.type_inv.sent i) in
    let no = host-refused _ _ _ _ c.in_err-accept.ensures (number-some _) in
    let k = promised _ _ _ _ host sent (passed_on _ _ c.from_residual.ensures.1 ∙ no.0, no.1) in
    record { answer = k.0; written = k.1.0; promise = k.1.1 }

pub returns-in_err-accept-2 : goal.returns-in_err-accept-2
returns-in_err-accept-2 c =
    let host : AreBytes c.args.host.now = λ i. omega (arith, c.type_inv.host i) in
    let sent : AreBytes c.args.sent.now = λ i. omega (arith, c.type_inv.sent i) in
    let no = sent-refused _ _ _ _ (sym c.in_ok-accept.ensures) c.in_err-accept-2.ensures (number-some _) in
    let k = promised _ _ _ _ host sent (passed_on _ _ c.from_residual-in_err-accept-2.ensures.1 ∙ no.0, no.1) in
    record { answer = k.0; written = k.1.0; promise = k.1.1 }

pub symbol_allowed-requires : goal.symbol_allowed-requires
symbol_allowed-requires c = is-table _ (λ i. omega (arith, c.type_inv.sent i)) (sym c.in_ok-accept-2.ensures)

pub returns-then-not-symbol_allowed : goal.returns-then-not-symbol_allowed
returns-then-not-symbol_allowed c =
    let host : AreBytes c.args.host.now = λ i. omega (arith, c.type_inv.host i) in
    let sent : AreBytes c.args.sent.now = λ i. omega (arith, c.type_inv.sent i) in
    let k = promised _ _ _ _ host sent (symbol-refused _ _ _ _ (sym c.in_ok-accept.ensures) (sym c.in_ok-accept-2.ensures) (sym c.symbol_allowed.ensures ∙ not-true _ (ap not c.if-not-symbol_allowed.true))) in
    record { answer = k.0; written = k.1.0; promise = k.1.1 }

pub put_graft-requires : goal.put_graft-requires
put_graft-requires c =
    record {
      host = is-table _ (λ i. omega (arith, c.type_inv.host i)) (sym c.in_ok-accept.ensures);
      sent = is-table _ (λ i. omega (arith, c.type_inv.sent i)) (sym c.in_ok-accept-2.ensures);
      eleven = is_T _ (sym c.symbol_allowed.ensures ∙ not-false _ (ap not c.if-not-symbol_allowed.false));
    }

pub returns : goal.returns
returns c =
    let host : AreBytes c.args.host.now = λ i. omega (arith, c.type_inv.host i) in
    let sent : AreBytes c.args.sent.now = λ i. omega (arith, c.type_inv.sent i) in
    let k = promised _ _ _ _ host sent c.put_graft.ensures in
    record { answer = k.0; written = k.1.0; promise = k.1.1 }
