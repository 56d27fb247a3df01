-- Each question put in its order; what is left is the steps.
use mathlib.Core.Path.{◌≡◌, ap, sym}
use native.Mathlib.Omega.{arith}
use Rattle.refusals.specs.Laws.{number-some, passed_on}
use Rattle.table.specs.Bytes.{AreBytes}
use Rattle.table.specs.Checking.{refusal}
use Rattle.table.proofs.Laws.Refusal.{accepted-short}
use Rattle.quoting.proofs.Laws.Answers.{told}
use Rattle.simplifying.specs.Laws.Simplifying.{simplify-able, simplify-large, simplify-made, simplify-refused, simplify-short}
use Rattle.simplifying.proofs.simplify.Goals as goal

pub returns-in_err-accept : goal.returns-in_err-accept
returns-in_err-accept c =
    let k = told (passed_on _ _ c.from_residual.ensures.1) (simplify-refused _ _ _ c.in_err-accept.ensures (number-some _)) in
    record { answer = k.0; written = k.1 }

pub returns-then-out-table : goal.returns-then-out-table
returns-then-out-table c =
    let k = simplify-short _ _ _ (sym c.in_ok-accept.ensures) c.if-out-table.true in
    record { answer = k.0; written = k.1 }

pub evaluate-requires : goal.evaluate-requires
evaluate-requires c =
    let bytes : AreBytes c.args.table.now = λ i. omega (arith, c.type_inv.table i) in
    let no : refusal c.args.table.now ≡ 0 = sym c.in_ok-accept.ensures in
    accepted-short _ bytes no

pub make_steps-requires : goal.make_steps-requires
make_steps-requires c =
    let bytes : AreBytes c.args.table.now = λ i. omega (arith, c.type_inv.table i) in
    let no : refusal c.args.table.now ≡ 0 = sym c.in_ok-accept.ensures in
    record {
      fact_1 = simplify-able _ c.args.allowance c.args.out.now no c.if-out-table.false bytes (ap (λ e. e.fits) c.in-Some.ensures.1);
      fact_2 = c.if-out-table.false;
    }

pub returns : goal.returns
returns c =
    let bytes : AreBytes c.args.table.now = λ i. omega (arith, c.type_inv.table i) in
    let no : refusal c.args.table.now ≡ 0 = sym c.in_ok-accept.ensures in
    let k = simplify-made _ _ _ no c.if-out-table.false bytes (ap (λ e. e.fits) c.in-Some.ensures.1) c.make_steps.ensures in
    record { answer = k.0; written = k.1 }

pub returns-in_default : goal.returns-in_default
returns-in_default c =
    let bytes : AreBytes c.args.table.now = λ i. omega (arith, c.type_inv.table i) in
    let no : refusal c.args.table.now ≡ 0 = sym c.in_ok-accept.ensures in
    let k = simplify-large _ _ _ no c.if-out-table.false bytes (ap (λ e. e.fits) c.in_default.ensures) in
    record { answer = k.0; written = k.1 }
