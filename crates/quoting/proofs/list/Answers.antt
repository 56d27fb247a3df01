-- Each return has the answers to the questions before it; the last two have what the walk found.
use mathlib.Core.Path.{ap, sym}
use native.Mathlib.Omega.{arith}
use Rattle.refusals.specs.Laws.{number-some, passed_on}
use Rattle.table.specs.Bytes.{AreBytes}
use Rattle.table.proofs.Laws.Refusal.{accepted-short}
use Rattle.lists.specs.Laws.Numbers.{list-width, list-numbers}
use Rattle.quoting.proofs.Laws.Answers.{told}
use Rattle.quoting.proofs.Laws.Evaluated.{list-found, list-no, list-refused, list-short, quote-large}
use Rattle.evaluate.proofs.Laws.Shown.{list-shown}
use Rattle.quoting.proofs.Laws.Figures.{checked-no, checked-yes, quote-values}
use Rattle.quoting.proofs.Laws.Promises.{list-kept}
use Rattle.values.proofs.Laws.Values.{values-long}
use Rattle.quoting.proofs.list.Goals as goal

pub returns-in_err-check : goal.returns-in_err-check
returns-in_err-check c =
    let k = list-kept c.args.table.now c.args.values.now c.args.out.now (told (passed_on _ _ c.from_residual.ensures.1) (list-refused _ _ _ (checked-no _ c.in_err-check.ensures) (number-some _))) in
    record { answer = k.0; written = k.1.0; promise = k.1.1 }

pub returns-then-out-lt-LIST_ROOM : goal.returns-then-out-lt-LIST_ROOM
returns-then-out-lt-LIST_ROOM c =
    let k = list-kept c.args.table.now c.args.values.now c.args.out.now (list-short _ _ _ (checked-yes _ c.in_ok-check.ensures) c.if-out-lt-LIST_ROOM.true) in
    record { answer = k.0; written = k.1.0; promise = k.1.1 }

pub returns-in_err-accept : goal.returns-in_err-accept
returns-in_err-accept c =
    let k = list-kept c.args.table.now c.args.values.now c.args.out.now
    (told (passed_on _ _ c.from_residual-in_err-accept.ensures.1) (list-no _ _ _ (checked-yes _ c.in_ok-check.ensures) c.if-out-lt-LIST_ROOM.false (quote-values _ _ c.in_err-accept.ensures (number-some _)) (number-some _))) in
    record { answer = k.0; written = k.1.0; promise = k.1.1 }

pub walk-requires : goal.walk-requires
walk-requires c =
    let bytes : AreBytes c.args.table.now = λ i. omega (arith, c.type_inv.table i) in
    record {
      fact_1 = accepted-short _ bytes (checked-yes _ c.in_ok-check.ensures);
      fact_2 = values-long _ _ (sym c.in_ok-accept.ensures);
      fact_3 = c.flag_free-free.ensures;
    }

pub overflow_mul-n : goal.overflow_mul-n
overflow_mul-n c = omega (arith, c.in-Some.ensures.shows.0.room)

pub write_front-requires : goal.write_front-requires
write_front-requires c =
    let proper = c.in-Some.ensures.shows.0 in
    (omega (arith, proper.room, proper.long), omega (arith, proper.room, c.if-out-lt-LIST_ROOM.false))

pub returns : goal.returns
returns c =
    let walk = c.in-Some.ensures in
    let is = list-shown walk.shows in
    let bytes : AreBytes c.args.table.now = λ i. omega (arith, c.type_inv.table i) in
    let k = list-kept c.args.table.now c.args.values.now c.args.out.now
    (list-found _ _ _ (checked-yes _ c.in_ok-check.ensures) c.if-out-lt-LIST_ROOM.false bytes (sym c.in_ok-accept.ensures) _ walk.agree walk.same (ap (λ e. e.fits) walk.shows.1)
    (list-width _ _ is) (list-numbers _ _ is.proper.long is) c.write_front.ensures) in
    record { answer = k.0; written = k.1.0; promise = k.1.1 }

pub returns-in_default : goal.returns-in_default
returns-in_default c =
    let walk = c.in_default.ensures in
    let bytes : AreBytes c.args.table.now = λ i. omega (arith, c.type_inv.table i) in
    let no = checked-yes _ c.in_ok-check.ensures in
    let large = quote-large _ _ no bytes (sym c.in_ok-accept.ensures) _ walk.agree walk.same (ap (λ e. e.fits) walk.shows) in
    let k = list-kept c.args.table.now c.args.values.now c.args.out.now (list-no _ _ _ no c.if-out-lt-LIST_ROOM.false large (λ z. omega (arith, z))) in
    record { answer = k.0; written = k.1.0; promise = k.1.1 }
