-- What does not fit ends the walk; a child that fits and has gone round is in range for the join.
use mathlib.Core.Path.{ap, refl}
use native.Mathlib.Omega.{arith}
use Rattle.evaluate.specs.Evaluate.{values_of}
use Rattle.evaluate.specs.Shown.{found_in}
use Rattle.evaluate.proofs.Laws.Sane.{sane-round}
use Rattle.evaluate.proofs.Laws.Shown.{longest, longest-is, next-joined, next-unfit, next-unfit-round, ready-shown, sane-ready}
use Rattle.evaluate.proofs.take_child.Goals as goal

pub returns-in_err-child : goal.returns-in_err-child
returns-in_err-child c = rw (c.from_residual.ensures, c.in_err-child.was) (next-unfit _ _ _ _ _ refl)

pub returns-in_err-turned : goal.returns-in_err-turned
returns-in_err-turned c =
    rw (c.from_residual-in_err-turned.ensures, c.in_ok-child.was) (next-unfit-round _ _ _ _ _ refl (ap (λ r. r.fits) c.in_err-turned.ensures))

pub join_in-requires : goal.join_in-requires
join_in-requires c =
    let a = c.args in
    let h = rw c.in_ok-child.was at c.requires.fact_2 in
    let sane = sane-round (values_of a.values.now) a.kind longest _ (sane-ready (omega (arith, h.few, longest-is)) h) in
    record { fact_1 = c.requires.fact_1; fact_2 = ready-shown (omega (arith, longest-is)) sane c.in_ok-turned.ensures }

pub returns : goal.returns
returns c =
    let a = c.args in
    let next = next-joined (values_of a.values.now) a.kind a.number (found_in a.done a.out.now) (found_in c.in_ok-child.field-0 a.list.now) refl c.in_ok-turned.ensures in
    rw (c.in_ok-child.was, next) c.join_in.ensures
