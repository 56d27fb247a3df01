-- By the definition's tests: nothing, the list as it is, or its first members.
use mathlib.Core.Path.{refl}
use native.Mathlib.Numerals.{add-one}
use native.Mathlib.Omega.{arith}
use Rattle.evaluate.specs.Evaluate.{values_of}
use Rattle.evaluate.specs.Evaluator.{limited}
use Rattle.evaluate.specs.Shown.{found_in}
use Rattle.evaluate.proofs.Laws.Shown.{found-shown, len-width}
use Rattle.evaluate.proofs.Steps.{limited-many, limited-room, limited-wide}
use Rattle.evaluate.proofs.limit_in.Goals as goal

pub returns-in_err-below : goal.returns-in_err-below
returns-in_err-below c = rw (c.from_residual.ensures, c.in_err-below.was) refl

pub returns-in_default : goal.returns-in_default
unfolding limited
returns-in_default c =
    let h = rw c.in_ok-below.was at c.requires in
    (h.proper, rw (c.in_ok-below.was, c.in_default.is, add-one) refl)

pub returns-then-most-gt-MOST_COUNT : goal.returns-then-most-gt-MOST_COUNT
returns-then-most-gt-MOST_COUNT c = rw (c.in_ok-below.was, c.in-AtMost.is) (limited-many _ _ _ _ (omega (arith, c.looked_up-most.ensures)))

pub returns-then-list-gt-MOST_PAIRS : goal.returns-then-list-gt-MOST_PAIRS
returns-then-list-gt-MOST_PAIRS c =
    let h = rw c.in_ok-below.was at c.requires in
    let wide = len-width h.proper in
    rw (c.in_ok-below.was, c.in-AtMost.is) (limited-wide _ _ _ _ (omega (arith, c.looked_up-most.ensures)) (omega arith))

pub cap-requires : goal.cap-requires
cap-requires c =
    let h = rw c.in_ok-below.was at c.requires in
    record { list = h.proper; narrow = omega (arith, len-width h.proper) }

pub returns : goal.returns
returns c =
    let a = c.args in
    let h = rw c.in_ok-below.was at c.requires in
    let wide = len-width h.proper in
    let name = c.in-AtMost.name in let number = c.in-AtMost.number in
    let cap = limited-room (values_of a.values.now) name number (found_in c.in_ok-below.below a.list.now) (omega (arith, c.looked_up-most.ensures)) (omega arith) in
    found-shown c.cap.ensures (rw (c.in_ok-below.was, c.in-AtMost.is, cap, ← c.looked_up-most.ensures, ← c.min.ensures, add-one) refl)
