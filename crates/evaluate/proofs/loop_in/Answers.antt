-- By the definition's tests: nothing, the first sum, or the groups, copied and checked.
use native.Mathlib.Omega.{arith}
use Rattle.evaluate.specs.Shown.{found_in}
use Rattle.evaluate.proofs.Laws.Shown.{len-width, product-fits}
use Rattle.evaluate.proofs.Steps.{looped-many, looped-own, looped-room, looped-wide}
use Rattle.evaluate.proofs.loop_in.Goals as goal

pub returns-then-bound-gt-MOST_COUNT : goal.returns-then-bound-gt-MOST_COUNT
returns-then-bound-gt-MOST_COUNT c = looped-many _ _ c.if-bound-gt-MOST_COUNT.true

pub total_of-total-requires : goal.total_of-total-requires
total_of-total-requires c =
    let h = c.requires in
    record { list = h.proper; low = product-fits _ _ c.if-bound-gt-MOST_COUNT.false h.low }

pub returns-then-body-le1 : goal.returns-then-body-le1
returns-then-body-le1 c =
    let a = c.args in
    let first = looped-own a.bound (found_in a.body a.list.now) c.if-bound-gt-MOST_COUNT.false c.if-body-le1.true in
    rw (first, ← c.outward_of.ensures, ← c.total_of-total.ensures) c.repeat_in.ensures

pub returns-then-list-gt-MOST_PAIRS : goal.returns-then-list-gt-MOST_PAIRS
returns-then-list-gt-MOST_PAIRS c =
    looped-wide _ _ c.if-bound-gt-MOST_COUNT.false c.if-body-le1.false (omega (arith, len-width c.requires.proper))

pub group_onto-requires : goal.group_onto-requires
group_onto-requires c =
    let h = c.requires in
    record { list = h.proper; narrow = omega (arith, len-width h.proper); low = product-fits _ _ c.if-bound-gt-MOST_COUNT.false h.low }

pub returns : goal.returns
returns c =
    let a = c.args in
    let groups = looped-room a.bound (found_in a.body a.list.now) c.if-bound-gt-MOST_COUNT.false c.if-body-le1.false (omega (arith, len-width c.requires.proper)) in
    rw (groups, ← c.outward_of.ensures, ← c.group_onto.ensures.pairs, ← c.copy_from.ensures.pairs) c.check_top.ensures
