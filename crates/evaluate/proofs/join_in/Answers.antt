-- By the room for both lists' pairs: nothing, or the joined list, checked.
use native.Mathlib.Omega.{arith}
use Rattle.evaluate.specs.Shown.{found_in}
use Rattle.evaluate.proofs.Laws.Shown.{first-top, len-width}
use Rattle.evaluate.proofs.Steps.{joined-room, joined-wide}
use Rattle.evaluate.proofs.join_in.Goals as goal

pub returns-then-out-list-gt-MOST_PAIRS : goal.returns-then-out-list-gt-MOST_PAIRS
returns-then-out-list-gt-MOST_PAIRS c =
    let s = c.requires.fact_1 in let d = c.requires.fact_2 in
    joined-wide _ _ _ _ (omega (arith, len-width s.proper, len-width d.proper))

pub join_lists-requires : goal.join_lists-requires
join_lists-requires c =
    let s = c.requires.fact_1 in let d = c.requires.fact_2 in
    let w = len-width s.proper in
    let x = len-width d.proper in
    record {
      fact_1 = record { left = s.proper; right = d.proper; narrow = omega arith; low = omega (arith, s.low, d.low) };
      fact_2 = record { left = s.proper; right = d.proper; narrow = omega arith; few = omega (arith, s.near, s.few, d.near, d.few) };
    }

pub returns : goal.returns
returns c =
    let a = c.args in
    let s = c.requires.fact_1 in let d = c.requires.fact_2 in
    let room = joined-room a.kind a.number (found_in a.done a.out.now) (found_in a.child a.list.now) (omega (arith, len-width s.proper, len-width d.proper)) in
    rw (room, first-top s.proper, first-top d.proper, ← c.value_at.ensures, ← c.value_at-2.ensures, ← c.next_holder-branch.ensures, ← c.min.ensures, ← c.join_lists.ensures.pairs) c.check_top.ensures
