use native.Mathlib.Omega.{arith}
use borrow.Author.Rules.{rules}
use Rattle.lists.specs.Laws.Add.{positive}
use Rattle.lists.proofs.Adds.{Added, add-fits, add-last, add_start, add_turn}
use Rattle.lists.proofs.List.add_onto.Goals.{After-shorter_of-m-in-loop-m}
use Rattle.lists.proofs.List.add_onto.Goals as goal

-- what a turn leaves
turned : (c : After-shorter_of-m-in-loop-m)
    → Added c.loop-m.invariant c.value_at.result c.value_at-in-loop-m.result c.pass-p.result c.pass-q.result c.shorter_of-m-in-loop-m.result
turned c =
    let t = c in
    add_turn t.loop-m.invariant (positive _ t.loop-m-test.true) c.value_at.ensures c.value_at-in-loop-m.ensures c.pass-p.ensures c.pass-q.ensures c.shorter_of-m-in-loop-m.ensures

pub loop-m-init : goal.loop-m-init
loop-m-init c =
    add_start c.requires (search rules) c.count_at-x.ensures c.count_at-y.ensures c.shorter_of-m.ensures

pub overflow_add-value_at : goal.overflow_add-value_at
overflow_add-value_at c = omega (arith, add-fits c.loop-m.invariant)

pub pass-p-requires : goal.pass-p-requires
pass-p-requires c = let v = c.loop-m.invariant in λ h. omega (arith, v.left.more h, v.asked.left.room)

pub pass-q-requires : goal.pass-q-requires
pass-q-requires c = let v = c.loop-m.invariant in λ h. omega (arith, v.right.more h, v.asked.right.room)

pub loop-m-smaller : goal.loop-m-smaller
loop-m-smaller c = let t = turned (goal.at.loop-m-smaller c).After-shorter_of-m-in-loop-m in omega (arith, t.onward, t.again.left.inside, t.again.right.inside)

pub loop-m-preserved : goal.loop-m-preserved
loop-m-preserved c = rw c.put_pair.ensures (turned (goal.at.loop-m-preserved c).After-shorter_of-m-in-loop-m).again

pub overflow_add-value_at-2 : goal.overflow_add-value_at-2
overflow_add-value_at-2 c = omega (arith, add-fits c.loop-m.invariant)

pub returns : goal.returns
returns c =
    rw c.put_pair-2.ensures (add-last c.loop-m.invariant c.loop-m-test.false c.value_at-2.ensures c.value_at-3.ensures)
