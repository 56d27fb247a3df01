use mathlib.Core.Path.{◌≡◌, refl}
use Prim.Native.Nat.{◌-◌}
use native.Mathlib.Omega.{arith}
use borrow.Author.Rules.{rules}
use Rattle.lists.specs.Reading.{value_at}
use Rattle.lists.proofs.Suffix.{inner-count, last-count}
use Rattle.grouping.proofs.Groups.{Stepped, group-fits, group-last, group-start, group-step}
use Rattle.grouping.proofs.group_from.Goals.{After-group_turn-t, After-value_at-v-2}
use Rattle.grouping.proofs.group_from.Goals as goal

-- what a turn stores and leaves
stepped : (c : After-group_turn-t) → Stepped c.loop-k.invariant c.value_at-v.result c.group_turn-t.result
stepped c =
    let some = inner-count c.args.list.now c.requires.fact_1.list c.loop-k.k (omega (arith, c.loop-k-test.true)) in
    group-step c.loop-k.invariant some c.value_at-v.ensures (rw c.count_at.ensures at c.group_turn-t.ensures)

-- the last pair
last : (c : After-value_at-v-2) → c.args.list.now.len - 1 ≡ c.loop-k.k
last c = omega (arith, c.loop-k.auto.k-end, c.loop-k-test.false)

last-value : (c : After-value_at-v-2) → c.value_at-v-2.result ≡ value_at c.args.list.now.pairs c.loop-k.k
last-value c = rw (last c) at c.value_at-v-2.ensures

pub loop-k-init : goal.loop-k-init
loop-k-init c = group-start c.requires.fact_1 c.requires.fact_2 (search rules) refl

pub group_turn-t-requires : goal.group_turn-t-requires
group_turn-t-requires c = group-fits c.loop-k.invariant c.value_at-v.ensures

pub overflow_add-o : goal.overflow_add-o
overflow_add-o c = let t = stepped (goal.at.overflow_add-o c).After-group_turn-t in search rules

pub overflow_mul-n : goal.overflow_mul-n
overflow_mul-n c = let t = stepped (goal.at.overflow_mul-n c).After-group_turn-t in search rules

pub put_pair-requires-in-loop-k : goal.put_pair-requires-in-loop-k
put_pair-requires-in-loop-k c = let t = stepped (goal.at.put_pair-requires-in-loop-k c).After-group_turn-t in search rules

pub overflow_add-o-in-loop-k : goal.overflow_add-o-in-loop-k
overflow_add-o-in-loop-k c = let t = stepped (goal.at.overflow_add-o-in-loop-k c).After-group_turn-t in search rules

pub loop-k-preserved : goal.loop-k-preserved
loop-k-preserved c =
    rw (c.put_pair-in-loop-k.ensures, c.put_pair.ensures) ((stepped (goal.at.loop-k-preserved c).After-group_turn-t).again c.some_of-o.ensures refl)

pub overflow_mul-n-2 : goal.overflow_mul-n-2
overflow_mul-n-2 c = omega (arith, (group-fits c.loop-k.invariant (last-value (goal.at.overflow_mul-n-2 c).After-value_at-v-2)).fits)

pub overflow_add-sum : goal.overflow_add-sum
overflow_add-sum c = omega (arith, (group-fits c.loop-k.invariant (last-value (goal.at.overflow_add-sum c).After-value_at-v-2)).fits)

pub overflow_mul-n-3 : goal.overflow_mul-n-3
overflow_mul-n-3 c = omega (arith, (group-fits c.loop-k.invariant (last-value (goal.at.overflow_mul-n-3 c).After-value_at-v-2)).whole)

pub returns : goal.returns
returns c =
    let at_last = (goal.at.returns c).After-value_at-v-2 in
    rw (c.put_pair-3.ensures, c.put_pair-2.ensures)
    (group-last c.loop-k.invariant (last-count c.args.list.now c.requires.fact_1.list _ (last at_last)) (last-value at_last) c.some_of-o-2.ensures)
