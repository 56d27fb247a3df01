use mathlib.Core.Path.{◌≡◌, refl}
use Prim.Native.Nat.{◌*◌, ◌+◌, ◌-◌, ◌≤◌}
use native.Mathlib.Omega.{arith}
use Rattle.lists.specs.Reading.{count_at, value_at}
use Rattle.lists.proofs.Caps.{passes-last, passes-not}
use Rattle.lists.proofs.Suffix.{inner-count, last-count}
use Rattle.lists.proofs.Totals.{Totalling, total-fits, total-last, total-start, total-turn}
use Rattle.lists.proofs.List.total_of.Goals.{After-value_at-2, After-value_at-in-loop-k}
use Rattle.lists.proofs.List.total_of.Goals as goal

-- what a turn leaves
turned : (c : After-value_at-in-loop-k) → let l = c.loop-k in let a = c.args.self.now in
    Totalling a c.args.n (l.k + 1) (l.left - c.count_at-c.result) (l.sum + c.count_at-c.result * c.value_at-in-loop-k.result) (count_at a.pairs (l.k + 1))
turned c =
    let some = inner-count c.args.self.now c.requires.list c.loop-k.k (omega (arith, c.loop-k-test.true)) in
    rw c.count_at-c.ensures (total-turn c.loop-k.invariant some (rw c.count_at-c.ensures at c.if-left-c.false) c.value_at-in-loop-k.ensures refl)

-- the last pair
last : (c : After-value_at-2) → c.args.self.now.len - 1 ≡ c.loop-k.k
last c = omega (arith, c.loop-k.auto.k-end, c.loop-k-test.false)

last-value : (c : After-value_at-2) → c.value_at-2.result ≡ value_at c.args.self.now.pairs c.loop-k.k
last-value c = rw (last c) at c.value_at-2.ensures

pub loop-k-init : goal.loop-k-init
loop-k-init c = total-start c.requires refl

pub overflow_mul-result : goal.overflow_mul-result
overflow_mul-result c = omega (arith, total-fits c.loop-k.invariant c.value_at.ensures)

pub overflow_add-result : goal.overflow_add-result
overflow_add-result c = omega (arith, total-fits c.loop-k.invariant c.value_at.ensures)

pub returns-then-left-c : goal.returns-then-left-c
returns-then-left-c c =
    let reached : c.loop-k.left ≤ count_at c.args.self.now.pairs c.loop-k.k = rw (← c.count_at-c.ensures) c.if-left-c.true in
    total-last c.loop-k.invariant (passes-not _ _ reached) c.value_at.ensures

pub overflow_mul-sum : goal.overflow_mul-sum
overflow_mul-sum c = let t = turned (goal.at.overflow_mul-sum c).After-value_at-in-loop-k in omega (arith, t.fits, t.asked.low)

pub overflow_add-sum : goal.overflow_add-sum
overflow_add-sum c = let t = turned (goal.at.overflow_add-sum c).After-value_at-in-loop-k in omega (arith, t.fits, t.asked.low)

pub loop-k-preserved : goal.loop-k-preserved
loop-k-preserved c = turned (goal.at.loop-k-preserved c).After-value_at-in-loop-k

pub overflow_mul-result-2 : goal.overflow_mul-result-2
overflow_mul-result-2 c = omega (arith, total-fits c.loop-k.invariant (last-value (goal.at.overflow_mul-result-2 c).After-value_at-2))

pub overflow_add-result-2 : goal.overflow_add-result-2
overflow_add-result-2 c = omega (arith, total-fits c.loop-k.invariant (last-value (goal.at.overflow_add-result-2 c).After-value_at-2))

pub returns : goal.returns
returns c =
    let z = last (goal.at.returns c).After-value_at-2 in
    total-last c.loop-k.invariant (passes-last _ _ (last-count c.args.self.now c.requires.list _ z)) (last-value (goal.at.returns c).After-value_at-2)
