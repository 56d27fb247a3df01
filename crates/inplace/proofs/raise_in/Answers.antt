use mathlib.Core.Path.{◌≡◌, refl}
use Prim.Native.Nat.{◌-◌}
use native.Mathlib.Omega.{arith}
use Rattle.inplace.proofs.InPlace.{raise-fits, raise-last, raise-start, raise-turn}
use Rattle.inplace.proofs.raise_in.Goals.{After-loop-k}
use Rattle.inplace.proofs.raise_in.Goals as goal

-- the loop ends at the last pair
last : (c : After-loop-k) → c.args.list.now.len - 1 ≡ c.loop-k.k
last c = omega (arith, c.loop-k.auto.k-end, c.loop-k-test.false)

pub loop-k-init : goal.loop-k-init
loop-k-init c = (raise-start c.requires.fact_1 c.requires.fact_2, refl)

pub overflow_add-x : goal.overflow_add-x
overflow_add-x c = omega (arith, raise-fits c.loop-k.invariant.0 c.value_at-x.ensures)

pub loop-k-preserved : goal.loop-k-preserved
loop-k-preserved c =
    rw c.put_pair.ensures (raise-turn c.loop-k.invariant.0 c.value_at-x.ensures c.count_at-c.ensures (omega (arith, c.loop-k-test.true)), c.loop-k.invariant.1)

pub overflow_add-x-2 : goal.overflow_add-x-2
overflow_add-x-2 c = omega (arith, raise-fits c.loop-k.invariant.0 (rw (last (goal.at.overflow_add-x-2 c).After-loop-k) at c.value_at-x-2.ensures))

pub returns : goal.returns
returns c =
    let i = c.loop-k.invariant in
    let z = last (goal.at.returns c).After-loop-k in
    rw c.put_pair-2.ensures (raise-last i.0 z (omega (arith, z, i.0.asked.some, i.1)) c.value_at-x-2.ensures (omega (arith, z)))
