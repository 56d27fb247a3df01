use mathlib.Core.Path.{◌≡◌, refl}
use Prim.Native.Nat.{◌+◌, ◌-◌}
use native.Mathlib.Omega.{arith}
use borrow.Author.Rules.{rules}
use Rattle.inplace.proofs.InPlace.{insert-last, insert-start, insert-turn}
use Rattle.inplace.proofs.insert_in.Goals as goal

pub loop-j-init : goal.loop-j-init
loop-j-init c = (insert-start (search rules) c.requires.fact_1 c.requires.fact_2, refl)

pub loop-j-preserved : goal.loop-j-preserved
loop-j-preserved c =
    let over : c.loop-j.j - 1 + 1 ≡ c.loop-j.j = omega (arith, c.loop-j-test.true) in
    let (pairs, len) = c.loop-j.invariant in
    rw (c.put_pair.ensures, over) (insert-turn pairs c.loop-j-test.true c.value_at-x.ensures c.count_at-y.ensures, len)

pub returns : goal.returns
returns c =
    let (pairs, len) = c.loop-j.invariant in
    rw (c.put_pair-2.ensures, len) (record { fact_1 = insert-last pairs c.loop-j-test.false; fact_2 = refl })
