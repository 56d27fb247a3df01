-- Nothing changes where no value is below v; else the pairs at most v give way to it.
use native.Mathlib.Omega.{arith}
use Rattle.inplace.proofs.InPlace.{floor-last, floor-none}
use Rattle.inplace.proofs.floor_in.Goals as goal

pub returns-then-v-value_at : goal.returns-then-v-value_at
returns-then-v-value_at c = floor-none c.requires c.value_at.ensures c.if-v-value_at.true

pub find_in-k-requires : goal.find_in-k-requires
find_in-k-requires c =
    record { fact_1 = c.requires; fact_2 = omega (arith, c.value_at.ensures, c.if-v-value_at.false) }

pub returns : goal.returns
returns c =
    rw c.put_pair.ensures (floor-last c.requires c.find_in-k.ensures)
