-- `group_turn` is `turn_of`, by its two tests; its products are at most those that `Turns` bounds.
use Prim.Native.Nat.{◌-◌}
use native.Mathlib.Nat.{le_of_lt, mod-lt, mul-le-mul_right}
use native.Mathlib.Omega.{arith}
use borrow.Author.Tests.{eq-eqb, le-ltb, lt-ltb, ne_eqb}
use Rattle.lists.specs.Operations.{turn_of}
use Rattle.grouping.proofs.group_turn.Goals as goal

pub overflow_mul-result : goal.overflow_mul-result
overflow_mul-result c = let a = c.args in omega (arith, mul-le-mul_right a.v (le_of_lt (mod-lt a.c {m = a.n} (omega arith))))

pub returns-then-m-eq0 : goal.returns-then-m-eq0
unfolding turn_of
returns-then-m-eq0 c = rw (eq-eqb _ _ c.if-m-eq0.true)

pub overflow_mul-result-then-c-need : goal.overflow_mul-result-then-c-need
overflow_mul-result-then-c-need c = let a = c.args in omega (arith, mul-le-mul_right a.v (le_of_lt c.if-c-need.true))

pub overflow_add-result-then-c-need : goal.overflow_add-result-then-c-need
overflow_add-result-then-c-need c = let a = c.args in omega (arith, mul-le-mul_right a.v (le_of_lt c.if-c-need.true))

pub returns-then-c-need : goal.returns-then-c-need
unfolding turn_of
returns-then-c-need c = rw (ne_eqb _ _ c.if-m-eq0.false, lt-ltb _ _ c.if-c-need.true)

pub overflow_mul-result-3 : goal.overflow_mul-result-3
overflow_mul-result-3 c = let a = c.args in omega (arith, mul-le-mul_right a.v (le_of_lt (mod-lt (a.c - (a.n - a.m)) {m = a.n} (omega arith))))

pub returns : goal.returns
unfolding turn_of
returns c = rw (ne_eqb _ _ c.if-m-eq0.false, le-ltb _ _ c.if-c-need.false)
