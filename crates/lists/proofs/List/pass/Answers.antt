-- `pass` is `passed`, by its two tests.
use Prim.Native.Nat.{◌<◌, suc}
use native.Mathlib.Omega.{arith}
use borrow.Author.Tests.{eq-eqb, le-leb, lt-leb, ne_eqb}
use Rattle.lists.specs.Laws.Add.{positive}
use Rattle.lists.specs.Reading.{most_pairs, passed}
use Rattle.lists.proofs.List.pass.Goals.{Then-left-m}
use Rattle.lists.proofs.List.pass.Goals as goal

-- a finite pair is not the last
inner : (c : Then-left-m) → suc c.args.at < most_pairs
inner c = c.requires (positive _ c.if-left-eq0.false)

pub returns-then-left-eq0 : goal.returns-then-left-eq0
unfolding passed
returns-then-left-eq0 c = rw (eq-eqb _ _ c.if-left-eq0.true)

pub overflow_add-result : goal.overflow_add-result
overflow_add-result c = omega (arith, inner (goal.at.overflow_add-result c).Then-left-m)

pub overflow_add-at : goal.overflow_add-at
overflow_add-at c = omega (arith, inner (goal.at.overflow_add-at c).Then-left-m)

pub count_at-requires : goal.count_at-requires
count_at-requires c = omega (arith, inner (goal.at.count_at-requires c).Then-left-m)

pub returns-then-left-m : goal.returns-then-left-m
unfolding passed
returns-then-left-m c = rw (ne_eqb _ _ c.if-left-eq0.false, le-leb _ _ c.if-left-m.true, c.count_at.ensures)

pub returns : goal.returns
unfolding passed
returns c = rw (ne_eqb _ _ c.if-left-eq0.false, lt-leb _ _ c.if-left-m.false)
