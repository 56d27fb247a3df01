-- A choice is told its constructor, and compares; the others are among those left.
use mathlib.Core.Path.{refl}
use native.Mathlib.Omega.{arith}
use borrow.Author.Tests.{le-leb, lt-leb}
use Rattle.evaluate.specs.Evaluator.{next_holder}
use Rattle.evaluate.proofs.Others.{holder-other}
use Rattle.evaluate.proofs.next_holder.Goals as goal

pub returns-then-first-largest : goal.returns-then-first-largest
unfolding next_holder
returns-then-first-largest c =
    let a = c.args in
    rw (c.in-Choice.is, le-leb a.first a.largest (omega (arith, c.if-first-largest.true))) refl

pub returns-else-first-largest : goal.returns-else-first-largest
unfolding next_holder
returns-else-first-largest c =
    let a = c.args in
    rw (c.in-Choice.is, lt-leb a.first a.largest (omega (arith, c.if-first-largest.false))) refl

pub returns-in_default : goal.returns-in_default
returns-in_default c = let a = c.args in holder-other a.kind a.holder a.largest a.number a.first c.in_default.not-Choice
