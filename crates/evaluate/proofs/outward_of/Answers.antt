-- By the definition's two tests.
use mathlib.Core.Path.{refl}
use borrow.Author.Tests.{le-leb, lt-leb}
use Rattle.table.specs.Numbers.{whole_run}
use Rattle.evaluate.specs.Evaluate.{outward}
use Rattle.evaluate.proofs.outward_of.Goals as goal

pub returns-then-named-le1 : goal.returns-then-named-le1
unfolding outward
returns-then-named-le1 c = rw (le-leb _ 1 c.if-named-le1.true) refl

pub returns-then-named-ge-WHOLE_RUN : goal.returns-then-named-ge-WHOLE_RUN
unfolding outward
returns-then-named-ge-WHOLE_RUN c = rw (lt-leb _ 1 c.if-named-le1.false, le-leb whole_run _ c.if-named-ge-WHOLE_RUN.true) refl

pub returns : goal.returns
unfolding outward
returns c = rw (lt-leb _ 1 c.if-named-le1.false, lt-leb whole_run _ c.if-named-ge-WHOLE_RUN.false) refl
