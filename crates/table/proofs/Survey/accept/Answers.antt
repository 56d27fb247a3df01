use mathlib.Core.Path.{refl}
use borrow.Author.Tests.{le-leb, lt-leb, not-true, not-false}
use Rattle.table.specs.Asking.{first_no}
use Rattle.table.proofs.Survey.accept.Goals as goal

pub returns-then-not-self : goal.returns-then-not-self
unfolding first_no
returns-then-not-self c = rw (not-true _ c.if-not-self.true) refl

pub returns-then-self-gt-MOST_WEIGHT : goal.returns-then-self-gt-MOST_WEIGHT
unfolding first_no
returns-then-self-gt-MOST_WEIGHT c = rw (not-false _ c.if-not-self.false, lt-leb _ _ c.if-self-gt-MOST_WEIGHT.true) refl

pub returns : goal.returns
unfolding first_no
returns c = rw (not-false _ c.if-not-self.false, le-leb _ _ c.if-self-gt-MOST_WEIGHT.false) refl
