use mathlib.Core.Path.{refl}
use borrow.Author.Tests.{lt-ltb, le-ltb}
use Rattle.values.specs.Values.{ceiling}
use Rattle.values.proofs.ceiling_of.Goals as goal

pub returns-then-i-lt-FIRST_TIME_SYMBOL : goal.returns-then-i-lt-FIRST_TIME_SYMBOL
unfolding ceiling
returns-then-i-lt-FIRST_TIME_SYMBOL c = rw (lt-ltb _ _ c.if-i-lt-FIRST_TIME_SYMBOL.true) refl

pub returns-else-i-lt-FIRST_TIME_SYMBOL : goal.returns-else-i-lt-FIRST_TIME_SYMBOL
unfolding ceiling
returns-else-i-lt-FIRST_TIME_SYMBOL c = rw (le-ltb _ _ c.if-i-lt-FIRST_TIME_SYMBOL.false) refl
