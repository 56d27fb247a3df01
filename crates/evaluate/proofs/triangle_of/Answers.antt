use mathlib.Core.Path.{refl}
use borrow.Author.Tests.{le-ltb, lt-ltb}
use Rattle.table.specs.Numbers.{how_many_symbols}
use Rattle.evaluate.specs.Evaluator.{triangle_in}
use Rattle.evaluate.proofs.triangle_of.Goals as goal

pub returns-then-symbol-lt-HOW_MANY_SYMBOLS : goal.returns-then-symbol-lt-HOW_MANY_SYMBOLS
unfolding triangle_in
returns-then-symbol-lt-HOW_MANY_SYMBOLS c = rw (lt-ltb _ how_many_symbols c.if-symbol-lt-HOW_MANY_SYMBOLS.true) c.value_of.ensures

pub returns-else-symbol-lt-HOW_MANY_SYMBOLS : goal.returns-else-symbol-lt-HOW_MANY_SYMBOLS
unfolding triangle_in
returns-else-symbol-lt-HOW_MANY_SYMBOLS c = rw (le-ltb _ how_many_symbols c.if-symbol-lt-HOW_MANY_SYMBOLS.false) refl
