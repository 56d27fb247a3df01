-- By the symbol's number: below the paired ones, past them, or paired.
use mathlib.Core.Path.{◌∙◌, sym}
use Rattle.evaluate.proofs.Laws.Times.{later-below, later-lower, later-past}
use Rattle.evaluate.proofs.later_value.Goals as goal

pub returns-then-symbol-lt-FIRST_PAIRED_SYMBOL : goal.returns-then-symbol-lt-FIRST_PAIRED_SYMBOL
returns-then-symbol-lt-FIRST_PAIRED_SYMBOL c = c.value_of-first.ensures ∙ sym (later-below _ _ c.if-symbol-lt-FIRST_PAIRED_SYMBOL.true)

pub returns-then-symbol-ge-HOW_MANY_SYMBOLS : goal.returns-then-symbol-ge-HOW_MANY_SYMBOLS
returns-then-symbol-ge-HOW_MANY_SYMBOLS c = c.value_of-first.ensures ∙ sym (later-past _ _ c.if-symbol-ge-HOW_MANY_SYMBOLS.true)

pub returns : goal.returns
returns c =
    rw (later-lower _ _ c.if-symbol-lt-FIRST_PAIRED_SYMBOL.false c.if-symbol-ge-HOW_MANY_SYMBOLS.false, ← c.value_of-first.ensures, ← c.value_of.ensures) c.min.ensures
