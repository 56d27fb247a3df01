-- A symbol's value, or a later one by its first.
use mathlib.Core.Path.{sym, ◌∙◌}
use Rattle.deskfiles.proofs.Laws.Files.{value-first, value-later}
use Rattle.deskfiles.proofs.ValuesFile.value.Goals as goal

pub returns-then-i-lt-HOW_MANY_SYMBOLS : goal.returns-then-i-lt-HOW_MANY_SYMBOLS
returns-then-i-lt-HOW_MANY_SYMBOLS c = c.symbol_value.ensures ∙ sym (value-first _ _ c.if-i-lt-HOW_MANY_SYMBOLS.true)

pub returns : goal.returns
returns c =
    rw (value-later _ _ c.if-i-lt-HOW_MANY_SYMBOLS.false, ← c.symbol_value-first.ensures) c.value_or.ensures
