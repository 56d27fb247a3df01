-- The value in front is the list's first.
use Rattle.evaluate.proofs.Laws.Shown.{first-top}
use Rattle.evaluate.proofs.Steps.{checked-high, checked-low}
use Rattle.evaluate.proofs.check_top.Goals as goal

pub returns-then-value_at-le-MOST_TIME : goal.returns-then-value_at-le-MOST_TIME
returns-then-value_at-le-MOST_TIME c =
    (c.requires, checked-low _ _ _ _ (rw (first-top c.requires, ← c.value_at.ensures) c.if-value_at-le-MOST_TIME.true))

pub returns-else-value_at-le-MOST_TIME : goal.returns-else-value_at-le-MOST_TIME
returns-else-value_at-le-MOST_TIME c =
    checked-high _ _ _ _ (rw (first-top c.requires, ← c.value_at.ensures) c.if-value_at-le-MOST_TIME.false)
