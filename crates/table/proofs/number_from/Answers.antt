-- 0 computes; every other flag is a symbol.
use Rattle.table.specs.Table.{num_from}
use Rattle.table.proofs.Laws.Reading.{is-symbol}
use Rattle.table.proofs.number_from.Goals as goal

pub returns-then-flag-eq0 : goal.returns-then-flag-eq0
unfolding num_from
returns-then-flag-eq0 c = rw c.if-flag-eq0.true

pub returns-else-flag-eq0 : goal.returns-else-flag-eq0
returns-else-flag-eq0 c = is-symbol _ _ c.if-flag-eq0.false
