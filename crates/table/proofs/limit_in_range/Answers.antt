use mathlib.Core.Path.{sym}
use Rattle.table.proofs.Laws.Reading.{limit-count}
use Rattle.table.proofs.limit_in_range.Goals as goal

pub returns : goal.returns
returns c = rw c.most_in_range-small.ensures (sym (limit-count _ _))
