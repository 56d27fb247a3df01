use native.Mathlib.Omega.{arith}
-- The arms of 0 and 1 compute; any other flags are a triangular number's.
use Rattle.table.specs.Table.{most_from}
use Rattle.table.proofs.Laws.Reading.{is-triangular}
use Rattle.table.proofs.most_from.Goals as goal

pub returns-in-0 : goal.returns-in-0
unfolding most_from
returns-in-0 c = rw c.in-0.is

pub returns-in-1 : goal.returns-in-1
unfolding most_from
returns-in-1 c = rw c.in-1.is

pub returns-in_default : goal.returns-in_default
returns-in_default c = is-triangular _ _ (λ h. omega arith) (λ h. omega arith)
