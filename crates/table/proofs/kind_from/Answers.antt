use native.Mathlib.Omega.{arith}
-- The arms of 0 to 2 compute; every other byte is a loop.
use borrow.Author.Rules.{rules}
use Rattle.table.specs.Table.{kind_from}
use Rattle.table.proofs.Laws.Reading.{is_loop}
use Rattle.table.proofs.kind_from.Goals as goal

pub returns-in-0 : goal.returns-in-0
unfolding kind_from
returns-in-0 c = rw c.in-0.is

pub returns-in-1 : goal.returns-in-1
unfolding kind_from
returns-in-1 c = search rules

pub returns-in-2 : goal.returns-in-2
unfolding kind_from
returns-in-2 c = search rules

pub returns-in_default : goal.returns-in_default
returns-in_default c = is_loop _ _ (λ h. omega arith) (λ h. omega arith) (λ h. omega arith)
