-- 0 computes; every other byte is a limit, of the number that is read.
use Rattle.table.specs.Table.{first_node, limit_from}
use Rattle.table.proofs.Laws.Reading.{is-limit}
use Rattle.table.proofs.read_limit.Goals as goal

pub returns-then-name-eq0 : goal.returns-then-name-eq0
unfolding first_node limit_from
returns-then-name-eq0 c = rw c.if-name-eq0.true

pub returns : goal.returns
unfolding first_node
returns c = rw (c.most_from-most.ensures, c.read_u32.ensures.0) (is-limit _ _ c.if-name-eq0.false)
