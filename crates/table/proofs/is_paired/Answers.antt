use Rattle.std.proofs.Common.{rules}
use Rattle.booleans.specs.Tests.{◌and◌}
use Rattle.table.specs.Questions.{paired}
use Rattle.table.proofs.is_paired.Goals as goal

pub returns-in-Symbol-24-to-31 : goal.returns-in-Symbol-24-to-31
unfolding paired ◌and◌
returns-in-Symbol-24-to-31 c = rw c.in-Symbol-24-to-31.is (search rules)

pub returns-in_default : goal.returns-in_default
unfolding paired ◌and◌
returns-in_default c = rw c.in_default.is (search rules)

pub returns-in_default-2 : goal.returns-in_default-2
unfolding paired ◌and◌
returns-in_default-2 c = rw c.in_default.is (search rules)

pub returns-in_default-3 : goal.returns-in_default-3
unfolding paired ◌and◌
returns-in_default-3 c = search rules
