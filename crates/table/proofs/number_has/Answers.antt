use Rattle.std.proofs.Common.{rules}
use Rattle.table.specs.Questions.{number_has}
use Rattle.table.proofs.number_has.Goals as goal

pub returns : goal.returns
unfolding number_has
returns c = search rules
