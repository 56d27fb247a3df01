use Rattle.std.proofs.Common.{◌∙◌}
use Rattle.table.specs.Table.{limit_num}
use Rattle.marking.specs.Laws.Equal.{symbol-most}
use Rattle.marking.proofs.limit_has.Goals as goal

pub returns-in-AtMost : goal.returns-in-AtMost
unfolding limit_num
returns-in-AtMost c = rw c.in-AtMost.is (c.eq.ensures ∙ symbol-most c.in-AtMost.most c.args.symbol)
