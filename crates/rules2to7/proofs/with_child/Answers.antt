-- Few enough times are summed.
use Rattle.std.proofs.Common.{arith, rules}
use Rattle.table.proofs.Laws.Tables.{few-records}
use Rattle.rules2to7.specs.Laws.Blocks.{child-bare, child-not}
use Rattle.rules2to7.proofs.with_child.Goals as goal

pub returns-in_default : goal.returns-in_default
returns-in_default c = (child-not _ _ c.in_default.ensures.value, search rules, search rules)

pub overflow_add-result-2 : goal.overflow_add-result-2
overflow_add-result-2 c = omega (arith, c.in-Some.ensures.low, few-records c.args.view.table.now c.args.view.sized.table)

pub returns : goal.returns
returns c = (child-bare _ _ _ _ c.in-Some.ensures.value c.max.ensures, omega arith, omega (arith, c.in-Some.ensures.low))
