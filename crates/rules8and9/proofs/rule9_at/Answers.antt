-- A loop that fits has a body and an exit (`ExitAt`); the exit and what follows it reach to the table's end.
use Rattle.std.proofs.Common.{sym, ◌∙◌, arith}
use Rattle.table.proofs.Laws.Tables.{few-records, length-is}
use Rattle.rules8and9.specs.Laws.Exit.{ExitAt, exit-at, exit-written, not-idle, other-named}
use Rattle.rules8and9.proofs.rule9_at.Goals.{Else-not-is_idle}
use Rattle.rules8and9.proofs.rule9_at.Goals as goal

-- past the first test, the loop has a body and an exit
found : (c : Else-not-is_idle) → let a = c.args in ExitAt a.view.table.now a.view.facts.now a.i
found c = exit-at _ _ c.requires.surveyed _ c.requires.inside (sym c.is_idle.ensures ∙ c.if-not-is_idle.false)

pub returns-then-not-is_idle : goal.returns-then-not-is_idle
returns-then-not-is_idle c = not-idle _ _ c.requires.surveyed _ c.requires.inside _ _ c.is_idle.ensures c.if-not-is_idle.true

pub bounds-view-body : goal.bounds-view-body
bounds-view-body c = (found (goal.at.bounds-view-body c).Else-not-is_idle).sized

pub overflow_add-from : goal.overflow_add-from
overflow_add-from c = let x = found (goal.at.overflow_add-from c).Else-not-is_idle in omega (arith, x.within, few-records _ x.table)

pub copy_rest-requires : goal.copy_rest-requires
copy_rest-requires c = let x = found (goal.at.copy_rest-requires c).Else-not-is_idle in omega (arith, x.within, length-is _ x.table)

pub returns-then-kept : goal.returns-then-kept
returns-then-kept c = exit-written (found (goal.at.returns-then-kept c).Else-not-is_idle) _ _ c.if-kept.true c.copy_rest.ensures.0 c.copy_rest.ensures.1

pub returns : goal.returns
returns c = other-named (found (goal.at.returns c).Else-not-is_idle) _ c.if-kept.false
