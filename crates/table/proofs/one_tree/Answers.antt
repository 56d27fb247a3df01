use Rattle.std.proofs.Common.{sym}
use Rattle.table.specs.Checking.{question4}
use Rattle.table.proofs.Laws.Reading.{wants-next, wants-none, wants-end, part-from}
use Rattle.table.proofs.one_tree.Goals as goal

pub returns-then-wanted-eq0 : goal.returns-then-wanted-eq0
unfolding question4
returns-then-wanted-eq0 c = sym (wants-none _ _ _ c.loop-i-test.true c.if-wanted-eq0.true c.loop-i.invariant)

pub loop-i-preserved : goal.loop-i-preserved
loop-i-preserved c =
    let count = c.children_at.ensures in
    wants-next _ _ _ _ c.loop-i-test.true c.if-wanted-eq0.false c.loop-i.invariant (rw part-from count.0) count.1

pub returns : goal.returns
unfolding question4
returns c = sym (wants-end _ _ _ c.loop-i-test.false c.loop-i.invariant)
