use Rattle.marking.specs.Laws.Marking.{digit-told, past-told}
use Rattle.marking.proofs.mark_digit.Goals as goal

pub returns-then-n-i : goal.returns-then-n-i
returns-then-n-i c = past-told _ _ _ c.if-n-i.true

pub returns : goal.returns
returns c = digit-told _ _ _ _ _ c.if-n-i.false c.node_at.ensures c.mark_node.ensures
