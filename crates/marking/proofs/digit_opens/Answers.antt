use Rattle.marking.specs.Laws.Opening.{node-told, none_told, one-there}
use Rattle.marking.proofs.digit_opens.Goals as goal

pub returns-then-n-i : goal.returns-then-n-i
returns-then-n-i c = none_told _ _ _ _ _ _ c.digit_at-digit.ensures c.if-n-i.true

pub returns : goal.returns
returns c =
    node-told _ _ _ _ _ _ c.digit_at-digit.ensures _ _ (one-there _ _ c.digit_at-digit.result c.if-n-i.false) c.node_at.ensures c.node_opens.ensures
