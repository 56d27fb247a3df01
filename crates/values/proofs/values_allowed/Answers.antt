use Rattle.std.proofs.Common.{add-one, arith}
use Rattle.values.proofs.Laws.Values.{one-asked, one-over, all_asked, other_length}
use Rattle.values.proofs.values_allowed.Goals as goal

pub returns-then-values-ne-HOW_MANY_VALUES : goal.returns-then-values-ne-HOW_MANY_VALUES
returns-then-values-ne-HOW_MANY_VALUES c = other_length _ c.if-values-ne-HOW_MANY_VALUES.true

pub returns-then-ceiling_of-value : goal.returns-then-ceiling_of-value
returns-then-ceiling_of-value c =
    one-over _ _ (omega arith) c.if-values-ne-HOW_MANY_VALUES.false c.loop-i.invariant (omega arith)

pub loop-i-preserved : goal.loop-i-preserved
loop-i-preserved c = rw add-one (one-asked _ _ (omega arith) c.loop-i.invariant (omega arith))

pub returns : goal.returns
returns c = all_asked _ _ (omega arith) c.if-values-ne-HOW_MANY_VALUES.false c.loop-i.invariant
