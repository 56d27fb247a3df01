use Rattle.std.proofs.Common.{arith}
use Rattle.rules8and9.specs.Laws.Comparing.{all-agreed, none-agreed, one-agreed, one-other}
use Rattle.rules8and9.proofs.same_records.Goals as goal

pub loop-k-init : goal.loop-k-init
loop-k-init c = none-agreed _ _ _ _

pub returns-then-not-same_fields : goal.returns-then-not-same_fields
returns-then-not-same_fields c = one-other _ _ _ _ _ c.loop-k-test.true c.loop-k.invariant _ c.same_fields.ensures c.if-not-same_fields.true

pub loop-k-preserved : goal.loop-k-preserved
loop-k-preserved c = one-agreed _ _ _ _ _ c.loop-k-test.true c.loop-k.invariant _ c.same_fields.ensures c.if-not-same_fields.false

pub returns : goal.returns
returns c = all-agreed _ _ _ _ _ (omega arith) c.loop-k.invariant
