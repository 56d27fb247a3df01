use Rattle.std.proofs.Common.{add-one, arith}
use Rattle.values.proofs.Laws.Values.{all-ordered, one-exceeds, one-ordered}
use Rattle.values.proofs.laters_low.Goals as goal

pub returns-then-value_of-later : goal.returns-then-value_of-later
returns-then-value_of-later c =
    one-exceeds _ _ (omega (arith, c.loop-s-test.true)) c.loop-s.invariant (omega (arith, c.value_of-later.ensures, c.value_of.ensures, c.if-value_of-later.true))

pub loop-s-preserved : goal.loop-s-preserved
loop-s-preserved c =
    rw add-one (one-ordered _ _ (omega (arith, c.loop-s-test.true)) c.loop-s.invariant (omega (arith, c.value_of-later.ensures, c.value_of.ensures, c.if-value_of-later.false)))

pub returns : goal.returns
returns c = all-ordered _ _ (omega arith) c.loop-s.invariant
