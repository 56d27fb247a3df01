use Rattle.std.proofs.Common.{arith}
use Rattle.marking.specs.Marks.{digit_at}
use Rattle.filling.specs.Laws.Putting.{all-put, digit-put, one-put}
use Rattle.filling.proofs.put_marked.Goals as goal

pub loop-i-preserved : goal.loop-i-preserved
loop-i-preserved c =
    let a = c.args in
    one-put _ _ _ _ _ _ c.loop-i.invariant _ _ (omega (arith, c.loop-i-test.true)) c.put_next.auto.out (digit-put a.value a.most (digit_at a.marks.now) c.loop-i.i _ _ _ _ _ c.digit_at.ensures c.put_next.ensures)

pub returns : goal.returns
returns c = all-put _ _ _ _ _ _ c.loop-i.invariant c.loop-i-test.false
