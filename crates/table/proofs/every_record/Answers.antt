use Rattle.std.specs.Prelude.{not}
use Rattle.std.proofs.Common.{ap, sym}
use Rattle.table.proofs.Laws.Reading.{all-passed, one-failed, one-passed, part-long}
use Rattle.table.proofs.every_record.Goals as goal

pub returns-then-not-test : goal.returns-then-not-test
returns-then-not-test g c p t =
    let answer = t _ _ (part-long c.args.table.now _ c.loop-i-test.true) c.test.ensures in
    sym (one-failed p _ _ _ c.loop-i-test.true (c.loop-i.invariant p t) answer (ap not c.if-not-test.true))

pub loop-i-preserved : goal.loop-i-preserved
loop-i-preserved g c p t =
    let answer = t _ _ (part-long c.args.table.now _ c.loop-i-test.true) c.test.ensures in
    one-passed p _ _ _ c.loop-i-test.true (c.loop-i.invariant p t) answer (ap not c.if-not-test.false)

pub returns : goal.returns
returns g c p t = sym (all-passed p _ _ c.loop-i-test.false (c.loop-i.invariant p t))
