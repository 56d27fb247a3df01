use Rattle.former.proofs.Laws.Converting.{all_made, one-made}
use Rattle.former.proofs.convert_records.Goals as goal

pub loop-i-preserved : goal.loop-i-preserved
loop-i-preserved c =
    one-made _ _ _ _ _ c.loop-i.invariant _ c.loop-i-test.true c.convert_record.auto.out c.convert_record.ensures

pub returns : goal.returns
returns c = all_made _ _ _ _ _ c.loop-i.invariant c.requires.0 c.loop-i-test.false
