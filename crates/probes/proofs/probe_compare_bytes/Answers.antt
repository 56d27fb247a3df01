use Rattle.std.proofs.Common.{refl}
use Rattle.probes.specs.Probes.{ProbedBytes}
use Rattle.probes.specs.Laws.Bytes.{all-equal}
use Rattle.probes.proofs.probe_compare_bytes.Goals as goal

pub returns-then-a-b : goal.returns-then-a-b
unfolding ProbedBytes
returns-then-a-b c = (c.if-a-b.true, refl)

pub returns-then-a-k : goal.returns-then-a-k
unfolding ProbedBytes
returns-then-a-k c = (c.if-a-b.false, (c.loop-k.invariant, c.if-a-k.true))

pub returns : goal.returns
unfolding ProbedBytes
returns c = (all-equal _ _ c.loop-k.k c.if-a-b.false c.loop-k-test.false c.loop-k.invariant, refl)
