use mathlib.Core.Path.{refl}
use Rattle.probes.specs.Probes.{Probed}
use Rattle.probes.proofs.probe_compare.Goals as goal

pub returns-then-a-b : goal.returns-then-a-b
unfolding Probed
returns-then-a-b c = ((λ same. c.if-a-b.true same.0), refl)

pub returns-then-a-ne0 : goal.returns-then-a-ne0
unfolding Probed
returns-then-a-ne0 c = ((λ same. c.if-a-ne0.true same.1), refl)

pub returns-in-Some : goal.returns-in-Some
unfolding Probed
returns-in-Some c = ((c.if-a-b.false, c.if-a-ne0.false), c.in-Some.ensures)

pub returns-in-None : goal.returns-in-None
unfolding Probed
returns-in-None c = ((c.if-a-b.false, c.if-a-ne0.false), (c.in-None.ensures, refl))
