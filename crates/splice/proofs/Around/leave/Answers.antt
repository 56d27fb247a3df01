use Rattle.std.proofs.Common.{ap, refl, ◌∙◌}
use Rattle.splice.specs.Laws.Renaming.{around-ended, around-inside, around-none}
use Rattle.splice.specs.Renaming.{stack}
use Rattle.splice.proofs.Around.leave.Goals as goal

pub returns-then-self-eq0 : goal.returns-then-self-eq0
returns-then-self-eq0 c = (ap (stack c.args.self.now.ends) c.if-self-eq0.true ∙ around-none _ _ _ c.if-self-eq0.true, refl)

pub returns-then-self-last : goal.returns-then-self-last
returns-then-self-last c = (around-ended _ _ _ c.if-self-eq0.false c.if-self-last.true, refl)

pub returns-else-self-last : goal.returns-else-self-last
returns-else-self-last c = (around-inside _ _ _ c.if-self-eq0.false c.if-self-last.false, refl)
