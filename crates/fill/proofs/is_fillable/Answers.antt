use mathlib.Core.Path.{refl}
use Rattle.fill.specs.Answers.{fillable}
use Rattle.fill.proofs.is_fillable.Goals as goal

pub returns : goal.returns
unfolding fillable
returns c = refl
