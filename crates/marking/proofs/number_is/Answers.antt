use Rattle.std.proofs.Common.{◌∙◌}
use Rattle.marking.specs.Laws.Equal.{plain-number}
use Rattle.marking.proofs.number_is.Goals as goal

pub returns : goal.returns
returns c = c.eq.ensures ∙ plain-number c.args.value c.args.number
