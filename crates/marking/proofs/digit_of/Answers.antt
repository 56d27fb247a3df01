use Rattle.marking.specs.Laws.Digits.{shifted}
use Rattle.marking.proofs.digit_of.Goals as goal

pub returns : goal.returns
returns c = shifted c.args.byte c.args.k c.requires
