use Rattle.formerquotes.proofs.Laws.Agreed.{agrees}
use Rattle.volefleece.proofs.vf_convert.Goals as goal

pub returns-clause-quotes : goal.returns-clause-quotes
returns-clause-quotes c = agrees _
