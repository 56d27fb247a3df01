-- What preview makes of the figure call's answers for the old tree and for the new one.
use Rattle.refusals.specs.Refusals.{Answer, Given, Refused}
use Rattle.quoting.specs.declared.Quote.{Quote}
use Rattle.retime.specs.declared.Previewed.{Previewed}

unfoldable pub figures : (before after : Answer Quote) → Answer Previewed
figures (Given x) (Given y) = Given record { before = x; after = y }
figures (Given x) (Refused q) = Refused q
figures (Refused q) after = Refused q
