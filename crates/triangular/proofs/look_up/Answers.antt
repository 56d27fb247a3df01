-- The program's table is the list of the rule's values: antt computes both and compares them, entry by entry.
use Rattle.std.proofs.Common.{◌≡◌, refl, ap, ◌∙◌, get_or}
use Rattle.triangular.specs.Triangular.{rule}
use Rattle.triangular.specs.Entries.{entries}
use Rattle.triangular.specs.declared.TheConstants.{TRIANGULAR}
use Rattle.triangular.proofs.Laws.Entries.{entry_of}
use Rattle.triangular.proofs.look_up.Goals as goal

same : TRIANGULAR ≡ entries
unfolding entries rule
same = refl

pub returns : goal.returns
returns c = c.from.ensures ∙ ap (λ t. get_or t c.min.result 0) same ∙ entry_of c.args.n _ c.min.ensures
