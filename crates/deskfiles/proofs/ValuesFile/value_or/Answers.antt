use mathlib.Core.Path.{◌∙◌}
use native.Mathlib.Omega.{arith}
use lib.ListN.{length-drop}
use Rattle.deskfiles.proofs.Laws.Files.{value_there, value-absent}
use Rattle.deskfiles.proofs.ValuesFile.value_or.Goals as goal

pub returns-then-at-self : goal.returns-then-at-self
returns-then-at-self c = c.read_u64.ensures ∙ value_there _ _ (rw length-drop (omega arith))

pub returns-else-at-self : goal.returns-else-at-self
returns-else-at-self c = value-absent _ _ (rw length-drop (omega arith))
