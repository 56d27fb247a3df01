use mathlib.Core.Path.{sym, ◌∙◌}
use Prim.Native.Nat.{◌*◌}
use lib.ListN.{drop}
use lib.Seq.{get_or-drop}
use Rattle.table.specs.Numbers.{record_length}
use Rattle.table.proofs.Laws.Reading.{name-byte}
use Rattle.table.proofs.name_at.Goals as goal

pub returns : goal.returns
returns c =
    let a = c.args in
    sym (get_or-drop (record_length * a.i) a.table.now 3 0) ∙ sym (name-byte (drop (record_length * a.i) a.table.now))
