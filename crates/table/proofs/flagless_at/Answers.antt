use mathlib.Core.Path.{ap, sym}
use Prim.Native.Nat.{◌*◌}
use lib.Dec.{eqb}
use lib.Seq.{get_or-drop}
use Rattle.table.specs.Numbers.{record_length}
use Rattle.table.specs.Table.{flagless}
use Rattle.table.proofs.flagless_at.Goals as goal

pub returns : goal.returns
unfolding flagless
returns c =
    let a = c.args in
    ap (λ x. eqb x 0) (sym (get_or-drop (record_length * a.i) a.table.now 1 0))
