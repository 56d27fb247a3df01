use mathlib.Core.Path.{sym}
use native.Mathlib.Omega.{arith}
use lib.ListN.{length-drop}
use lib.Seq.{get_or-drop}
use Rattle.writing.specs.Laws.Records.{copied-parts, copy-next, copy-none}
use Rattle.writing.proofs.copy_bytes.Goals as goal

pub loop-k-init : goal.loop-k-init
loop-k-init c = copy-none _ _ _ (omega arith)

pub loop-k-preserved : goal.loop-k-preserved
loop-k-preserved c =
    let a = c.args in
    let long = length-drop a.start a.from.now in
    copy-next _ _ _ _ _ _ (sym (get_or-drop a.start a.from.now c.loop-k.k 0)) (omega arith) (omega arith) c.loop-k.invariant

pub returns : goal.returns
returns c =
    copied-parts _ _ _ _ _ _ (omega arith) c.loop-k.invariant
