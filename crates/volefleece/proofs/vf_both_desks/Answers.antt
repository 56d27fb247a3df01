-- Demand 3, of what the four calls promise.
use native.Mathlib.Omega.{arith}
use Rattle.table.specs.Bytes.{AreBytes}
use Rattle.volefleece.specs.Laws.BothDesks.{both-asked, within}
use Rattle.volefleece.proofs.vf_both_desks.Goals as goal

pub slice_bounds-vf_figure-end : goal.slice_bounds-vf_figure-end
slice_bounds-vf_figure-end c =
    within _ _ _ _ _ c.vf_simplify-simplified.ensures.answer c.vf_simplify-simplified.ensures.written

pub returns : goal.returns
returns c =
    let bytes : AreBytes c.args.table.now = λ i. omega (arith, c.type_inv.table i) in
    let k = both-asked _ _ _ _ _ _ _ bytes c.vf_check-checked.ensures c.vf_simplify-simplified.ensures.answer c.vf_simplify-simplified.ensures.written c.vf_figure-quoted.ensures.answer c.vf_figure-sold.ensures.answer
    c.vf_figure-quoted.ensures.promise c.vf_figure-sold.ensures.promise in
    record { demand = k.0; answers = k.1 }
