-- The theorem of demand 3, of what the four calls promise.
use borrow.Author.Rules.{rules}
use native.Mathlib.Omega.{arith}
use Rattle.table.specs.Bytes.{AreBytes}
use Rattle.simplifying.specs.Laws.Demand.{both-asked, length-told, written-within}
use Rattle.simplifying.proofs.both_desks.Goals as goal

pub slice_bounds-figure-end : goal.slice_bounds-figure-end
slice_bounds-figure-end c =
    let long = length-told c.simplify-simplified.result _ _ (λ x h. search rules) c.map_or-n.ensures in
    omega (arith, long, written-within _ _ _ _ _ c.simplify-simplified.ensures.answer c.simplify-simplified.ensures.written)

pub returns : goal.returns
returns c =
    let bytes : AreBytes c.args.table.now = λ i. omega (arith, c.type_inv.table i) in
    let long = length-told c.simplify-simplified.result _ _ (λ x h. search rules) c.map_or-n.ensures in
    let k = both-asked _ _ _ _ _ _ _ _ _ _ _ bytes c.check-checked.ensures c.simplify-simplified.ensures.answer c.simplify-simplified.ensures.written c.figure-quoted.ensures.answer long c.figure-sold.ensures.answer
    c.figure-quoted.ensures.promise c.figure-sold.ensures.promise in
    record { demand = k.0; answers = k.1 }
