use Rattle.readdress.specs.Buffers.{Within}
use Rattle.readdress.specs.Laws.Buffers.{answer-within}
use Rattle.readdress.proofs.convert_into.Goals as goal

pub slice_bounds-save-end-in-Ok : goal.slice_bounds-save-end-in-Ok
unfolding Within
slice_bounds-save-end-in-Ok g c =
    let h = c.in-Ok.ensures in
    (answer-within _ _ _ _ h.answer h.written).0

pub slice_bounds-save-end-in-Ok-2 : goal.slice_bounds-save-end-in-Ok-2
unfolding Within
slice_bounds-save-end-in-Ok-2 g c =
    let h = c.in-Ok.ensures in
    (answer-within _ _ _ _ h.answer h.written).1
