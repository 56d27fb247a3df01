use Rattle.sales.specs.Buffers.{Within}
use Rattle.sales.specs.Laws.Buffers.{answer-within}
use Rattle.sales.proofs.simplify_into.Goals as goal

pub deliver-requires : goal.deliver-requires
unfolding Within
deliver-requires g c =
    let h = c.in-Ok.ensures in
    answer-within _ _ _ _ _ h.answer h.written
