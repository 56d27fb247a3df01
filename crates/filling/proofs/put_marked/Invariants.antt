use Rattle.marking.specs.Marks.{digit_at}
use Rattle.filling.specs.Fill.{put_limit, put_value}
use Rattle.filling.specs.Laws.Putting.{Put}
use Rattle.filling.proofs.put_marked.Given as goal

abbrev pub invariant-loop-i : goal.invariant-loop-i
invariant-loop-i l = Put (put_value l.value (digit_at l.marks)) (put_limit l.most (digit_at l.marks)) l.table l.initial.out l.i l.out
