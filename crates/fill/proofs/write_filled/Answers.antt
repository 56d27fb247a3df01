use Rattle.table.proofs.Laws.Tables.{few-records}
use Rattle.fill.proofs.Laws.Writing.{filled-over, marks-over, room}
use borrow.Author.Rules.{rules}
use Rattle.fill.proofs.write_filled.Goals as goal

pub put_marked-requires : goal.put_marked-requires
put_marked-requires c = (room _ _ c.requires.fact_1 c.requires.fact_2.0, search rules, few-records _ c.requires.fact_1)

pub returns : goal.returns
returns c = (
  filled-over _ _ _ _ _ _ c.requires.fact_1 c.requires.fact_2.0 c.marks_of-bytes.ensures c.put_marked.auto.out c.put_marked.ensures,
  marks-over _ _ _ _ _ c.marks_of-bytes.ensures c.write_front.ensures,
)
