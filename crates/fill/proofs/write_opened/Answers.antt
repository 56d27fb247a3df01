use Rattle.table.proofs.Laws.Tables.{few-records}
use Rattle.fill.proofs.Laws.Writing.{opened-over, room}
use Rattle.fill.proofs.write_opened.Goals as goal

pub put_marked-requires : goal.put_marked-requires
put_marked-requires c = (room _ _ c.requires.fact_1 c.requires.fact_2.0, c.requires.fact_2.1, few-records _ c.requires.fact_1)

pub returns : goal.returns
returns c =
    opened-over _ _ _ _ _ c.requires.fact_1 c.requires.fact_2.0 c.put_marked.auto.out c.put_marked.ensures
