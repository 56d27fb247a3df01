use Rattle.subtrees.specs.Laws.Survey.{moved-known}
use Rattle.subtrees.proofs.resurvey.Goals as goal

pub mark_records-requires-clause-table_3 : goal.mark_records-requires-clause-table_3
mark_records-requires-clause-table_3 c = moved-known _ _ _ _ _ c.requires.fact_2 c.move_facts.ensures.moved
