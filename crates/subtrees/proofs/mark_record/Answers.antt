-- The facts of the record, by its fields and what its children come to.
use Rattle.std.proofs.Common.{rules}
use Rattle.subtrees.specs.Laws.Survey.{few-below, known_next}
use Rattle.subtrees.proofs.mark_record.Goals as goal

pub overflow_add-facts : goal.overflow_add-facts
overflow_add-facts c =
    search (rules, few-below c.args.table.now c.requires.table_1 c.args.i c.requires.table_2 _ c.below_of-below.ensures)

pub returns-clause-known : goal.returns-clause-known
returns-clause-known c =
    rw (c.flagless_at.ensures, c.with_name.ensures, c.max.ensures, c.own_reach.ensures, c.node_at-kind.ensures, c.name_at-name.ensures)
    (known_next c.args.table.now c.requires.table_1 c.args.i c.requires.table_2 c.args.facts.now c.requires.table_in_bounds c.requires.table_3 _ c.below_of-below.ensures)
