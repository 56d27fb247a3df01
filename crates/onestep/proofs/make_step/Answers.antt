-- The table is edited in its buffer; what is known of the old one tells what is known of the new.
use native.Mathlib.Omega.{arith}
use Rattle.onestep.specs.Laws.Edited.{edited-is, end-within, part-outdated, part-settled}
use Rattle.onestep.proofs.make_step.Goals as goal

pub overflow_add-end : goal.overflow_add-end
overflow_add-end c =
    omega (arith, end-within _ _ _ _ _ _ c.requires.surveyed_1 c.requires.placed c.requires.table_1 c.requires.table_2 c.requires.surveyed_2, c.ranges.len)

pub overflow_sub-rest : goal.overflow_sub-rest
overflow_sub-rest c =
    end-within _ _ _ _ _ _ c.requires.surveyed_1 c.requires.placed c.requires.table_1 c.requires.table_2 c.requires.surveyed_2

pub resurvey-requires : goal.resurvey-requires
resurvey-requires c =
    let k = part-outdated _ _ _ _ _ _ c.requires.surveyed_1 c.requires.placed c.requires.table_1 c.requires.table_2 c.requires.surveyed_2 c.copy_records-n.new.out c.copy_records-n.result c.copy_records-n.ensures.1 in
    record { fact_1 = k.0; fact_2 = k.1 }

pub returns : goal.returns
returns c =
    let is = edited-is _ _ _ _ _ _ c.requires.surveyed_1 c.requires.placed c.requires.table_1 c.requires.table_2 c.requires.surveyed_2 c.copy_records-n.new.out c.copy_records-n.result c.copy_records-n.ensures.1 in
    let known = part-settled _ _ _ _ _ _ c.requires.surveyed_1 c.requires.placed c.requires.table_1 c.requires.table_2 c.requires.surveyed_2 c.copy_records-n.new.out c.copy_records-n.result c.copy_records-n.ensures.1 c.resurvey.ensures in
    record { value = (omega (arith, c.copy_records-n.ensures.0), is); surveyed_2_1 = known.0; surveyed_2_2 = known.1 }
