use Rattle.std.proofs.Common.{arith, ◌∙◌}
use Rattle.writing.specs.Fields.{value_at}
use Rattle.writing.specs.Laws.Fields.{field-put}
use Rattle.writing.proofs.put_value.Goals as goal

pub returns : goal.returns
returns c = field-put c.args.out.now c.copy_from_slice.new.self (value_at c.args.at) 8 _ c.args.value (omega arith) (c.copy_from_slice.ensures.after ∙ c.to_le_bytes.ensures)
