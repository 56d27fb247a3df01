use Rattle.std.proofs.Common.{arith}
use Rattle.table.proofs.Laws.Reading.{field-8}
use Rattle.table.proofs.read_u64.Goals as goal

pub returns : goal.returns
returns c = omega (arith, field-8 c.args.b.now c.args.at, c.from_le_bytes.ensures)
