use Rattle.std.proofs.Common.{arith}
use Rattle.table.proofs.Laws.Reading.{field-4}
use Rattle.table.proofs.read_u32.Goals as goal

pub returns : goal.returns
returns c =
    let a = c.args in
    (omega (arith, field-4 a.b.now a.at, c.from.ensures, c.from_le_bytes.ensures), omega (arith, c.from.ensures, c.from_le_bytes.type_inv))
