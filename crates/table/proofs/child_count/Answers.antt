-- Byte 2 is what `child_byte` reads.
use Rattle.std.proofs.Common.{rules}
use Rattle.table.specs.Table.{child_byte}
use Rattle.table.proofs.child_count.Goals as goal

pub returns : goal.returns
unfolding child_byte
returns c = search rules
