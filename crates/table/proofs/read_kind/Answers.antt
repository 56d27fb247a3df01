-- Each field is what its reader ensures.
use Rattle.std.proofs.Common.{refl}
use Rattle.table.specs.Table.{first_node}
use Rattle.table.proofs.read_kind.Goals as goal

pub returns : goal.returns
unfolding first_node
returns c = rw (c.kind_from.ensures, c.number_from.ensures, c.read_u64.ensures) refl
