use Rattle.table.specs.Table.{first_node}
use Rattle.table.proofs.read_address.Goals as goal

pub returns : goal.returns
unfolding first_node
returns c = c.read_u32.ensures.0
