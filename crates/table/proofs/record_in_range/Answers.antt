-- The kind and the limit's number are those of `first_node`, and pass what their callees ensure.
use mathlib.Core.Path.{refl}
use Rattle.table.specs.Table.{first_node}
use Rattle.table.specs.Checking.{record_in_range}
use Rattle.booleans.specs.Laws.{and_is}
use Rattle.table.proofs.record_in_range.Goals as goal

pub returns : goal.returns
unfolding record_in_range first_node
returns c =
    rw (and_is, c.limit_in_range.ensures, c.kind_in_range.ensures, c.most_from-most.ensures, c.read_u32.ensures.0, c.read_kind-kind.ensures) refl
