-- The node's record, and the two runs of records that are copied, one after another.
use Rattle.table.specs.Table.{record_bytes}
use Rattle.rules2to7.specs.Laws.Dissolving.{left-of}
use Rattle.rules2to7.proofs.dissolve_at.Goals as goal

pub returns : goal.returns
returns c =
    let (x, y) = c.copy_rest.ensures in
    let (z, w) = c.copy_records-end.ensures in
    let (u, v) = c.put_node-next.ensures in
    let a = c.args in
    left-of a.table.now a.i a.p (record_bytes a.node a.count) c.requires.0 c.requires.1 u z x v w y
