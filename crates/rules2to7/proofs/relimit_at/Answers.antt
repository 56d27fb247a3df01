-- The record is put with the new limit, and what stands after it is copied.
use Rattle.std.proofs.Common.{ap, ◌∙◌, arith}
use Rattle.table.specs.Table.{record_bytes}
use Rattle.rules2to7.specs.Laws.Alone.{limited, unlimited}
use Rattle.rules2to7.proofs.relimit_at.Goals as goal

pub returns-then-not-is_unlimited : goal.returns-then-not-is_unlimited
returns-then-not-is_unlimited c =
    limited _ c.args.view.sized.table c.args.p c.requires.inside c.args.limit _ c.node_at-own.ensures c.is_unlimited.ensures c.if-not-is_unlimited.true

pub returns : goal.returns
returns c =
    let (r, e) = c.copy_rest.ensures in
    let (n, f) = c.put_node-next.ensures in
    unlimited _ c.args.view.sized.table c.args.p c.requires.inside c.args.limit _ c.node_at-own.ensures c.is_unlimited.ensures c.if-not-is_unlimited.false
    (omega arith) (f ∙ ap (record_bytes _) c.children_at-count.ensures.0) e
