-- The limit and the number of children are read from the node's own record.
use Rattle.rules8and9.specs.Laws.Sharing.{tops-written}
use Rattle.rules8and9.proofs.put_tops.Goals as goal

pub returns : goal.returns
returns c =
    tops-written _ c.args.view.sized.table _ c.requires.inside _ _ _ _ _ _ c.node_at-node.ensures c.children_at-count.ensures.0 c.put_node-next.ensures.0 c.put_node-next.ensures.1 c.put_node.ensures.0
    c.put_node.ensures.1
