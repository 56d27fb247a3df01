use Rattle.splice.specs.Laws.Splicing.{place-parts}
use Rattle.splice.proofs.put_place.Goals as goal

pub returns : goal.returns
returns c =
    place-parts _ _ _ _ _ _ _ _ _ _ _ _ c.put_node-first.ensures c.put_sent-end.ensures c.put_node.ensures
