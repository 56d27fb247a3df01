use Rattle.subtrees.specs.Laws.Parts.{here-at}
use Rattle.rewrite.specs.Laws.Tests.{limited-time, low-time, some-time}
use Rattle.rewrite.proofs.bare_time.Goals as goal

pub returns-then-not-is_unlimited-clause-value : goal.returns-then-not-is_unlimited-clause-value
returns-then-not-is_unlimited-clause-value c =
    limited-time _ _ (here-at _ c.requires.fact_1 c.args.p c.requires.fact_2) c.node_at-node.ensures c.is_unlimited.ensures c.if-not-is_unlimited.true

pub returns-clause-value : goal.returns-clause-value
returns-clause-value c =
    some-time _ _ (here-at _ c.requires.fact_1 c.args.p c.requires.fact_2) c.node_at-node.ensures c.is_unlimited.ensures c.if-not-is_unlimited.false c.plain_time.ensures

pub returns-clause-low : goal.returns-clause-low
returns-clause-low c =
    let h = here-at _ c.requires.fact_1 c.args.p c.requires.fact_2 in
    rw (some-time _ _ h c.node_at-node.ensures c.is_unlimited.ensures c.if-not-is_unlimited.false c.plain_time.ensures) (low-time _ _ h)
