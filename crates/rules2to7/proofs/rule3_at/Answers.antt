-- The child stands at the next record: it is copied from there on, or takes the node's limit.
use Rattle.std.proofs.Common.{arith}
use Rattle.simplify.specs.Rules.{rule3}
use Rattle.rules2to7.specs.Laws.Alone.{child-alone, child-inside, child-limited, many-children, rule3-no-sum}
use Rattle.rewrite.specs.Laws.Records.{no-sum}
use Rattle.rules2to7.proofs.rule3_at.Goals as goal

pub returns-then-not-is_sum : goal.returns-then-not-is_sum
returns-then-not-is_sum c =
    let v = c.args.view in
    no-sum v.table.now v.sized.table c.args.i c.requires.inside rule3 _ rule3-no-sum c.node_at-node.ensures c.is_sum.ensures c.if-not-is_sum.true

pub returns-then-children_at-ne1 : goal.returns-then-children_at-ne1
returns-then-children_at-ne1 c =
    let v = c.args.view in
    many-children v.table.now v.sized.table c.args.i c.requires.inside _ c.children_at.ensures.0 c.if-children_at-ne1.true

pub returns-then-is_unlimited : goal.returns-then-is_unlimited
returns-then-is_unlimited c =
    let v = c.args.view in
    let (r, e) = c.copy_rest.ensures in
    child-alone v.table.now v.sized.table c.args.i c.requires.inside _ c.node_at-node.ensures c.is_sum.ensures c.if-not-is_sum.false
    c.children_at.ensures.0 c.if-children_at-ne1.false c.is_unlimited.ensures c.if-is_unlimited.true (omega arith) e

pub relimit_at-requires-clause-inside : goal.relimit_at-requires-clause-inside
relimit_at-requires-clause-inside c =
    let v = c.args.view in
    child-inside v.table.now v.sized.table c.args.i c.requires.inside c.children_at.ensures.0 c.if-children_at-ne1.false

pub returns : goal.returns
returns c =
    let v = c.args.view in
    child-limited v.table.now v.sized.table c.args.i c.requires.inside _ _ c.node_at-node.ensures c.is_sum.ensures c.if-not-is_sum.false
    c.children_at.ensures.0 c.if-children_at-ne1.false c.is_unlimited.ensures c.if-is_unlimited.false c.relimit_at.ensures
