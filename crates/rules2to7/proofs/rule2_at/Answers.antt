-- The first child that gives way is dissolved; where there is none, the rule does not fit.
use Rattle.std.proofs.Common.{◌≡◌, Some, arith, rules}
use Rattle.simplify.specs.Rules.{gives, rule2}
use Rattle.subtrees.specs.Parts.{trees_at}
use Rattle.subtrees.specs.Children.{child_at}
use Rattle.rewrite.specs.Laws.Records.{no-sum}
use Rattle.rules2to7.specs.Laws.Dissolving.{gave-way, giver, giver-counts, giver-few, none-gives, rule2-no-sum}
use Rattle.rules2to7.proofs.rule2_at.Goals.{In_ok-p}
use Rattle.rules2to7.proofs.rule2_at.Goals as goal

pub returns-then-not-is_sum : goal.returns-then-not-is_sum
returns-then-not-is_sum c =
    let v = c.args.view in
    no-sum v.table.now v.sized.table c.args.i c.requires.inside rule2 _ rule2-no-sum c.node_at-node.ensures c.is_sum.ensures c.if-not-is_sum.true

pub returns-in_err-p : goal.returns-in_err-p
returns-in_err-p c =
    let v = c.args.view in
    rw c.from_residual.ensures (none-gives v.table.now v.sized.table c.args.i c.requires.inside _ c.node_at-node.ensures c.children_at-count.ensures.0
    (c.in_err-p.ensures (gives c.node_at-node.result.kind c.children_at-count.result) (λ p r l e. search rules)))

-- the child that was found
found : (c : In_ok-p) → Some c.in_ok-p.p ≡ child_at (gives c.node_at-node.result.kind c.children_at-count.result) c.args.i (trees_at c.args.view.table.now c.args.i)
found c = c.in_ok-p.ensures (gives c.node_at-node.result.kind c.children_at-count.result) (λ p r l e. search rules)

pub children_at-more-requires : goal.children_at-more-requires
children_at-more-requires c =
    let v = c.args.view in
    (giver v.table.now v.sized.table c.args.i c.requires.inside c.node_at-node.ensures c.children_at-count.ensures.0 (found c)).1.inside

pub overflow_sub-all : goal.overflow_sub-all
overflow_sub-all c =
    let v = c.args.view in
    giver-counts v.table.now v.sized.table c.args.i c.requires.inside c.node_at-node.ensures c.children_at-count.ensures.0 (found (goal.at.overflow_sub-all c).In_ok-p) c.children_at-more.ensures.0

pub overflow_cast-all : goal.overflow_cast-all
overflow_cast-all c =
    let v = c.args.view in
    let few = giver-few v.table.now v.sized.table c.args.i c.requires.inside c.node_at-node.ensures c.children_at-count.ensures.0 (found (goal.at.overflow_cast-all c).In_ok-p) c.children_at-more.ensures.0 in
    search (rules, few)

pub dissolve_at-requires : goal.dissolve_at-requires
dissolve_at-requires c =
    let v = c.args.view in
    let (_, g) = giver v.table.now v.sized.table c.args.i c.requires.inside c.node_at-node.ensures c.children_at-count.ensures.0 (found (goal.at.dissolve_at-requires c).In_ok-p) in
    (omega (arith, g.place), g.inside, c.requires.room)

pub returns : goal.returns
returns c =
    let v = c.args.view in
    gave-way v.table.now v.sized.table c.args.i c.requires.inside _ c.node_at-node.ensures c.is_sum.ensures c.if-not-is_sum.false c.children_at-count.ensures.0
    (found (goal.at.returns c).In_ok-p) c.children_at-more.ensures.0 c.dissolve_at.ensures
