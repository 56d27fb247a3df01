-- The first unlimited plain block of time 0 is dissolved, and it has no children; where there is none, the rule does not fit.
use Rattle.std.proofs.Common.{arith, rules}
use Rattle.simplify.specs.Rules.{is_zero, rule5}
use Rattle.rewrite.specs.Laws.Records.{no-sum}
use Rattle.rules2to7.specs.Laws.Dissolving.{few-zero, none-zero, rule5-no-sum, zero-child, zero-gone}
use Rattle.rules2to7.proofs.rule5_at.Goals as goal

pub returns-then-not-is_sum : goal.returns-then-not-is_sum
returns-then-not-is_sum c =
    let v = c.args.view in
    no-sum v.table.now v.sized.table c.args.i c.requires.inside rule5 _ rule5-no-sum c.node_at-node.ensures c.is_sum.ensures c.if-not-is_sum.true

pub returns-then-count-lt2 : goal.returns-then-count-lt2
returns-then-count-lt2 c =
    let v = c.args.view in
    few-zero v.table.now v.sized.table c.args.i c.requires.inside _ c.children_at-count.ensures.0 c.if-count-lt2.true

pub returns-in_err-p : goal.returns-in_err-p
returns-in_err-p c =
    let v = c.args.view in
    rw c.from_residual.ensures (none-zero v.table.now v.sized.table c.args.i c.requires.inside _ (c.in_err-p.ensures is_zero (λ p r l e. search rules)))

pub dissolve_at-requires : goal.dissolve_at-requires
dissolve_at-requires c =
    let v = c.args.view in
    let (_, g) = zero-child v.table.now v.sized.table c.args.i c.requires.inside (c.in_ok-p.ensures is_zero (λ p r l e. search rules)) in
    (omega (arith, g.place), g.inside, c.requires.room)

pub returns : goal.returns
returns c =
    let v = c.args.view in
    let (e, few) = c.children_at-count.ensures in
    zero-gone v.table.now v.sized.table c.args.i c.requires.inside _ c.node_at-node.ensures c.is_sum.ensures c.if-not-is_sum.false e few c.if-count-lt2.false
    (c.in_ok-p.ensures is_zero (λ p r l e. search rules)) c.dissolve_at.ensures
