use Rattle.std.proofs.Common.{arith, rules}
use Rattle.std.proofs.Math.Nat.{sub-zero}
use Rattle.table.proofs.Laws.Tables.{few-records}
use Rattle.subtrees.specs.Laws.Children.{look-first, look-found, look-next, look-turn, look_none}
use Rattle.subtrees.proofs.View.first_child.Goals as goal

pub loop-init : goal.loop-init
loop-init g c = let v = c.args.self in rw sub-zero (look-first v.table.now v.facts.now v.sized _ c.args.i _ c.requires.inside c.children_at-end.ensures.0)

pub returns-then-wanted : goal.returns-then-wanted
returns-then-wanted g c = let v = c.args.self in look-found v.table.now v.facts.now v.sized _ c.args.i _ c.loop.p c.loop.invariant (omega arith) c.if-wanted.ensures

pub overflow_add-p-in-loop : goal.overflow_add-p-in-loop
overflow_add-p-in-loop g c =
    let v = c.args.self in
    let n = look-turn v.table.now v.facts.now v.sized _ c.args.i _ c.loop.p c.loop.invariant (omega arith) in
    search (rules, n.within, few-records v.table.now v.sized.table)

pub loop-preserved : goal.loop-preserved
loop-preserved g c = let v = c.args.self in look-next v.table.now v.facts.now v.sized _ c.args.i _ c.loop.p c.loop.invariant (omega arith) _ (omega arith) c.if-wanted.ensures

pub returns : goal.returns
returns g c = let v = c.args.self in look_none v.table.now v.facts.now v.sized _ c.args.i _ c.loop.p c.loop.invariant (omega arith)
