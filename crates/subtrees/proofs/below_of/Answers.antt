use Rattle.std.proofs.Common.{arith, rules}
use Rattle.std.proofs.Math.Nat.{sub-zero}
use Rattle.subtrees.specs.Laws.Survey.{walk_end, walk-few, walk-next, walk-past, walk_start}
use Rattle.subtrees.proofs.below_of.Goals as goal

pub loop-init : goal.loop-init
loop-init c =
    rw sub-zero (walk_start c.args.table.now c.requires.table_1 c.args.i _ _ _ c.requires.table_2 c.node_at.ensures c.is_loop-body.ensures c.children_at-end.ensures.0)

pub next_child-found-requires : goal.next_child-found-requires
next_child-found-requires c =
    let l = c.loop in
    walk-few c.args.table.now c.requires.table_1 c.args.facts.now c.args.i c.requires.table_3 _ l.found l.body _ l.p l.invariant (omega arith)

pub overflow_add-p-in-loop : goal.overflow_add-p-in-loop
overflow_add-p-in-loop c =
    let l = c.loop in
    search (rules, walk-past c.args.table.now c.requires.table_1 c.args.facts.now c.args.i c.requires.table_3 _ l.found l.body _ l.p l.invariant (omega arith))

pub loop-preserved : goal.loop-preserved
loop-preserved c =
    let l = c.loop in
    walk-next c.args.table.now c.requires.table_1 c.args.facts.now c.args.i c.requires.table_3 _ l.found l.body _ l.p l.invariant (omega arith) _ (omega arith) _ c.next_child-found.ensures

pub returns : goal.returns
returns c =
    walk_end c.args.table.now c.requires.table_1 c.args.i _ c.loop.found c.loop.body _ c.loop.p c.loop.invariant (omega arith)
