use Rattle.std.proofs.Common.{◌+◌, arith, rules}
use Rattle.table.proofs.Laws.Tables.{few-records}
use Rattle.subtrees.specs.Facts.{extent_at}
use Rattle.subtrees.specs.Laws.Parts.{past-inside}
use Rattle.rules2to7.specs.Laws.Blocks.{Turn, gather-end, gather-start, gather-turn, next-tree}
use Rattle.rules2to7.proofs.bares_in.Goals.{In-loop-p}
use Rattle.rules2to7.proofs.bares_in.Goals as goal

-- the tree at record p
next : (c : In-loop-p) → let v = c.args.view in Turn v.table.now v.facts.now c.loop-p.p (c.args.i + extent_at v.facts.now c.args.i) c.loop-p.invariant.left
next c = next-tree _ _ c.args.view.sized _ _ c.loop-p.invariant.left c.loop-p-test.true

pub overflow_add-end : goal.overflow_add-end
overflow_add-end c = let v = c.args.view in omega (arith, past-inside _ _ v.sized _ c.requires, few-records v.table.now v.sized.table)

pub loop-p-init : goal.loop-p-init
loop-p-init c = gather-start _ _ c.args.view.sized _ c.requires

pub with_child-found-requires : goal.with_child-found-requires
with_child-found-requires c = let n = next (goal.at.with_child-found-requires c).In-loop-p in search rules

pub offset_bounds-view-p : goal.offset_bounds-view-p
offset_bounds-view-p c = let n = next (goal.at.offset_bounds-view-p c).In-loop-p in search rules

pub bounds-view-p : goal.bounds-view-p
bounds-view-p c = let n = next (goal.at.bounds-view-p c).In-loop-p in search rules

pub overflow_add-p-in-loop-p : goal.overflow_add-p-in-loop-p
overflow_add-p-in-loop-p c =
    let n = next (goal.at.overflow_add-p-in-loop-p c).In-loop-p in
    let v = c.args.view in
    omega (arith, n.extent, n.within, few-records v.table.now v.sized.table)

pub loop-p-smaller : goal.loop-p-smaller
loop-p-smaller c = let n = next (goal.at.loop-p-smaller c).In-loop-p in omega (arith, n.some, n.within)

pub loop-p-preserved : goal.loop-p-preserved
loop-p-preserved c =
    let f = c.with_child-found.ensures in
    gather-turn _ _ c.args.view.sized _ _ _ _ _ c.loop-p.invariant c.loop-p-test.true f.0 f.1 f.2

pub returns : goal.returns
returns c = gather-end _ _ _ _ _ c.loop-p.invariant c.loop-p-test.false
