use Rattle.std.proofs.Common.{arith, rules}
use Rattle.subtrees.specs.Parts.{subtree}
use Rattle.table.proofs.Laws.Tables.{few-records, length-is}
use Rattle.rules2to7.specs.Laws.Blocks.{Turn, copy-end, copy-fits, copy_start, copy-turn, kept-few, next-tree}
use Rattle.rules2to7.proofs.copy_others.Goals.{In-loop-p}
use Rattle.rules2to7.proofs.copy_others.Goals as goal

-- the tree at record p
next : (c : In-loop-p) → let v = c.args.view in Turn v.table.now v.facts.now c.loop-p.p c.args.end c.loop-p.invariant.left
next c = next-tree _ _ c.args.view.sized _ _ c.loop-p.invariant.left c.loop-p-test.true

pub loop-p-init : goal.loop-p-init
loop-p-init c = copy_start _ _ _ _ _ c.requires.standing

pub kept-n-requires : goal.kept-n-requires
kept-n-requires c = let n = next (goal.at.kept-n-requires c).In-loop-p in search rules

pub copy_records-to-requires : goal.copy_records-to-requires
copy_records-to-requires c =
    let n = next (goal.at.copy_records-to-requires c).In-loop-p in
    let e = c.kept-n.ensures in
    let v = c.args.view in
    let k = kept-few (subtree v.table.now c.loop-p.p) in (
      omega (arith, n.within, n.bound, n.extent, length-is v.table.now v.sized.table),
      omega (arith, copy-fits _ _ v.sized _ _ _ _ _ _ _ c.loop-p.invariant c.loop-p-test.true, c.loop-p.invariant.long),
    )

pub offset_bounds-view-p : goal.offset_bounds-view-p
offset_bounds-view-p c = let n = next (goal.at.offset_bounds-view-p c).In-loop-p in search rules

pub bounds-view-p : goal.bounds-view-p
bounds-view-p c = let n = next (goal.at.bounds-view-p c).In-loop-p in search rules

pub overflow_add-p : goal.overflow_add-p
overflow_add-p c =
    let n = next (goal.at.overflow_add-p c).In-loop-p in
    let v = c.args.view in
    omega (arith, n.extent, n.within, n.bound, few-records v.table.now v.sized.table)

pub loop-p-smaller : goal.loop-p-smaller
loop-p-smaller c = let n = next (goal.at.loop-p-smaller c).In-loop-p in omega (arith, n.some, n.within)

pub loop-p-preserved : goal.loop-p-preserved
loop-p-preserved c =
    let e = c.copy_records-to.ensures in
    copy-turn _ _ c.args.view.sized _ _ _ _ _ _ _ _ _ _ c.loop-p.invariant c.loop-p-test.true c.kept-n.ensures (search rules) e.0 e.1

pub returns : goal.returns
returns c = copy-end _ _ _ _ _ _ _ _ c.loop-p.invariant c.loop-p-test.false
