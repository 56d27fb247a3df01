use Rattle.std.proofs.Common.{◌-◌, arith, rules}
use Rattle.std.proofs.Math.Nat.{sub-zero}
use Rattle.table.proofs.Laws.Tables.{few-records}
use Rattle.rules8and9.specs.Laws.Sharing.{TurnAt, copying-all, copying-next, copying-none, copying-room, copying-turn}
use Rattle.rules8and9.proofs.copy_firsts.Goals.{In-loop}
use Rattle.rules8and9.proofs.copy_firsts.Goals as goal

-- the pair at record q, and where the next one stands
turn : (c : In-loop) → let v = c.args.view in TurnAt v.table.now v.facts.now c.loop.q (c.args.n - c.loop.counter) c.loop.invariant.row
turn c = copying-turn _ _ c.args.view.sized _ _ _ _ _ _ _ _ c.loop.invariant (omega (arith, c.loop-test.true))

pub loop-init : goal.loop-init
loop-init c = rw sub-zero (copying-none _ c.args.view.sized.table _ _ _ _ c.requires.pairs c.requires.room)

pub bounds-view-first : goal.bounds-view-first
bounds-view-first c = (turn (goal.at.bounds-view-first c).In-loop).pair.sized

pub copy_records-to-requires : goal.copy_records-to-requires
copy_records-to-requires c = copying-room _ _ c.args.view.sized _ _ _ _ _ _ _ _ c.loop.invariant (omega arith)

pub overflow_add-q : goal.overflow_add-q
overflow_add-q c =
    let v = c.args.view in
    omega (arith, (turn (goal.at.overflow_add-q c).In-loop).next.within, few-records v.table.now v.sized.table)

pub loop-preserved : goal.loop-preserved
loop-preserved c =
    copying-next _ _ c.args.view.sized _ _ _ _ _ _ _ _ c.loop.invariant (omega arith) _ _
    (search rules) c.copy_records-to.ensures.0 c.copy_records-to.ensures.1 _ (omega arith)

pub returns : goal.returns
returns c = copying-all _ _ _ _ _ _ _ _ _ c.loop.invariant (omega arith)
