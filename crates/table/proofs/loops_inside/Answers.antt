use Rattle.std.proofs.Common.{add-one, refl, inl, inr}
use Rattle.table.specs.Trees.{around}
use Rattle.table.proofs.loops_inside.Goals as goal

pub returns-in-Block : goal.returns-in-Block
unfolding around
returns-in-Block c = elim c.in-Block.is [ inl e ↦ rw e.1 refl | inr f ↦ elim f [ inl e ↦ rw e refl | inr e ↦ rw e refl ] ]

pub returns-in-Loop : goal.returns-in-Loop
unfolding around
returns-in-Loop c = cc (add-one c.args.outer)
