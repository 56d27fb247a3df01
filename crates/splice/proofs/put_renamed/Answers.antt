use Rattle.std.proofs.Common.{◌+◌, ◌*◌, ◌<◌, ◌∙◌, arith, drop, get_or-drop, refl, subst, sym}
use Rattle.table.specs.Numbers.{record_length}
use Rattle.table.specs.Table.{child_byte}
use Rattle.table.proofs.Laws.Tables.{few-records}
use Rattle.splice.specs.Laws.Renaming.{Renamed, all_renamed, next-renamed, none-renamed, some-wanted}
use Rattle.splice.proofs.put_renamed.Goals as goal

pub loop-i-init : goal.loop-i-init
loop-i-init c = none-renamed _ _ _ _ refl

pub rename_next-requires-clause-fact_2 : goal.rename_next-requires-clause-fact_2
rename_next-requires-clause-fact_2 c =
    let inv = c.loop-i.invariant in
    (omega (arith, some-wanted _ c.requires.fact_1 _ _ c.loop-i-test.true inv.wanted), omega (arith, inv.wanted.few, c.loop-i-test.true, few-records c.args.sent.now c.requires.fact_1))

pub loop-i-preserved : goal.loop-i-preserved
loop-i-preserved c =
    let b = c.args.sent.now in
    let here = drop (record_length * c.loop-i.i) b in
    let next = c.rename_next in
    let few : child_byte here < 256 = unfold child_byte in rw get_or-drop (omega (arith, c.type_inv.sent (record_length * c.loop-i.i + 2))) in
    subst (λ w. Renamed b next.new.around.ends next.new.around.outer w c.args.at (c.loop-i.i + 1) c.args.out.now next.new.out) (sym next.ensures.around_after.1)
    (next-renamed _ _ _ _ _ _ _ _ (child_byte here) _ _ _ c.requires.fact_1 c.loop-i-test.true c.loop-i.invariant (next.ensures.around_after.0, next.new.around.nested) next.ensures.out_after (refl, few) (next.new.around.roomy ∙ sym c.loop-i.around.roomy) next.auto.out)

pub returns : goal.returns
returns c = (refl, all_renamed _ _ _ _ _ _ _ _ c.requires.fact_1 c.loop-i-test.false c.loop-i.invariant)
