use Rattle.std.proofs.Common.{refl, arith, rules}
use Rattle.subtrees.specs.Laws.Parts.{extent-some, past-inside}
use Rattle.table.proofs.Laws.Tables.{few-records}
use Rattle.searching.specs.Laws.Found.{passed_over, placed, quiet_next, quiet_none}
use Rattle.searching.specs.Laws.Search.{sought-end, sought-found, sought-next, sought-none}
use Rattle.searching.proofs.find.Goals as goal

pub loop-i-init : goal.loop-i-init
loop-i-init c = record { sought = sought-none _; quiet = quiet_none _; long = refl }

pub overflow_add-end : goal.overflow_add-end
overflow_add-end c = let v = c.args.view in search (rules, past-inside _ _ v.sized _ c.loop-i-test.true, few-records v.table.now v.sized.table)

pub loop-i-smaller-then-end-at : goal.loop-i-smaller-then-end-at
loop-i-smaller-then-end-at c =
    omega (arith, c.loop-i-test.true, extent-some _ _ c.args.view.sized _ c.loop-i-test.true)

pub loop-i-preserved-then-end-at : goal.loop-i-preserved-then-end-at
loop-i-preserved-then-end-at c =
    let l = c.loop-i.invariant in
    let past = passed_over _ _ c.args.view.sized _ c.requires.settled _ c.loop-i-test.true (omega (arith, c.if-end-at.true)) l.sought l.quiet in
    record { sought = past.0; quiet = past.1; long = l.long }

pub returns-in-Some-clause-rewritten : goal.returns-in-Some-clause-rewritten
returns-in-Some-clause-rewritten c = sought-found _ c.args.view.sized.table _ _ _ c.loop-i-test.true c.loop-i.invariant.sought c.in-Some.ensures

pub returns-in-Some-clause-found : goal.returns-in-Some-clause-found
returns-in-Some-clause-found c = placed _ _ c.args.view.sized _ _ _ c.loop-i-test.true c.loop-i.invariant.quiet c.in-Some.ensures

pub loop-i-preserved : goal.loop-i-preserved
loop-i-preserved c =
    let s = c.args.view.sized.table in
    let i = c.loop-i.invariant in
    let l = c.loop-i-test.true in
    record {
      sought = sought-next _ s _ _ l i.sought c.in_default.ensures;
      quiet = quiet_next _ s _ l _ i.quiet c.in_default.ensures;
      long = search rules;
    }

pub returns-clause-rewritten : goal.returns-clause-rewritten
returns-clause-rewritten c = sought-end _ c.args.view.sized.table _ _ c.loop-i-test.false c.loop-i.invariant.sought
