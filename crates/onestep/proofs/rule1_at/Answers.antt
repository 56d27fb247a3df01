-- By the two tests; the evaluator gives the block's time.
use Rattle.std.proofs.Common.{ap, ◌∙◌, arith}
use Rattle.table.proofs.Laws.Tables.{length-is, not-long}
use Rattle.onestep.specs.Laws.Whole.{block_written, first-is, has-symbol, some-record, that-already}
use Rattle.onestep.proofs.rule1_at.Goals as goal

pub returns-then-not-view : goal.returns-then-not-view
returns-then-not-view c =
    let s = c.requires.simplifiable in
    has-symbol _ s c.args.view.facts.now _ (ap (λ f. f.symbol_free) (c.requires.surveyed.each 0 (some-record _ s))) c.if-not-view.true

pub bounds-view-0 : goal.bounds-view-0
bounds-view-0 c = omega (arith, some-record _ c.requires.simplifiable, c.args.view.sized.room)

pub is_bare-requires : goal.is_bare-requires
is_bare-requires c = record { fact_1 = c.args.view.sized.table; fact_2 = some-record _ c.requires.simplifiable }

pub returns-then-is_bare : goal.returns-then-is_bare
returns-then-is_bare c = that-already _ c.requires.simplifiable _ _ c.is_bare.ensures c.if-is_bare.true

pub evaluate-requires : goal.evaluate-requires
evaluate-requires c = not-long _ c.requires.simplifiable.table

pub put_node-requires : goal.put_node-requires
put_node-requires c =
    let s = c.requires.simplifiable in
    omega (arith, c.requires.room, length-is _ s.table, some-record _ s)

pub returns : goal.returns
returns c =
    let s = c.requires.simplifiable in
    block_written _ s c.args.view.facts.now _ _ _ _ (ap (λ f. f.symbol_free) (c.requires.surveyed.each 0 (some-record _ s))) c.if-not-view.false c.is_bare.ensures c.if-is_bare.false
    (c.value_at.ensures ∙ first-is _ s _ _ c.evaluate.ensures) c.put_node.ensures.0 c.put_node.ensures.1
