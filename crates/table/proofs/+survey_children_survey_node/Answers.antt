-- The two functions of the walk: each survey is the definition's, and small enough to add to.
use Rattle.std.proofs.Common.{◌≡◌, Some, ap, ◌∙◌, ◌+◌, ◌*◌, ◌-◌, arith}
use Rattle.table.specs.Numbers.{record_length}
use Rattle.table.specs.Survey.{survey_node}
use Rattle.table.proofs.Laws.Reading.{part-from}
use Rattle.table.proofs.Laws.Survey.{node-deep, node-short, node-looped, node-read, more-done, more-unfit, more-fits, small-next}
use Rattle.table.proofs.+survey_children_survey_node.Goals as goal

pub survey_children-returns-in_err-child-clause-value : goal.survey_children-returns-in_err-child-clause-value
survey_children-returns-in_err-child-clause-value t c =
    let l = c.loop-i in
    let none = rw (part-from c.args.table.now (record_length * l.found.records)) at c.in_err-child.ensures.value in
    c.from_residual.ensures ∙ more-unfit (survey_node c.args.depth) l.outer c.args.others c.args.table.now l.found (c.args.count - l._i) (omega (arith, c.loop-i-test.true)) none ∙ l.invariant.1

pub survey_children-loop-i-preserved : goal.survey_children-loop-i-preserved
survey_children-loop-i-preserved t c =
    let l = c.loop-i in
    let part = part-from c.args.table.now (record_length * l.found.records) in
    let child = c.in_ok-child in
    let small = small-next c.args.table.now l.found child.child l.invariant.0 (rw part at child.ensures.small) in
    let fewer : c.args.count - l._i ≡ c.args.count - (l._i + 1) + 1 = omega (arith, c.loop-i-test.true) in
    let whole = more-fits (survey_node c.args.depth) l.outer c.args.others c.args.table.now l.found _ _ child.child fewer (rw part at child.ensures.value) in
    (rw c.with_next-found.ensures small, rw c.with_next-found.ensures (whole ∙ l.invariant.1))

pub survey_children-returns-clause-value : goal.survey_children-returns-clause-value
survey_children-returns-clause-value t c =
    let l = c.loop-i in
    more-done (survey_node c.args.depth) l.outer c.args.others (c.args.count - l._i) c.args.table.now l.found (omega (arith, c.loop-i-test.false)) ∙ l.invariant.1

pub survey_node-returns-then-depth-eq0-clause-value : goal.survey_node-returns-then-depth-eq0-clause-value
survey_node-returns-then-depth-eq0-clause-value t c = node-deep _ _ _ c.if-depth-eq0.true

pub survey_node-returns-then-table-lt-RECORD_LENGTH-clause-value : goal.survey_node-returns-then-table-lt-RECORD_LENGTH-clause-value
survey_node-returns-then-table-lt-RECORD_LENGTH-clause-value t c = node-short _ _ _ c.if-table-lt-RECORD_LENGTH.true

pub survey_node-returns-then-outer-gt-MOST_LOOPS-clause-value : goal.survey_node-returns-then-outer-gt-MOST_LOOPS-clause-value
survey_node-returns-then-outer-gt-MOST_LOOPS-clause-value t c = node-looped _ _ _ c.if-table-lt-RECORD_LENGTH.false c.if-outer-gt-MOST_LOOPS.true

pub survey_node-returns-in_err-below-clause-value : goal.survey_node-returns-in_err-below-clause-value
survey_node-returns-in_err-below-clause-value t c =
    let read = node-read _ _ _ _ c.args.table.now _ _ c.if-depth-eq0.false c.if-table-lt-RECORD_LENGTH.false c.if-outer-gt-MOST_LOOPS.false in
    c.from_residual.ensures ∙ read c.read_node-node.ensures c.loops_inside-first.ensures c.child_count-count.ensures.0 c.in_err-below.ensures.value

pub survey_node-returns-clause-value : goal.survey_node-returns-clause-value
survey_node-returns-clause-value t c =
    let read = node-read _ _ _ _ c.args.table.now _ _ c.if-depth-eq0.false c.if-table-lt-RECORD_LENGTH.false c.if-outer-gt-MOST_LOOPS.false in
    ap Some c.with_parent.ensures.0 ∙ read c.read_node-node.ensures c.loops_inside-first.ensures c.child_count-count.ensures.0 c.in_ok-below.ensures.value
