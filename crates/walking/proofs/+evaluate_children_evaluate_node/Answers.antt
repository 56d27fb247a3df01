-- The two functions of the walk: each answer shows what the definition finds.
use Rattle.std.proofs.Common.{◌*◌, arith}
use Rattle.table.specs.Numbers.{record_length}
use Rattle.table.proofs.Laws.Reading.{part-from}
use Rattle.evaluate.specs.Evaluate.{values_of}
use Rattle.walking.proofs.Steps.{node-deep, node-short}
use Rattle.walking.proofs.Walk.{all_done, block-limitable, block-shown, child-ready, children-limitable, children-shown, next-ends, next_fits, none_yet}
use Rattle.walking.proofs.+evaluate_children_evaluate_node.Goals as goal

pub evaluate_children-loop-number-init : goal.evaluate_children-loop-number-init
evaluate_children-loop-number-init t c = none_yet c.requires c.args.kind c.args.count (omega arith) c.repeat.ensures

pub evaluate_children-take_child-requires-clause-fact_2 : goal.evaluate_children-take_child-requires-clause-fact_2
evaluate_children-take_child-requires-clause-fact_2 t c =
    let m = record_length * c.loop-number.done.records in
    let shows = rw (part-from c.args.table.now m) at c.evaluate_node-child.ensures in
    child-ready (values_of c.args.values.now) c.args.depth m c.args.table.now _ _ c.requires shows

pub evaluate_children-returns-in_err-done : goal.evaluate_children-returns-in_err-done
evaluate_children-returns-in_err-done t c =
    let shows = rw (part-from c.args.table.now (record_length * c.loop-number.done.records)) at c.evaluate_node-child.ensures in
    rw c.from_residual.ensures (next-ends c.requires c.loop-number.invariant (omega (arith, c.loop-number-test.true)) _ _ shows c.in_err-done.ensures)

pub evaluate_children-loop-number-preserved : goal.evaluate_children-loop-number-preserved
evaluate_children-loop-number-preserved t c =
    let shows = rw (part-from c.args.table.now (record_length * c.loop-number.done.records)) at c.evaluate_node-child.ensures in
    rw c.rest_of-seen_as.ensures
    (next_fits c.requires c.loop-number.invariant (omega (arith, c.loop-number-test.true)) _ _ shows c.in_ok-done.ensures (omega arith) (omega arith))

pub evaluate_children-returns : goal.evaluate_children-returns
evaluate_children-returns t c = all_done c.requires c.loop-number.invariant (omega (arith, c.loop-number-test.false))

pub evaluate_node-returns-then-depth-eq0 : goal.evaluate_node-returns-then-depth-eq0
evaluate_node-returns-then-depth-eq0 t c = node-deep _ _ _ c.if-depth-eq0.true

pub evaluate_node-returns-then-table-lt-RECORD_LENGTH : goal.evaluate_node-returns-then-table-lt-RECORD_LENGTH
evaluate_node-returns-then-table-lt-RECORD_LENGTH t c = node-short _ _ _ c.if-table-lt-RECORD_LENGTH.true

pub evaluate_node-limit_in-requires : goal.evaluate_node-limit_in-requires
evaluate_node-limit_in-requires t c =
    let a = c.args in
    block-limitable (values_of a.values.now) c.in-Block.time a.table.now _ _ c.requires c.block_in-below.ensures

pub evaluate_node-returns-in-Block : goal.evaluate_node-returns-in-Block
evaluate_node-returns-in-Block t c =
    let a = c.args in
    block-shown (values_of a.values.now) a.depth a.table.now c.read_kind-kind.ensures c.read_limit.ensures c.if-depth-eq0.false c.if-table-lt-RECORD_LENGTH.false _ _ _ _ c.limit_in.ensures
    c.in-Block.time c.in-Block.is c.block_in-below.ensures

pub evaluate_node-limit_in-requires-2 : goal.evaluate_node-limit_in-requires-2
evaluate_node-limit_in-requires-2 t c =
    let a = c.args in
    let shows = rw (part-from a.table.now record_length) at c.evaluate_children-below.ensures in
    children-limitable (values_of a.values.now) _ _ _ record_length a.table.now _ _ c.requires shows

pub evaluate_node-returns : goal.evaluate_node-returns
evaluate_node-returns t c =
    let a = c.args in
    let shows = rw (part-from a.table.now record_length) at c.evaluate_children-below.ensures in
    children-shown (values_of a.values.now) a.depth a.table.now c.read_kind-kind.ensures c.read_limit-2.ensures c.if-depth-eq0.false c.if-table-lt-RECORD_LENGTH.false _ _ _ _ c.limit_in-2.ensures
    _ c.child_count-count.ensures.0 c.in_default.not-Block shows
