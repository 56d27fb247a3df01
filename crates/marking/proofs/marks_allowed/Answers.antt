use Rattle.std.proofs.Common.{of_calls, refl, eq-eqb}
use Rattle.booleans.specs.Tests.{◌and◌}
use Rattle.marking.specs.Opening.{digit_opens, question16}
use Rattle.marking.specs.Marks.{mark_length}
use Rattle.table.specs.Numbers.{most_records}
use Rattle.std.proofs.Common.{length}
use Rattle.marking.specs.Laws.Opening.{all-tested, other_length}
use Rattle.marking.proofs.marks_allowed.Goals as goal

pub returns-then-marks-ne-MARK_LENGTH : goal.returns-then-marks-ne-MARK_LENGTH
returns-then-marks-ne-MARK_LENGTH c = other_length _ _ _ _ c.if-marks-ne-MARK_LENGTH.true

pub returns : goal.returns
unfolding question16 ◌and◌
returns c =
    let p = digit_opens c.args.symbol c.args.number c.args.table.now c.args.marks.now in
    rw (eq-eqb (length c.args.marks.now) mark_length c.if-marks-ne-MARK_LENGTH.false) (all-tested _ _ _ c.all.result p most_records refl c.all.ensures.ran (λ x b q h. search of_calls))
