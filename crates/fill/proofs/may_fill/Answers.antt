use Rattle.std.specs.Prelude.{not}
use Rattle.std.proofs.Math.Path.{ap}
use Rattle.std.proofs.Common.{of_calls}
use Rattle.fill.specs.Answers.{record_free}
use Rattle.fill.proofs.Laws.Asking.{number-no, number-told, number-yes, records-told}
use Rattle.fill.proofs.may_fill.Goals as goal

pub returns-then-not-is_fillable-number : goal.returns-then-not-is_fillable-number
returns-then-not-is_fillable-number c = number-no _ _ _ _ (number-told _ _ _ _ c.is_fillable.ensures c.ceiling_of-most.ensures) (ap not c.if-not-is_fillable-number.true)

pub returns : goal.returns
returns c =
    let allowed = number-yes _ _ _ (number-told _ _ _ _ c.is_fillable.ensures c.ceiling_of-most.ensures) (ap not c.if-not-is_fillable-number.false) in
    records-told _ _ _ allowed _ (c.every_record.ensures (record_free c.args.symbol) (λ b r l h. search of_calls))
