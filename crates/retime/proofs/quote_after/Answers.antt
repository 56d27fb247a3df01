use mathlib.Core.Path.{refl, ap, ◌∙◌}
use Rattle.table.specs.Checking.{refusal}
use Rattle.quoting.specs.Answers.{figure_answer}
use Rattle.retime.proofs.Laws.Retimed.{copy-retimed}
use Rattle.retime.proofs.quote_after.Goals as goal

pub quote_checked-requires : goal.quote_checked-requires
quote_checked-requires c =
    ap refusal (copy-retimed _ _ _ _ _ _ _ refl c.requires.fact_1.0 c.write_front.ensures c.put_value.ensures) ∙ c.requires.fact_2

pub returns : goal.returns
returns c =
    let a = c.args in
    c.quote_checked.ensures
    ∙ ap (λ t. figure_answer t a.values.now) (copy-retimed _ _ _ _ _ _ _ refl c.requires.fact_1.0 c.write_front.ensures c.put_value.ensures)
