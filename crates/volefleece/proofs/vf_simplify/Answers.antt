use mathlib.Core.Path.{ap, ◌∙◌}
use Rattle.refusals.specs.Refusals.{refused}
use Rattle.simplifying.specs.Answers.{simplified_finished, simplified_length, simplified_steps}
use Rattle.volefleece.proofs.vf_simplify.Goals as goal

pub returns-in-Ok-clause-answer : goal.returns-in-Ok-clause-answer
unfolding simplified_finished simplified_length simplified_steps
returns-in-Ok-clause-answer c =
    let h = c.in-Ok.ensures in
    record {
      refused = ap refused h.answer;
      length = ap simplified_length h.answer;
      steps = ap simplified_steps h.answer;
      finished = c.from.ensures ∙ ap simplified_finished h.answer;
    }

pub returns-in-Err-clause-answer : goal.returns-in-Err-clause-answer
unfolding simplified_finished simplified_length simplified_steps
returns-in-Err-clause-answer c =
    let h = c.in-Err.ensures in
    record {
      refused = c.from-in-Err.ensures ∙ ap refused h.answer;
      length = ap simplified_length h.answer;
      steps = ap simplified_steps h.answer;
      finished = ap simplified_finished h.answer;
    }
