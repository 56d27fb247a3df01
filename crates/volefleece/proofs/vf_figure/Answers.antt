use mathlib.Core.Path.{ap, ◌∙◌}
use Rattle.refusals.specs.Refusals.{refused}
use Rattle.quoting.specs.Promises.{Promises}
use Rattle.quoting.specs.Answers.{quoted_branch, quoted_figure}
use Rattle.quoting.specs.Branches.{BranchPromises}
use Rattle.volefleece.proofs.vf_figure.Goals as goal

pub returns-in-Ok : goal.returns-in-Ok
unfolding Promises BranchPromises quoted_figure quoted_branch
returns-in-Ok c =
    let h = c.in-Ok.ensures in
    record {
      promise = h.promise;
      answer = (ap refused h.answer, (ap quoted_figure h.answer, ap quoted_branch h.answer));
      branch = h.branch;
      rising = h.rising;
    }

-- a refusal's promises are about its number
pub returns-in-Err-clause-answer : goal.returns-in-Err-clause-answer
unfolding quoted_figure quoted_branch
returns-in-Err-clause-answer c =
    let h = c.in-Err.ensures in
    (c.from.ensures ∙ ap refused h.answer, (ap quoted_figure h.answer, ap quoted_branch h.answer))
