use mathlib.Core.Path.{ap, ◌∙◌}
use Rattle.refusals.specs.Refusals.{refused}
use Rattle.retime.specs.Answers.{previewed_after, previewed_before, previewed_branch_after, previewed_branch_before}
use Rattle.retime.specs.Promises.{PreviewPromises}
use Rattle.volefleece.proofs.vf_preview.Goals as goal

pub returns-in-Ok : goal.returns-in-Ok
unfolding PreviewPromises previewed_after previewed_before previewed_branch_after previewed_branch_before
returns-in-Ok c =
    let h = c.in-Ok.ensures in
    record {
      answer = record {
        refused = ap refused h.answer;
        before = ap previewed_before h.answer;
        branch_before = ap previewed_branch_before h.answer;
        after = ap previewed_after h.answer;
        branch_after = ap previewed_branch_after h.answer;
      };
      promise = h.promise;
    }

pub returns-in-Err : goal.returns-in-Err
unfolding PreviewPromises previewed_after previewed_before previewed_branch_after previewed_branch_before
returns-in-Err c =
    let h = c.in-Err.ensures in
    record {
      answer = record {
        refused = c.from.ensures ∙ ap refused h.answer;
        before = ap previewed_before h.answer;
        branch_before = ap previewed_branch_before h.answer;
        after = ap previewed_after h.answer;
        branch_after = ap previewed_branch_after h.answer;
      };
      promise = rw c.from.ensures h.promise;
    }
