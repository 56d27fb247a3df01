-- The invariant: so many steps were made.
use Rattle.std.proofs.Common.{◌≡◌, length, take}
use Rattle.stepping.specs.Laws.Budget.{Stage}
use Rattle.stepping.proofs.steps_in.Given as goal

abbrev pub invariant-loop-taken : goal.invariant-loop-taken
invariant-loop-taken l = record {
  stage : Stage (take l.len l.initial.work) l.allowance l.work l.n l.taken l.facts l.at;
  work_as_long : length l.work ≡ length l.initial.work;
  facts_as_long : length l.facts ≡ length l.initial.facts;
  spare_as_long : length l.spare ≡ length l.initial.spare;
}
