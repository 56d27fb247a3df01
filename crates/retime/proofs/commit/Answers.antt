use mathlib.Core.Path.{refl, sym}
use Rattle.std.proofs.Common.{rules}
use Rattle.refusals.specs.Laws.{number-some, passed_on}
use Rattle.retime.proofs.Laws.Answering.{commit-no, commit-yes, room}
use Rattle.retime.proofs.commit.Goals as goal

pub returns-in_err-accept : goal.returns-in_err-accept
returns-in_err-accept c =
    let k = commit-no _ _ _ _ (λ i. search rules) (passed_on _ _ c.from_residual.ensures.1) c.in_err-accept.ensures (number-some _) in
    record { answer = k.0; written = k.1.0; promise = k.1.1 }

pub put_value-requires : goal.put_value-requires
put_value-requires c = room _ _ _ _ (sym c.in_ok-accept.ensures)

pub returns : goal.returns
returns c =
    let k = commit-yes _ _ _ _ (λ i. search rules) (sym c.in_ok-accept.ensures) c.put_value.ensures refl in
    record { answer = k.0; written = k.1.0; promise = k.1.1 }
