use mathlib.Core.Path.{sym, ap, ◌∙◌}
use Rattle.refusals.specs.Laws.{number-some, passed_on}
use Rattle.quoting.specs.Answers.{figure_answer}
use Rattle.deskfiles.proofs.Laws.Files.{whole_length, files-kept, files-whole, files-refused, files-other}
use Rattle.deskfiles.proofs.quote_files.Goals as goal

pub invariant_of-file : goal.invariant_of-file
invariant_of-file c = record { whole = whole_length _ (sym c.values_whole.ensures ∙ c.if-values_whole.true) }

pub returns-then-values_whole : goal.returns-then-values_whole
returns-then-values_whole c =
    let a = c.args in
    let k = files-kept _ _ _
    (c.figure.ensures.answer ∙ ap (figure_answer a.tree.now) c.values.ensures ∙ files-whole _ _ (sym c.values_whole.ensures ∙ c.if-values_whole.true)) in
    record { answer = k.0; promise = k.1 }

pub returns-in_err-accept : goal.returns-in_err-accept
returns-in_err-accept c =
    let k = files-kept _ _ _ (passed_on _ _ c.from_residual.ensures.1 ∙ files-refused _ _ c.in_err-accept.ensures (number-some _)) in
    record { answer = k.0; promise = k.1 }

pub returns : goal.returns
returns c =
    let k = files-kept _ _ _ (files-other _ _ (sym c.values_whole.ensures ∙ c.if-values_whole.false) (sym c.in_ok-accept.ensures)) in
    record { answer = k.0; promise = k.1 }
