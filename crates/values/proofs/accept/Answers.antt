use Rattle.std.specs.Prelude.{not}
use Rattle.std.proofs.Math.Path.{ap}
use mathlib.Core.Path.{refl, sym, ◌∙◌}
use borrow.Author.Tests.{not-false, not-true}
use Rattle.table.specs.Asking.{first_no}
use Rattle.values.specs.Values.{value_questions, values_refusal}
use Rattle.values.proofs.accept.Goals as goal

pub returns-then-not-values_allowed : goal.returns-then-not-values_allowed
unfolding values_refusal value_questions first_no
returns-then-not-values_allowed c = rw (sym c.values_allowed.ensures ∙ not-true _ (ap not c.if-not-values_allowed.true)) refl

pub returns-then-not-triangles_small : goal.returns-then-not-triangles_small
unfolding values_refusal value_questions first_no
returns-then-not-triangles_small c =
    rw (
      sym c.values_allowed.ensures ∙ not-false _ (ap not c.if-not-values_allowed.false),
      sym c.triangles_small.ensures ∙ not-true _ (ap not c.if-not-triangles_small.true),
    ) refl

pub returns-then-not-laters_low : goal.returns-then-not-laters_low
unfolding values_refusal value_questions first_no
returns-then-not-laters_low c =
    rw (
      sym c.values_allowed.ensures ∙ not-false _ (ap not c.if-not-values_allowed.false),
      sym c.triangles_small.ensures ∙ not-false _ (ap not c.if-not-triangles_small.false),
      sym c.laters_low.ensures ∙ not-true _ (ap not c.if-not-laters_low.true),
    ) refl

pub returns : goal.returns
unfolding values_refusal value_questions first_no
returns c =
    rw (
      sym c.values_allowed.ensures ∙ not-false _ (ap not c.if-not-values_allowed.false),
      sym c.triangles_small.ensures ∙ not-false _ (ap not c.if-not-triangles_small.false),
      sym c.laters_low.ensures ∙ not-false _ (ap not c.if-not-laters_low.false),
    ) refl
