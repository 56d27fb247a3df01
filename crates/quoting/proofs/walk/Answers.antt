-- Either the values alone are lent, or with their triangular numbers.
use mathlib.Core.Path.{sym, ◌∙◌}
use Rattle.quoting.proofs.Laws.Lent.{free-walked, lent-walked}
use Rattle.quoting.proofs.walk.Goals as goal

pub returns-then-free : goal.returns-then-free
returns-then-free c =
    free-walked _ _ _ _ (sym c.requires.fact_3 ∙ c.if-free.true) c.evaluate.ensures

pub returns : goal.returns
returns c =
    lent-walked _ _ c.requires.fact_2 c.with_triangles.ensures _ _ _ c.evaluate-2.ensures
