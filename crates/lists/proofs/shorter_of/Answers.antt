-- `shorter_of` is the shorter count, by cases on 0.
use mathlib.Core.Path.{◌∙◌, sym}
use Rattle.lists.proofs.Adds.{shorter-both, shorter-none, shorter-only}
use Rattle.lists.proofs.shorter_of.Goals as goal

pub returns-then-c-eq0 : goal.returns-then-c-eq0
returns-then-c-eq0 c = sym (shorter-none _ _ c.if-c-eq0.true)

pub returns-then-d-eq0 : goal.returns-then-d-eq0
returns-then-d-eq0 c = sym (shorter-only _ _ c.if-c-eq0.false c.if-d-eq0.true)

pub returns : goal.returns
returns c = c.min.ensures ∙ sym (shorter-both _ _ c.if-c-eq0.false c.if-d-eq0.false)
