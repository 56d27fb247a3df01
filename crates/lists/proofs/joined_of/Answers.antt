-- `joined_of` is 0 where either count is, and else their sum.
use mathlib.Core.Path.{sym}
use Rattle.lists.proofs.Merges.{joined-both, joined-left, joined-right}
use Rattle.lists.proofs.joined_of.Goals as goal

pub returns-then-x-eq0 : goal.returns-then-x-eq0
returns-then-x-eq0 c = sym (joined-left _ _ c.if-x-eq0.true)

pub returns-then-y-eq0 : goal.returns-then-y-eq0
returns-then-y-eq0 c = sym (joined-right _ _ c.if-y-eq0.true)

pub returns : goal.returns
returns c = sym (joined-both _ _ c.if-x-eq0.false c.if-y-eq0.false)
