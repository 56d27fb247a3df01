-- Without flag 4 there is nothing to ask; else the limit's case says what.
use mathlib.Core.Path.{refl, sym, ◌∙◌}
use Rattle.table.specs.Limits.{limit_holds}
use Rattle.values.specs.Values.{record_small}
use Rattle.values.proofs.Laws.Values.{small-unflagged}
use Rattle.values.proofs.record_small.Goals as goal

pub returns-then-without_four : goal.returns-then-without_four
returns-then-without_four c = sym (small-unflagged _ _ (sym c.without_four.ensures ∙ c.if-without_four.true))

pub returns-in-Unlimited : goal.returns-in-Unlimited
unfolding record_small limit_holds
returns-in-Unlimited c = rw (← c.read_limit-limit.ensures, c.in-Unlimited.is) refl

pub returns-in-AtMost : goal.returns-in-AtMost
unfolding record_small limit_holds
returns-in-AtMost c = rw (← c.read_limit-limit.ensures, c.in-AtMost.is) c.triangle_small.ensures
