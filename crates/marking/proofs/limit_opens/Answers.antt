use Rattle.std.proofs.Common.{rules, ap₂, ◌∙◌}
use Rattle.std.specs.Prelude.{◌&&◌}
use Rattle.marking.specs.Laws.Equal.{plain-most}
use Rattle.marking.specs.Opening.{limit_opens}
use Rattle.marking.proofs.limit_opens.Goals as goal

pub returns-in-Unlimited : goal.returns-in-Unlimited
unfolding limit_opens
returns-in-Unlimited c = search rules

pub returns-in-AtMost : goal.returns-in-AtMost
unfolding limit_opens
returns-in-AtMost c = rw c.in-AtMost.is (ap₂ ◌&&◌ (c.eq.ensures ∙ plain-most c.in-AtMost.most c.args.number) c.most_in_range.ensures)
