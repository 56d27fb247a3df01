use borrow.Author.Rules.{rules}
use Rattle.table.specs.Survey.{listed_share}
use Rattle.table.proofs.limit_share.Goals as goal

pub returns-in-Unlimited : goal.returns-in-Unlimited
unfolding listed_share
returns-in-Unlimited c = search rules

pub returns-in-AtMost : goal.returns-in-AtMost
unfolding listed_share
returns-in-AtMost c = rw c.in-AtMost.is c.name_share.ensures
