use Rattle.std.specs.Prelude.{not}
use Rattle.std.proofs.Common.{◌≡◌, ◌∙◌, refl, ℕ}
use Rattle.table.specs.Limits.{limit_holds}
use Rattle.table.specs.contracts.MostPartialEq.TheImpl as most
use Rattle.fill.specs.Answers.{not_under_four}
use Rattle.fill.specs.Nodes.{Most}
use Rattle.fill.proofs.record_free.Goals as goal

-- what the derived equality says of a symbol under flag 4
other : (m : Most) (s : ℕ) → not (most.ghosts.eq m (Most.Triangular s)) ≡ not_under_four s m
unfolding not_under_four
other (Most.Plain n) s = refl
other (Most.Symbol k) s = refl
other (Most.Triangular k) s = refl

pub returns-in-Unlimited : goal.returns-in-Unlimited
unfolding limit_holds
returns-in-Unlimited c = rw (← c.in-Unlimited.ensures) refl

pub returns-in-AtMost : goal.returns-in-AtMost
unfolding limit_holds
returns-in-AtMost c = rw (← c.in-AtMost.ensures) (c.ne.ensures ∙ other c.in-AtMost.most c.args.symbol)
