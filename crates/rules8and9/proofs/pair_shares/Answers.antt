-- A pair's second child stands past its first (`PairAt`).
use Rattle.std.proofs.Common.{sym, ◌∙◌, arith}
use Rattle.table.proofs.Laws.Tables.{few-records}
use Rattle.rules8and9.specs.Laws.Sharing.{PairAt, no-pair, pair-at, pair_same}
use Rattle.rules8and9.proofs.pair_shares.Goals.{Else-not-is_pair}
use Rattle.rules8and9.proofs.pair_shares.Goals as goal

-- past the first test
found : (c : Else-not-is_pair) → let a = c.args in PairAt a.view.table.now a.view.facts.now a.p
found c = pair-at _ _ c.args.view.sized _ c.requires.pair (sym c.is_pair.ensures ∙ c.if-not-is_pair.false)

pub returns-then-not-is_pair : goal.returns-then-not-is_pair
returns-then-not-is_pair c = no-pair _ _ _ c.is_pair.ensures c.if-not-is_pair.true

pub bounds-view-first : goal.bounds-view-first
bounds-view-first c = (pair-at _ _ c.args.view.sized _ c.requires.pair (sym c.is_pair.ensures ∙ c.if-not-is_pair.false)).sized

pub overflow_add-first-2 : goal.overflow_add-first-2
overflow_add-first-2 c = let v = c.args.view in omega (arith, (found (goal.at.overflow_add-first-2 c).Else-not-is_pair).place, few-records v.table.now v.sized.table)

pub same_subtrees-requires-clause-one : goal.same_subtrees-requires-clause-one
same_subtrees-requires-clause-one c = (found (goal.at.same_subtrees-requires-clause-one c).Else-not-is_pair).place

pub returns : goal.returns
returns c = pair_same _ _ _ _ _ c.is_pair.ensures c.if-not-is_pair.false (found (goal.at.returns c).Else-not-is_pair).second c.same_subtrees.ensures
