-- Each test is one of the definition's: a choice of at least two (`ChoiceAt`), a pair first (`PairAt`), a closed second child, the same in all.
use Rattle.std.proofs.Common.{ap, not, sym, ◌∙◌, arith}
use Rattle.table.proofs.Laws.Tables.{few-records}
use Rattle.rewrite.specs.Laws.Tests.{equal-kinds}
use Rattle.rules8and9.specs.Laws.Sharing.{ChoiceAt, choice-at, first-no-pair, no-choice, other-read, pair-at, second-open, second-other, second-shared}
use Rattle.rules8and9.proofs.shared_child.Goals.{Else-ne-children_at}
use Rattle.rules8and9.proofs.shared_child.Goals as goal

-- past the first test
choice : (c : Else-ne-children_at) → let a = c.args in ChoiceAt a.view.table.now a.i
choice c =
    choice-at _ _ c.args.view.sized _ c.requires.inside
    (sym (other-read c.args.view.table.now c.args.i c.node_at-node.ensures (c.ne.ensures ∙ ap not (equal-kinds _ _)) c.children_at.ensures.0) ∙ c.if-ne-children_at.false)

pub returns-then-ne-children_at : goal.returns-then-ne-children_at
returns-then-ne-children_at c =
    no-choice _ c.args.view.sized.table _ c.requires.inside
    (sym (other-read c.args.view.table.now c.args.i c.node_at-node.ensures (c.ne.ensures ∙ ap not (equal-kinds _ _)) c.children_at.ensures.0) ∙ c.if-ne-children_at.true)

pub is_pair-requires : goal.is_pair-requires
is_pair-requires c = (choice (goal.at.is_pair-requires c).Else-ne-children_at).inside

pub returns-then-not-is_pair : goal.returns-then-not-is_pair
returns-then-not-is_pair c = first-no-pair (choice (goal.at.returns-then-not-is_pair c).Else-ne-children_at) _ c.is_pair.ensures c.if-not-is_pair.true

pub bounds-view-first : goal.bounds-view-first
bounds-view-first c =
    let x = choice (goal.at.bounds-view-first c).Else-ne-children_at in
    (pair-at _ _ c.args.view.sized _ x.inside (sym c.is_pair.ensures ∙ c.if-not-is_pair.false)).sized

pub overflow_add-second : goal.overflow_add-second
overflow_add-second c =
    let x = choice (goal.at.overflow_add-second c).Else-ne-children_at in
    omega (arith, (pair-at _ _ c.args.view.sized _ x.inside (sym c.is_pair.ensures ∙ c.if-not-is_pair.false)).place, few-records c.args.view.table.now c.args.view.sized.table)

pub offset_bounds-view-second : goal.offset_bounds-view-second
offset_bounds-view-second c =
    let x = choice (goal.at.offset_bounds-view-second c).Else-ne-children_at in
    omega (arith, (pair-at _ _ c.args.view.sized _ x.inside (sym c.is_pair.ensures ∙ c.if-not-is_pair.false)).place, few-records c.args.view.table.now c.args.view.sized.table)

pub bounds-view-second : goal.bounds-view-second
bounds-view-second c =
    let x = choice (goal.at.bounds-view-second c).Else-ne-children_at in
    omega (arith, (pair-at _ _ c.args.view.sized _ x.inside (sym c.is_pair.ensures ∙ c.if-not-is_pair.false)).place, c.args.view.sized.room)

pub returns-then-view-second-ne0 : goal.returns-then-view-second-ne0
returns-then-view-second-ne0 c =
    let x = choice (goal.at.returns-then-view-second-ne0 c).Else-ne-children_at in
    second-open _ _ c.requires.surveyed _ x (pair-at _ _ c.args.view.sized _ x.inside (sym c.is_pair.ensures ∙ c.if-not-is_pair.false)) c.if-view-second-ne0.true

pub all_share-requires-clause-second : goal.all_share-requires-clause-second
all_share-requires-clause-second c =
    let x = choice (goal.at.all_share-requires-clause-second c).Else-ne-children_at in
    (pair-at _ _ c.args.view.sized _ x.inside (sym c.is_pair.ensures ∙ c.if-not-is_pair.false)).place

pub returns-then-not-all_share : goal.returns-then-not-all_share
returns-then-not-all_share c =
    let x = choice (goal.at.returns-then-not-all_share c).Else-ne-children_at in
    second-other _ _ c.requires.surveyed _ x (pair-at _ _ c.args.view.sized _ x.inside (sym c.is_pair.ensures ∙ c.if-not-is_pair.false)) _ c.if-view-second-ne0.false c.all_share.ensures c.if-not-all_share.true

pub returns : goal.returns
returns c =
    let x = choice (goal.at.returns c).Else-ne-children_at in
    second-shared _ _ c.requires.surveyed _ x (pair-at _ _ c.args.view.sized _ x.inside (sym c.is_pair.ensures ∙ c.if-not-is_pair.false)) _ c.if-view-second-ne0.false c.all_share.ensures c.if-not-all_share.false
