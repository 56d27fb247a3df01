-- One rule or else another.
use Rattle.simplify.specs.Rules.{rule2, rule3, rule4}
use Rattle.searching.specs.Rewritten.{later_rule}
use Rattle.searching.specs.Laws.Search.{block_at, from3, from4, or-none, or_some, rule-is}
use Rattle.searching.proofs.rule_at.Goals as goal

pub returns-then-is_block : goal.returns-then-is_block
returns-then-is_block c = block_at _ c.args.view.sized.table _ _ c.requires.inside c.node_at.ensures c.is_block.ensures c.if-is_block.true

pub returns-in-Some : goal.returns-in-Some
returns-in-Some c = rw rule-is (or_some rule2 from3 _ _ _ c.in-Some.ensures)

pub returns-in-Some-rule3_at : goal.returns-in-Some-rule3_at
returns-in-Some-rule3_at c =
    rw rule-is (or-none rule2 from3 _ _ _ _ c.in_default.ensures
    (or_some rule3 from4 _ _ _ c.in-Some-rule3_at.ensures))

pub returns-in-Some-rule4_at : goal.returns-in-Some-rule4_at
returns-in-Some-rule4_at c =
    rw rule-is (or-none rule2 from3 _ _ _ _ c.in_default.ensures
    (or-none rule3 from4 _ _ _ _ c.in_default-rule3_at.ensures
    (or_some rule4 later_rule _ _ _ c.in-Some-rule4_at.ensures)))

pub returns : goal.returns
returns c =
    rw rule-is (or-none rule2 from3 _ _ _ _ c.in_default.ensures
    (or-none rule3 from4 _ _ _ _ c.in_default-rule3_at.ensures
    (or-none rule4 later_rule _ _ _ _ c.in_default-rule4_at.ensures c.later_rule_at.ensures)))
