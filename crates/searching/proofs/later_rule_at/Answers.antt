-- One rule or else another.
use Rattle.simplify.specs.Rules.{rule5, rule6, rule7, rule8, rule9}
use Rattle.searching.specs.Laws.Search.{from6, from7, from8, later-is, or-none, or_some}
use Rattle.searching.proofs.later_rule_at.Goals as goal

pub returns-in-Some : goal.returns-in-Some
returns-in-Some c = rw later-is (or_some rule5 from6 _ _ _ c.in-Some.ensures)

pub returns-in-Some-rule6_at : goal.returns-in-Some-rule6_at
returns-in-Some-rule6_at c =
    rw later-is (or-none rule5 from6 _ _ _ _ c.in_default.ensures
    (or_some rule6 from7 _ _ _ c.in-Some-rule6_at.ensures))

pub returns-in-Some-rule7_at : goal.returns-in-Some-rule7_at
returns-in-Some-rule7_at c =
    rw later-is (or-none rule5 from6 _ _ _ _ c.in_default.ensures
    (or-none rule6 from7 _ _ _ _ c.in_default-rule6_at.ensures
    (or_some rule7 from8 _ _ _ c.in-Some-rule7_at.ensures)))

pub returns-in-Some-rule8_at : goal.returns-in-Some-rule8_at
returns-in-Some-rule8_at c =
    rw later-is (or-none rule5 from6 _ _ _ _ c.in_default.ensures
    (or-none rule6 from7 _ _ _ _ c.in_default-rule6_at.ensures
    (or-none rule7 from8 _ _ _ _ c.in_default-rule7_at.ensures
    (or_some rule8 rule9 _ _ _ c.in-Some-rule8_at.ensures))))

pub returns : goal.returns
returns c =
    rw later-is (or-none rule5 from6 _ _ _ _ c.in_default.ensures
    (or-none rule6 from7 _ _ _ _ c.in_default-rule6_at.ensures
    (or-none rule7 from8 _ _ _ _ c.in_default-rule7_at.ensures
    (or-none rule8 rule9 _ _ _ _ c.in_default-rule8_at.ensures
    c.rule9_at.ensures))))
