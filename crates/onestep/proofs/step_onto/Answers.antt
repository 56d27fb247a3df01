-- Rule 1, or else the search.
use Rattle.onestep.specs.Laws.Whole.{by-rule1, by-search, placed-whole}
use Rattle.onestep.proofs.step_onto.Goals as goal

pub returns-in-Some-clause-rewritten : goal.returns-in-Some-clause-rewritten
returns-in-Some-clause-rewritten c = by-rule1 _ c.requires.simplifiable _ _ c.in-Some.ensures

pub returns-in-Some-clause-found : goal.returns-in-Some-clause-found
returns-in-Some-clause-found c = placed-whole _ c.requires.simplifiable _ c.args.view.sized _ _ c.in-Some.ensures

pub returns-clause-rewritten : goal.returns-clause-rewritten
returns-clause-rewritten c = by-search _ c.requires.simplifiable _ _ _ c.in_default.ensures c.find.ensures.rewritten
