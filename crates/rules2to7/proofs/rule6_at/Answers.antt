-- The rule asks for a sequence and two blocks (`Asks`), and the children stand in one row (`all-stand`).
use Rattle.table.specs.declared.Kind.TheVariants.{Sequence}
use Rattle.simplify.specs.Rules.{rule6}
use Rattle.rules2to7.specs.Laws.Blocks.{all-stand, asks-6, rule-unfit, rule6-wrote}
use Rattle.rules2to7.proofs.rule6_at.Goals as goal

pub returns-in_err-found : goal.returns-in_err-found
returns-in_err-found c = rw c.from_residual.ensures (rule-unfit Sequence rule6 _ asks-6 _ c.args.view.sized.table _ c.requires.inside _ c.in_err-found.ensures)

pub merge_bares-requires-clause-parted : goal.merge_bares-requires-clause-parted
merge_bares-requires-clause-parted c = all-stand _ c.args.view.sized.table _ c.requires.inside _ c.in_ok-found.ensures

pub returns : goal.returns
returns c = rule6-wrote _ c.args.view.sized.table _ c.requires.inside _ c.in_ok-found.ensures _ _ c.merge_bares.ensures
