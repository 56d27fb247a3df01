-- The rule asks for a choice and two blocks (`Asks`), and the children stand in two rows (`two-parted`).
use Rattle.std.proofs.Common.{rules}
use Rattle.table.specs.declared.Kind.TheVariants.{Choice}
use Rattle.simplify.specs.Rules.{bare, rule7}
use Rattle.rules2to7.specs.Laws.Blocks.{asks-7, rule-unfit, rule7-wrote, some-bare, two-found, two-parted}
use Rattle.rules2to7.proofs.rule7_at.Goals as goal

pub returns-in_err-found : goal.returns-in_err-found
returns-in_err-found c = rw c.from_residual.ensures (rule-unfit Choice rule7 _ asks-7 _ c.args.view.sized.table _ c.requires.inside _ c.in_err-found.ensures)

pub returns-in_err-first : goal.returns-in_err-first
returns-in_err-first c =
    let s = c.args.view.sized.table in let (e, m) = two-found _ s _ c.requires.inside Choice _ c.in_ok-found.ensures in
    absurd (some-bare _ s _ c.requires.inside _ e m (c.in_err-first.ensures bare (λ p r l e. search rules)))

pub merge_bares-requires-clause-parted : goal.merge_bares-requires-clause-parted
merge_bares-requires-clause-parted c =
    let s = c.args.view.sized.table in let (e, m) = two-found _ s _ c.requires.inside Choice _ c.in_ok-found.ensures in
    two-parted _ s _ c.requires.inside _ e m _ (c.in_ok-first.ensures bare (λ p r l e. search rules))

pub returns : goal.returns
returns c =
    rule7-wrote _ c.args.view.sized.table _ c.requires.inside _ c.in_ok-found.ensures _ (c.in_ok-first.ensures bare (λ p r l e. search rules)) _ _ c.merge_bares.ensures
