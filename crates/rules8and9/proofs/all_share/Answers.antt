use Rattle.std.proofs.Common.{not, rules}
use Rattle.subtrees.specs.Parts.{subtree}
use Rattle.rules8and9.specs.Sharing.{sharing}
use Rattle.rules8and9.specs.Laws.Sharing.{all-by}
use Rattle.rules8and9.proofs.all_share.Goals as goal

pub returns : goal.returns
returns c =
    let b = c.args.view.table.now in
    all-by b c.args.view.sized.table c.args.i c.args.second c.requires.inside
    (c.first_child-other.ensures (λ t. not (sharing (subtree b c.args.second) t)) (λ p r l e. search rules)) c.is_none.ensures
