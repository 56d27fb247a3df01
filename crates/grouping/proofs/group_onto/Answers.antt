-- By n: the zero list, or the groups of n.
use Rattle.lists.specs.Reading.{pairs_of}
use Rattle.lists.specs.Laws.Group.{group-none, group-some}
use Rattle.grouping.proofs.group_onto.Goals as goal

pub returns-then-n-eq0 : goal.returns-then-n-eq0
returns-then-n-eq0 c = rw (group-none _ (pairs_of c.args.list.now) c.if-n-eq0.true) c.repeat.ensures

pub returns : goal.returns
returns c = rw (group-some _ (pairs_of c.args.list.now) c.if-n-eq0.false) c.group_from.ensures
