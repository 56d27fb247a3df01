-- One and the same record, or as many records and each the same but for its address: the same tree.
use Rattle.rules8and9.specs.Laws.Comparing.{other-sizes, same-bytes, same_place, same-room}
use Rattle.rules8and9.proofs.same_subtrees.Goals as goal

pub returns-then-a-b : goal.returns-then-a-b
returns-then-a-b c = same_place _ _ c.args.view.sized _ _ c.requires.one c.requires.other c.if-a-b.true

pub returns-then-n-view : goal.returns-then-n-view
returns-then-n-view c = other-sizes _ _ c.args.view.sized _ _ c.requires.one c.requires.other c.if-n-view.true

pub same_records-requires : goal.same_records-requires
same_records-requires c = same-room _ _ c.args.view.sized _ _ c.requires.one c.requires.other c.if-n-view.false

pub returns : goal.returns
returns c = same-bytes _ _ c.args.view.sized _ _ c.requires.one c.requires.other _ c.if-n-view.false c.same_records.ensures
