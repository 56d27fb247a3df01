-- The constant list is stored, and checked.
use Rattle.evaluate.proofs.repeat_in.Goals as goal

pub returns : goal.returns
returns c = rw (← c.repeat.ensures.pairs) c.check_top.ensures
