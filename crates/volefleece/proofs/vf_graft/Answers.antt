use Rattle.graft.specs.Promises.{GraftPromises}
use Rattle.volefleece.proofs.vf_graft.Goals as goal

pub returns-clause-promise : goal.returns-clause-promise
unfolding GraftPromises
returns-clause-promise c = rw (c.numbers_of-refused.ensures.0, c.numbers_of-refused.ensures.1) c.graft.ensures.promise
