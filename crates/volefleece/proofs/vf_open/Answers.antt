use Rattle.fill.specs.Promises.{OpenPromises}
use Rattle.volefleece.proofs.vf_open.Goals as goal

pub returns-clause-promise : goal.returns-clause-promise
unfolding OpenPromises
returns-clause-promise c = rw (c.numbers_of-refused.ensures.0, c.numbers_of-refused.ensures.1) c.open.ensures.promise
