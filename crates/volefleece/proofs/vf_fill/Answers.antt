use Rattle.fill.specs.Promises.{FillPromises}
use Rattle.volefleece.proofs.vf_fill.Goals as goal

pub returns-clause-promise : goal.returns-clause-promise
unfolding FillPromises
returns-clause-promise c = rw (c.numbers_of-refused.ensures.0, c.numbers_of-refused.ensures.1) c.fill.ensures.promise
