use Rattle.quoting.specs.Promises.{ListPromises}
use Rattle.volefleece.proofs.vf_list.Goals as goal

pub returns-clause-promise : goal.returns-clause-promise
unfolding ListPromises
returns-clause-promise c = rw (c.numbers_of-refused.ensures.0, c.numbers_of-refused.ensures.1) c.list.ensures.promise
