use Rattle.rules2to7.specs.Laws.Children.{no_time, zero_time}
use Rattle.rules2to7.proofs.is_zero.Goals as goal

pub returns-in-Some : goal.returns-in-Some
returns-in-Some c = zero_time _ _ c.in-Some.ensures.value

pub returns-in-None : goal.returns-in-None
returns-in-None c = no_time _ c.in-None.ensures.value
