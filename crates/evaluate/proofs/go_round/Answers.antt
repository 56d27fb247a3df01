-- A loop is told its constructor; the others are among those left.
use mathlib.Core.Path.{sym}
use Rattle.evaluate.specs.Evaluator.{gone_round}
use Rattle.evaluate.proofs.Others.{round-other}
use Rattle.evaluate.proofs.go_round.Goals as goal

pub returns-in_default : goal.returns-in_default
returns-in_default c = (c.requires.proper, sym (round-other _ _ _ c.in_default.not-Loop))

pub returns : goal.returns
unfolding gone_round
returns c = rw (c.in-Loop.is, ← c.amount_of.ensures) c.loop_in.ensures
