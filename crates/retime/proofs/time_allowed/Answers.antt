use native.Mathlib.Omega.{arith}
use Rattle.retime.proofs.Laws.Answering.{at-record, past-last}
use Rattle.retime.proofs.time_allowed.Goals as goal

pub returns-then-n-place : goal.returns-then-n-place
returns-then-n-place c = past-last _ _ _ _ (omega arith)

pub returns : goal.returns
returns c = at-record _ _ _ _ (omega arith) c.node_at-node.ensures c.is_time.ensures
