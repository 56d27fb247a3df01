use native.Mathlib.Omega.{arith}
use borrow.Author.Rules.{rules}
use Rattle.lists.proofs.Copies.{copy-last, copy-turn}
use Rattle.lists.proofs.List.copy_from.Goals as goal

pub loop-k-init : goal.loop-k-init
loop-k-init c = record { asked = c.requires; inside = search rules; long = search rules; values = λ j l. absurd (omega arith); counts = λ j l. absurd (omega arith) }

pub loop-k-preserved : goal.loop-k-preserved
loop-k-preserved c = rw c.put_pair.ensures (copy-turn c.loop-k.invariant c.loop-k-test.true c.value_at.ensures c.count_at.ensures)

pub returns : goal.returns
returns c = copy-last c.loop-k.invariant c.loop-k-test.false
