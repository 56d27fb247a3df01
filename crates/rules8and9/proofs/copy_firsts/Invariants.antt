-- The invariant: what is written, and then the first children of the pairs that are left, come to all (`Copying`).
use Rattle.std.proofs.Common.{◌-◌}
use Rattle.rules8and9.specs.Laws.Sharing.{Copying}
use Rattle.rules8and9.proofs.copy_firsts.Given as goal

abbrev pub invariant-loop : goal.invariant-loop
invariant-loop l = Copying l.view.table.now l.p l.n l.at l.initial.out l.q (l.n - l.counter) l.to l.out
