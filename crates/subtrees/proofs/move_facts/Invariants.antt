-- The invariant: k records' facts were moved.
use Rattle.std.proofs.Common.{◌≡◌, length}
use Rattle.subtrees.specs.Laws.Survey.{Moving}
use Rattle.subtrees.proofs.move_facts.Given as goal

abbrev pub invariant-loop-k : goal.invariant-loop-k
invariant-loop-k l = record { moved : Moving l.from l.to l.k l.initial.facts l.facts; long : length l.facts ≡ length l.initial.facts }
