-- Invariant of the loop of `cap`: k pairs lie before the limit, and what is left of it falls on the rest (`Capping`). Nothing is stored yet.
use Rattle.std.specs.Prelude.{◌≡◌}
use Rattle.lists.specs.Reading.{count_at}
use Rattle.lists.proofs.Caps.{Capping}
use Rattle.lists.proofs.List.cap.Given as goal

abbrev pub invariant-loop-k : goal.invariant-loop-k
invariant-loop-k l = let a = l.initial.self in (l.self ≡ a) × Capping a l.m l.k l.left (count_at a.pairs l.k)
