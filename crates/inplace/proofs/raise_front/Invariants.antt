-- Invariant of the loop of `raise_front`: k pairs are raised, and `left` members are still to be (`Fronting`).
use Rattle.std.specs.Prelude.{◌≡◌}
use Rattle.lists.specs.Reading.{count_at}
use Rattle.inplace.proofs.InPlace.{Fronting}
use Rattle.inplace.proofs.raise_front.Given as goal

abbrev pub invariant-loop-k : goal.invariant-loop-k
invariant-loop-k l = let a = l.initial.list in Fronting a l.v l.m l.list.pairs l.k l.left (count_at a.pairs l.k) × (l.list.len ≡ a.len)
