-- Invariant of the loop of `insert_in`: the pairs from j on stand one place further (`Inserting`).
use Rattle.std.specs.Prelude.{◌≡◌}
use Rattle.inplace.proofs.InPlace.{Inserting}
use Rattle.inplace.proofs.insert_in.Given as goal

abbrev pub invariant-loop-j : goal.invariant-loop-j
invariant-loop-j l = let a = l.initial.list in Inserting a.pairs a.len l.k l.list.pairs l.j × (l.list.len ≡ a.len)
