-- Invariant of the loop of `raise_in`: k pairs are raised, and the rest are as they were (`Raising`).
use Rattle.std.specs.Prelude.{◌≡◌}
use Rattle.lists.specs.Pairs.{ever}
use Rattle.lists.specs.Operations.{add_pairs}
use Rattle.lists.specs.Reading.{pairs_of}
use Rattle.inplace.proofs.InPlace.{Raising}
use Rattle.inplace.proofs.raise_in.Given as goal

abbrev pub invariant-loop-k : goal.invariant-loop-k
invariant-loop-k l =
    let a = l.initial.list in
    Raising a l.v (ever l.v) (add_pairs (pairs_of a) (ever l.v)) l.list.pairs l.k × (l.list.len ≡ a.len)
