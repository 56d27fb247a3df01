-- Invariant of the loop of `merge_onto`: the pairs stored, and then the union of what is left of both lists, are the union (`Merging`).
use Prim.Native.Nat.{◌+◌, ◌-◌}
use Rattle.lists.proofs.Merges.{Merging}
use Rattle.lists.proofs.List.merge_onto.Given as goal

abbrev pub invariant-loop-h : goal.invariant-loop-h
invariant-loop-h l = Merging l.self l.other l.out.pairs l.n l.i l.j l.h

abbrev pub decreases-loop-h : goal.decreases-loop-h
decreases-loop-h l = l.self.len + l.other.len - (l.i + l.j)
