-- Invariant of the loop of `add_onto`: the pairs stored, and then the sum of what is left of both lists, are the sum (`Adding`).
use Prim.Native.Nat.{◌+◌, ◌-◌}
use Rattle.lists.proofs.Adds.{Adding}
use Rattle.lists.proofs.List.add_onto.Given as goal

abbrev pub invariant-loop-m : goal.invariant-loop-m
invariant-loop-m l = Adding l.self l.other l.out.pairs l.n l.i l.j l.x l.y l.m

abbrev pub decreases-loop-m : goal.decreases-loop-m
decreases-loop-m l = l.self.len + l.other.len - (l.i + l.j)
