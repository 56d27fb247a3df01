-- The invariant: the facts from record i on are kept, and before it those of the subtrees that end at `at` or before.
use Rattle.std.proofs.Common.{◌≡◌, length}
use Rattle.subtrees.specs.Facts.{Known, OwnBefore}
use Rattle.subtrees.proofs.mark_around.Given as goal

abbrev pub invariant-loop-i : goal.invariant-loop-i
invariant-loop-i l = record { long : length l.facts ≡ length l.initial.facts; known : Known l.table l.facts l.i; before : OwnBefore l.table l.facts l.at l.i }
