-- The invariant: the facts from record i on are kept, and those before `at` are as they were.
use Rattle.std.proofs.Common.{◌≡◌, length}
use Rattle.subtrees.specs.Facts.{Known, Unchanged}
use Rattle.subtrees.proofs.mark_records.Given as goal

abbrev pub invariant-loop-i : goal.invariant-loop-i
invariant-loop-i l = record { long : length l.facts ≡ length l.initial.facts; known : Known l.table l.facts l.i; before : Unchanged l.at l.initial.facts l.facts }
