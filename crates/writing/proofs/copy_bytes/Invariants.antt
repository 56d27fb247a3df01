-- The invariant: the first k bytes are copied.
use lib.ListN.{drop}
use Rattle.writing.specs.Laws.Records.{Copied}
use Rattle.writing.proofs.copy_bytes.Given as goal

abbrev pub invariant-loop-k : goal.invariant-loop-k
invariant-loop-k l = Copied (drop l.start l.from) l.initial.out l.at l.out l.k
