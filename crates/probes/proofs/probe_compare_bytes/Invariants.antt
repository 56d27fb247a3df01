-- The invariant: the first k bytes agree.
use Rattle.std.proofs.Common.{◌≡◌, take}
use Rattle.probes.proofs.probe_compare_bytes.Given as goal

abbrev pub invariant-loop-k : goal.invariant-loop-k
invariant-loop-k l = take l.k l.a ≡ take l.k l.b
