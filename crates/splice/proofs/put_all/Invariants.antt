-- The invariant: the host's records before record i are put.
use Rattle.std.proofs.Common.{◌-◌}
use Rattle.table.specs.Table.{record_count}
use Rattle.splice.specs.Renaming.{renamed_table}
use Rattle.splice.specs.Laws.Splicing.{Put}
use Rattle.splice.proofs.put_all.Given as goal

abbrev pub invariant-loop-k : goal.invariant-loop-k
invariant-loop-k l = Put l.symbol (record_count l.sent) (renamed_table l.sent) l.host l.initial.out (l.count - l._k) l.last l.at l.i l.out
