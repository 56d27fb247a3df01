use Rattle.std.proofs.Common.{arith}
use Rattle.splice.specs.Laws.Renaming.{one-renamed}
use Rattle.splice.proofs.rename_next.Goals as goal

pub returns-clause-out_after : goal.returns-clause-out_after
returns-clause-out_after c = rw c.put_name.ensures (one-renamed c.args.sent.now c.args.around.now.ends c.leave.new.self.ends _ _ _ c.args.i _ _ _ _ _ _ c.leave.ensures.0 (omega (arith, c.requires)) c.copy_records.ensures c.name_at.ensures c.renamed.ensures)
