use Rattle.std.proofs.Common.{of_calls}
use Rattle.splice.specs.Splice.{sendable_first}
use Rattle.splice.proofs.sendable.Goals as goal

pub returns : goal.returns
returns c = c.every_record.ensures (sendable_first c.args.symbol) (λ b r l h. search of_calls)
