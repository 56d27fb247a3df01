use Rattle.table.specs.Table.{without_four}
use Rattle.values.specs.Flags.{flag_free}
use Rattle.values.proofs.flag_free.Goals as goal

pub returns : goal.returns
unfolding flag_free
returns c = c.every_record.ensures without_four (λ b r l h. h)
