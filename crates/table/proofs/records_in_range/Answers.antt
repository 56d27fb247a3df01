use Rattle.table.specs.Checking.{question3, record_in_range}
use Rattle.table.proofs.records_in_range.Goals as goal

pub returns : goal.returns
unfolding question3
returns c = c.every_record.ensures record_in_range (λ b r l h. h)
