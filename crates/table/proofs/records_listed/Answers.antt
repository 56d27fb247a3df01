use Rattle.table.specs.Checking.{question2, record_listed}
use Rattle.table.proofs.records_listed.Goals as goal

pub returns : goal.returns
unfolding question2
returns c = c.every_record.ensures record_listed (λ b r l h. h)
