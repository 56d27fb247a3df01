use Rattle.std.proofs.Common.{rules, sym, ◌∙◌}
use Rattle.evaluate.specs.Evaluate.{values_of}
use Rattle.values.specs.Values.{question13, record_small}
use Rattle.values.proofs.Laws.Values.{free-small}
use Rattle.values.proofs.triangles_small.Goals as goal

pub returns-then-free : goal.returns-then-free
returns-then-free c = c.if-free.true ∙ sym (free-small _ _ (sym c.requires ∙ c.if-free.true))

pub returns-else-free : goal.returns-else-free
unfolding question13
returns-else-free c = c.every_record.ensures (record_small (values_of c.args.values.now)) (λ b r l h. search rules)
