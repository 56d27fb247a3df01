use Rattle.std.proofs.Common.{arith, subst}
use Rattle.std.proofs.Common.{ap, ◌∙◌, ◌++◌}
use Rattle.writing.specs.Records.{front}
use Rattle.splice.specs.Laws.Splicing.{among-before, among-slice, renamed-long}
use Rattle.splice.specs.Renaming.{renamed_table}
use Rattle.splice.specs.Splice.{Among, Stands}
use Rattle.splice.proofs.put_sent.Goals.{In-Some}
use Rattle.splice.proofs.put_sent.Goals as goal

-- the renamed table stands where it was put last
there : (c : In-Some) → Among (renamed_table c.args.sent.now) c.in-Some.place (front c.args.at c.args.out.now)
there c = subst (λ last. Stands (renamed_table c.args.sent.now) last (front c.args.at c.args.out.now)) c.in-Some.is c.requires.fact_2

pub repeat_records-requires : goal.repeat_records-requires
repeat_records-requires c =
    (among-before _ _ _ _ _ (renamed-long _ c.requires.fact_1) (omega (arith, c.requires.fact_3)) (there (goal.at.repeat_records-requires c).In-Some), c.requires.fact_3)

pub returns-in-Some : goal.returns-in-Some
returns-in-Some c =
    let stood = among-slice _ _ _ c.args.at c.args.out.now (renamed-long _ c.requires.fact_1) (omega (arith, c.requires.fact_3)) (there (goal.at.returns-in-Some c).In-Some) in
    (c.repeat_records.ensures.0, c.repeat_records.ensures.1 ∙ ap (λ x. front c.args.at c.args.out.now ++ x) stood)
