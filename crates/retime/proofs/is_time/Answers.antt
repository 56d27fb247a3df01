use Rattle.std.proofs.Common.{◌≡◌, ◌∙◌, refl, ℕ}
use Rattle.table.specs.contracts.KindPartialEq.TheImpl as kind
use Rattle.table.specs.declared.Number.TheVariants.{Plain, Symbol}
use Rattle.marking.specs.Opening.{number_is}
use Rattle.retime.specs.Answers.{is_time}
use Rattle.retime.specs.Nodes.{Kind, Block, Sequence, Choice, Loop}
use Rattle.retime.proofs.is_time.Goals as goal

-- what the derived equality says of a block of that time
same : (k : Kind) (n : ℕ) → kind.ghosts.eq k (Block (Plain n)) ≡ is_time n k
unfolding is_time number_is
same (Block (Plain x)) n = refl
same (Block (Symbol s)) n = refl
same Sequence n = refl
same Choice n = refl
same (Loop x) n = refl

pub returns : goal.returns
returns c = c.eq.ensures ∙ same c.args.kind c.args.old
