use Rattle.std.proofs.Common.{◌≡◌, ◌∙◌, refl, ℕ}
use Rattle.table.specs.Questions.{number_has}
use Rattle.table.specs.contracts.KindPartialEq.TheImpl as kind
use Rattle.splice.specs.Graft.{is_symbol}
use Rattle.splice.specs.Nodes.{Block, Choice, Kind, Loop, Plain, Sequence, Symbol}
use Rattle.splice.proofs.is_symbol.Goals as goal

-- what the derived equality says of a block with the symbol
same : (k : Kind) (s : ℕ) → kind.ghosts.eq k (Block (Symbol s)) ≡ is_symbol s k
unfolding is_symbol number_has
same (Block (Plain n)) s = refl
same (Block (Symbol x)) s = refl
same Sequence s = refl
same Choice s = refl
same (Loop n) s = refl

pub returns : goal.returns
returns c = c.eq.ensures ∙ same c.args.kind c.args.symbol
