-- The time of an unlimited plain block.
use Rattle.std.specs.Prelude.{cond, ℕ, Some, None}
use Rattle.std.specs.declared.option.Option.{Option as Maybe}
use Rattle.table.specs.Trees.{Tree}
use Rattle.simplify.specs.Rules.{bare, time_of}
use Rattle.table.specs.declared.Number.TheVariants.{Plain, Symbol}
use Rattle.table.specs.declared.Kind.{Kind}
use Rattle.table.specs.declared.Kind.TheVariants.{Block, Sequence, Choice, Loop}

unfoldable pub plain_time : Kind → Maybe ℕ
plain_time (Block (Plain x)) = Some x
plain_time (Block (Symbol s)) = None
plain_time Sequence = None
plain_time Choice = None
plain_time (Loop n) = None

unfoldable pub bare_time : Tree → Maybe ℕ
bare_time t = cond (bare t) (Some (time_of t)) None
