-- What the walk of a table is lent: the values alone where no limit is under flag 4, else with their triangular numbers behind them.
use Rattle.std.specs.Prelude.{List, Option, ℕ, T}
use Rattle.table.specs.Checking.{IsTable}
use Rattle.table.specs.Limits.{every_most}
use Rattle.table.specs.Numbers.{most_depth}
use Rattle.table.specs.Table.{decode}
use Rattle.lists.specs.declared.List.{List as Listed}
use Rattle.evaluate.specs.Evaluate.{Values, values_of}
use Rattle.evaluate.specs.Evaluator.{Agree, alike, evaluate_node}
use Rattle.evaluate.specs.Shown.{Shows}
use Rattle.evaluate.specs.declared.Valued.{Valued}

-- the walk of b was lent what says of b's limits what the values say
pub record Walked (b vs : List ℕ) (r : Option Valued) (out : Listed) : Type 0 where
  pub lent : Values
  pub agree : Agree lent (values_of vs)
  pub same : IsTable b → T (every_most (alike lent (values_of vs)) (decode b))
  pub shows : Shows r out (evaluate_node lent most_depth b)
