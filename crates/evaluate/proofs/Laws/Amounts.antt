-- What the numbers of bounds and limits come to at values.
use Rattle.std.specs.Prelude.{◌≡◌, ℕ, ◌≤◌, ◌<◌, T}
use Rattle.std.proofs.Common.{arith, ltb→lt}
use Rattle.std.proofs.Math.Dec.{leb→le}
use Rattle.evaluate.specs.Nodes.{Number, Plain, Symbol, Most}
use Rattle.table.specs.Numbers.{most_count, first_time_symbol}
use Rattle.table.specs.Questions.{count_in_range, most_in_range}
use Rattle.triangular.specs.Triangular.{most_triangular, rule}
use Rattle.triangular.proofs.Laws.Rule.{triangular-is, triangular-most}
use Rattle.evaluate.specs.Evaluate.{Values, amount, allowed}

-- a limit under flag 4 is the rule's number itself, as far as the constant table goes
pub allowed-rule : (v : Values) (s : ℕ) → v s ≤ most_triangular → allowed v (Most.Triangular s) ≡ rule (v s)
unfolding allowed
allowed-rule v s l = triangular-is (v s) l

-- with counts at most their ceiling
module _ (v : Values) (ranged : (k : ℕ) → k < first_time_symbol → v k ≤ most_count) where
  pub amount-most : (m : Number) → T (count_in_range m) → amount v m ≤ most_count
  unfolding count_in_range amount
  amount-most (Plain n) h = leb→le n most_count h
  amount-most (Symbol s) h = ranged s (ltb→lt s first_time_symbol h)

  pub allowed-most : (m : Most) → T (most_in_range m) → allowed v m ≤ most_count
  unfolding most_in_range allowed
  allowed-most (Most.Plain n) h = leb→le n most_count h
  allowed-most (Most.Symbol s) h = ranged s (ltb→lt s first_time_symbol h)
  allowed-most (Most.Triangular s) h = omega (arith, triangular-most (v s))
