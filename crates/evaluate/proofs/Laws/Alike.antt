-- Where what is lent to the walk says what the values say: what times, bounds and limits then come to.
use Rattle.std.specs.Prelude.{◌≡◌, Bool, cond, false, true, ℕ, ◌+◌, T, eqb, ltb}
use Rattle.std.proofs.Math.Path.{refl}
use Rattle.std.proofs.Common.{arith, eqb→eq}
use Rattle.std.proofs.Math.Dec.{eqb_refl, ltb→lt}
use Rattle.booleans.specs.Laws.{both}
use Rattle.table.specs.Limits.{every_most, limit_holds, most_holds}
use Rattle.table.specs.Numbers.{first_time_symbol, how_many_symbols, later_place}
use Rattle.table.specs.Questions.{count_in_range, listed, time_in_range}
use Rattle.table.specs.Trees.{Tree}
use Rattle.table.proofs.Laws.Limits.{ranged-limits}
use Rattle.triangular.specs.Triangular.{rule, triangular}
use Rattle.evaluate.specs.Nodes.{AtMost, Most, Number, Plain, Symbol}
use Rattle.evaluate.specs.Evaluate.{Values, allowed, amount, later, zeros}
use Rattle.evaluate.specs.Evaluator.{Agree, alike, looked, triangle_in}

module _ (u v : Values) (agree : Agree u v) where
  pub time-alike : (n : Number) → T (time_in_range n) → amount u n ≡ amount v n
  unfolding amount time_in_range
  time-alike (Plain n) h = refl
  time-alike (Symbol k) h = agree k (omega (arith, ltb→lt k how_many_symbols (both _ _ h).1))

  pub later-alike : (n : Number) → T (time_in_range n) → later u n ≡ later v n
  unfolding later time_in_range
  later-alike (Plain n) h = refl
  later-alike (Symbol k) h =
      let l = ltb→lt k how_many_symbols (both _ _ h).1 in
      rw (agree k (omega arith), agree (k + later_place) (omega arith)) refl

  pub count-alike : (n : Number) → T (count_in_range n) → amount u n ≡ amount v n
  unfolding amount count_in_range
  count-alike (Plain n) h = refl
  count-alike (Symbol k) h = agree k (omega (arith, ltb→lt k first_time_symbol h))

-- with every value 0
zero-alike : (m : Most) → T (alike zeros zeros m)
unfolding alike looked allowed triangle_in triangular rule
zero-alike (Most.Plain n) = eqb_refl n
zero-alike (Most.Symbol k) = tt
zero-alike (Most.Triangular k) = go (ltb k how_many_symbols)
  where
    go : (b : Bool) → T (eqb (cond b 0 0) 0)
    go true = tt
    go false = tt

pub zeros-alike : (t : Tree) → T (listed t) → T (every_most (alike zeros zeros) t)
zeros-alike = ranged-limits (λ k m. alike zeros zeros m) (λ k m h. zero-alike m)

pub limit-alike : (u v : Values) (k : ℕ) (m : Most) → T (most_holds (alike u v) (AtMost k m)) → looked u m ≡ allowed v m
unfolding limit_holds alike
limit-alike u v k m h = eqb→eq (looked u m) (allowed v m) h
