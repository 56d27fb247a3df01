-- A block's list: its first value, then its later one for ever.
use Rattle.std.specs.Prelude.{◌≡◌, false, ℕ, zero, suc, ◌+◌, ◌*◌, ◌<◌, ◌≤◌, min, T, ltb}
use Rattle.std.proofs.Math.Path.{refl, fun_ext}
use Rattle.std.proofs.Common.{ap, ◌∙◌, subst, le-leb, le-ltb, lt-ltb}
use native.Mathlib.Omega.{arith}
use Rattle.std.proofs.lemmas.Bool.{lt-leb}
use Rattle.booleans.specs.Tests.{◌and◌}
use Rattle.booleans.specs.Laws.{and-false, by_cond, by-conds}
use Rattle.table.specs.Numbers.{first_paired_symbol, how_many_symbols, later_place}
use Rattle.table.specs.Questions.{paired, paired_symbol}
use Rattle.lists.specs.Streams.{S, const}
use Rattle.lists.specs.Laws.Sums.{Falls, S-le}
use Rattle.lists.specs.Laws.MergeLaws.{Under}
use Rattle.lists.specs.Laws.Falls.{Few, falls, drop, drop-none, falls-suc}
use Rattle.lists.specs.Laws.Settled.{Settled}
use Rattle.evaluate.specs.Nodes.{Number, Plain, Symbol}
use Rattle.evaluate.specs.Evaluate.{Values, amount, later, once_then}

-- ---- the later value

pub later-le : (v : Values) (x : Number) → later v x ≤ amount v x
unfolding later amount
later-le v (Plain n) = omega arith
later-le v (Symbol k) = by_cond (λ z. z ≤ v k) (paired (Symbol k)) _ _ (λ e. omega arith) (λ e. omega arith)

pub later-mono : (v w : Values) → ((k : ℕ) → v k ≤ w k) → (x : Number) → later v x ≤ later w x
unfolding later
later-mono v w le (Plain n) = omega arith
later-mono v w le (Symbol k) = by-conds (λ y z. y ≤ z) (paired (Symbol k)) _ _ _ _ (λ e. omega (arith, le k, le (k + later_place))) (λ e. le k)

-- by the symbol's number
pub later-below : (v : Values) (k : ℕ) → k < first_paired_symbol → later v (Symbol k) ≡ v k
unfolding later paired ◌and◌
later-below v k l = rw (lt-leb first_paired_symbol k l) refl

pub later-past : (v : Values) (k : ℕ) → how_many_symbols ≤ k → later v (Symbol k) ≡ v k
unfolding later paired
later-past v k l = rw (le-ltb k how_many_symbols l, and-false) refl

pub later-lower : (v : Values) (k : ℕ) → first_paired_symbol ≤ k → k < how_many_symbols → later v (Symbol k) ≡ min (v k) (v (k + later_place))
unfolding later paired ◌and◌
later-lower v k l m = rw (le-leb first_paired_symbol k l, lt-ltb k how_many_symbols m) refl

-- under question 14 it is the desk's own
pub later-is : (v : Values) (k : ℕ) → T (paired (Symbol k)) → v (k + later_place) ≤ v k → later v (Symbol k) ≡ v (k + later_place)
unfolding later
later-is v k h l = by_cond (λ z. z ≡ v (k + later_place)) (paired (Symbol k)) _ _ (λ e. omega arith) (λ e. absurd (subst T e h))

-- without a pair there is one value
pub later_same : (v : Values) (x : Number) → paired x ≡ false → later v x ≡ amount v x
unfolding later amount
later_same v (Plain n) h = refl
later_same v (Symbol k) h = rw h refl

-- ---- the list

pub once-same : (a : ℕ) → once_then a a ≡ const a
unfolding const
once-same a = fun_ext go
  where
    go : (i : ℕ) → once_then a a i ≡ a
    go zero = unfold once_then in refl
    go (suc i) = unfold once_then in refl

pub once-sum : (a b P : ℕ) → S (once_then a b) (suc P) ≡ a + P * b
unfolding S once_then
once-sum a b zero = omega arith
once-sum a b (suc P) = omega (arith, once-sum a b P)

pub once-falls : (a b : ℕ) → b ≤ a → Falls (once_then a b)
unfolding once_then
once-falls a b l zero = l
once-falls a b l (suc i) = omega arith

pub once-mono : (a b c d : ℕ) → a ≤ c → b ≤ d → Under (once_then a b) (once_then c d)
once-mono a b c d l m = S-le _ _ go
  where
    go : (i : ℕ) → once_then a b i ≤ once_then c d i
    go zero = unfold once_then in l
    go (suc i) = unfold once_then in m

-- a block's own list, without a pair
pub one_value : (v : Values) (x : Number) → paired x ≡ false → once_then (amount v x) (later v x) ≡ const (amount v x)
one_value v x h = ap (once_then (amount v x)) (later_same v x h) ∙ once-same (amount v x)

-- and of a pair whose later value equals its first
pub level-value : (v : Values) (k : ℕ) → (T (paired_symbol k) → v (k + later_place) ≡ v k) → once_then (v k) (later v (Symbol k)) ≡ const (v k)
unfolding later paired
level-value v k h =
    by_cond (λ x. once_then (v k) x ≡ const (v k)) (paired_symbol k) _ _
    (λ p. ap (once_then (v k)) (equal (h p)) ∙ once-same (v k))
    (λ e. once-same (v k))
  where
    equal : {x y : ℕ} → x ≡ y → min y x ≡ y
    equal e = omega arith

pub drop-most : (a b : ℕ) → drop a b ≤ 1
unfolding drop
drop-most a b = by_cond (λ x. x ≤ 1) (ltb b a) _ _ (λ e. omega arith) (λ e. omega arith)

-- it falls once
pub once-few : (a b : ℕ) → Few 1 (once_then a b)
once-few a b zero = unfold falls in omega arith
once-few a b (suc zero) = omega (arith, falls-suc (once_then a b) zero, drop-most (once_then a b zero) (once_then a b (suc zero)), none)
  where
    none : falls (once_then a b) zero ≡ 0
    none = unfold falls in refl
once-few a b (suc (suc P)) =
    omega (arith, falls-suc (once_then a b) (suc P), drop-none (once_then a b (suc P)) (once_then a b (suc (suc P))) (unfold once_then in omega arith), once-few a b (suc P))

pub once-settled : (a b : ℕ) → Settled 1 (once_then a b)
unfolding once_then
once-settled a b zero l = absurd (omega arith)
once-settled a b (suc i) l = refl
