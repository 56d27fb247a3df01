-- The cases of the walk's definition, as the program meets them.
use mathlib.Core.Path.{◌≡◌, refl}
use mathlib.Core.Bool.{Bool, true, false, cond}
use mathlib.Core.List.{List}
use Prim.Native.Nat.{ℕ, zero, suc, ◌*◌, ◌-◌, ◌<◌, ◌≤◌}
use native.Mathlib.Numerals.{sub-one}
use native.Mathlib.Omega.{arith}
use lib.ListN.{drop, length}
use Rattle.table.specs.declared.Number.{Number}
use borrow.Author.Tests.{le-leb, lt-leb}
use Rattle.table.specs.Numbers.{record_length}
use Rattle.table.specs.Table.{child_byte, first_node}
use Rattle.table.specs.Trees.{rest}
use Rattle.table.specs.declared.Kind.{Kind}
use Rattle.table.specs.declared.Kind.TheVariants.{Block, Sequence, Choice, Loop}
use Rattle.evaluate.specs.Evaluate.{Values}
use Rattle.evaluate.specs.Evaluator.{Found, and_then, evaluate_below, evaluate_more, evaluate_node, gone_round, joined, limited, none_yet, unfit}
use Rattle.evaluate.specs.Shown.{with_next}

pub node-deep : (v : Values) (h : ℕ) (b : List ℕ) → h ≡ 0 → evaluate_node v h b ≡ unfit
unfolding evaluate_node
node-deep v h b e = rw e refl

pub node-short : (v : Values) (h : ℕ) (b : List ℕ) → length b < record_length → evaluate_node v h b ≡ unfit
unfolding evaluate_node
node-short v zero b l = refl
node-short v (suc h) b l = rw (lt-leb record_length (length b) l) refl

pub node-read : (v : Values) (h : ℕ) (b : List ℕ) → (h ≡ 0 → ⊥) → record_length ≤ length b
    → evaluate_node v h b ≡ and_then (evaluate_below v (evaluate_node v (h - 1)) (first_node b).kind (child_byte b) (drop record_length b)) (limited v (first_node b).limit)
unfolding evaluate_node
node-read v zero b f l = absurd (f refl)
node-read v (suc h) b f l = rw (le-leb record_length (length b) l, sub-one (suc h)) refl

pub more-done : (v : Values) (f : List ℕ → Found) (k : Kind) (i n : ℕ) (b : List ℕ) (s : Found) → n ≡ 0 → evaluate_more v f k i n b s ≡ s
unfolding evaluate_more
more-done v f k i n b s e = rw e refl

-- one after the other, in two ways
regrouped : (c : Found) (f g h : Found → Found) → and_then c (λ c. and_then (f c) (λ d. and_then (g d) h)) ≡ and_then (and_then c (λ c. and_then (f c) g)) h
regrouped c f g h = go c.fits (f c).fits
  where
    go : (t u : Bool) → cond t (cond u (and_then (g (f c)) h) unfit) unfit ≡ and_then (cond t (cond u (g (f c)) unfit) unfit) h
    go true true = refl
    go true false = refl
    go false u = refl

pub more-next : (v : Values) (f : List ℕ → Found) (k : Kind) (i n : ℕ) (b : List ℕ) (s : Found) → 0 < n
    → evaluate_more v f k i n b s ≡ and_then (with_next v k i s (f (drop (record_length * s.records) b))) (evaluate_more v f (rest k) (suc i) (n - 1) b)
unfolding evaluate_more with_next
more-next v f k i zero b s p = absurd (omega arith)
more-next v f k i (suc n) b s p = rw (sub-one (suc n)) (regrouped (f (drop (record_length * s.records) b)) (gone_round v k) (joined k i s) (evaluate_more v f (rest k) (suc i) n b))

-- a node that is no block is what its children make it
pub below_other : (v : Values) (f : List ℕ → Found) (k : Kind) (n : ℕ) (b : List ℕ) → ((t : Number) → k ≡ Block t → ⊥)
    → evaluate_more v f k 0 n b none_yet ≡ evaluate_below v f k n b
unfolding evaluate_below
below_other v f (Block t) n b h = absurd (h t refl)
below_other v f Sequence n b h = refl
below_other v f Choice n b h = refl
below_other v f (Loop m) n b h = refl
