-- A list of a function's values holds at each place the function's value there.
use Rattle.std.specs.Prelude.{◌≡◌, refl, Bool, true, false, List, ℕ, zero, suc, ◌+◌, ◌*◌, ◌<◌, ◌≤◌, min, eqb, get_or, length, set}
use Rattle.std.proofs.Common.{sym, ap, ◌∙◌, add-zero, zero-add, suc-add, add-suc, le_of_suc-le-suc, not-suc-le-zero, arith, length-set, get_or-set_other, get_or-set_same, eqb-true}
use Rattle.std.proofs.lemmas.Bool.{eqb-false}
use Rattle.triangular.specs.Triangular.{most_triangular, rule, triangular}
use Rattle.triangular.specs.Entries.{Triangles, entries, listed}
use Rattle.triangular.proofs.Laws.Rule.{rule-rises}

from : (f : ℕ → ℕ) (i n k : ℕ) → k < n → get_or (listed f i n) k 0 ≡ f (i + k)
from f i zero k l = absurd (not-suc-le-zero l)
from f i (suc n) zero l = ap f (sym (add-zero i))
from f i (suc n) (suc k) l = from f (suc i) n k (le_of_suc-le-suc l) ∙ ap f (suc-add i k ∙ sym (add-suc i k))

pub listed_at : (f : ℕ → ℕ) (n k : ℕ) → k < n → get_or (listed f 0 n) k 0 ≡ f k
listed_at f n k l = from f 0 n k l ∙ ap f (zero-add k)

-- what stands at a place of the table
pub entry-is : (k : ℕ) → k ≤ most_triangular → get_or entries k 0 ≡ rule k
unfolding entries
entry-is k l = listed_at rule (suc most_triangular) k (omega arith)

pub entries-long : length entries ≡ suc most_triangular
unfolding entries
entries-long = refl

-- what is found for n
pub entry_of : (n p : ℕ) → p ≡ min n most_triangular → get_or entries p 0 ≡ triangular n
unfolding triangular
entry_of n p e = entry-is p (omega arith) ∙ ap rule e

-- the table rises
pub entries-rise : (i k : ℕ) → i < k → k ≤ most_triangular → get_or entries i 0 < get_or entries k 0
entries-rise i k l m = omega (arith, entry-is i (omega arith), entry-is k m, rule-rises i k l)

-- ---- values with their triangular numbers, one after the other

-- the first i are there
pub record Filled (values out : List ℕ) (i : ℕ) : Type 0 where
  pub long : length out ≡ 2 * length values
  pub within : i ≤ length values
  pub own : (k : ℕ) → k < i → get_or out k 0 ≡ get_or values k 0
  pub behind : (k : ℕ) → k < i → get_or out (length values + k) 0 ≡ triangular (get_or values k 0)

pub none_filled : (values out : List ℕ) → length out ≡ 2 * length values → Filled values out 0
none_filled values out e = record { long = e; within = omega arith; own = λ k l. absurd (omega arith); behind = λ k l. absurd (omega arith) }

pub one-filled : (values out : List ℕ) (i x y : ℕ) → i < length values → Filled values out i → x ≡ get_or values i 0 → y ≡ triangular (get_or values i 0)
    → Filled values (set (set out i x) (length values + i) y) (suc i)
one-filled values out i x y l f ex ey = record {
  long = rw (length-set, length-set) f.long;
  within = omega arith;
  own = λ k m. go-own k m;
  behind = λ k m. go-behind k m;
}
  where
    first : List ℕ
    first = set out i x

    go-own : (k : ℕ) → k < suc i → get_or (set first (length values + i) y) k 0 ≡ get_or values k 0
    go-own k m =
        get_or-set_other first (length values + i) k y 0 (λ e. omega (arith, e)) ∙ at (eqb k i) refl
      where
        at : (b : Bool) → eqb k i ≡ b → get_or (set out i x) k 0 ≡ get_or values k 0
        at true e = rw (eqb-true k i e) (get_or-set_same out i x 0 (omega (arith, f.long)) ∙ ex)
        at false e = get_or-set_other out i k x 0 (eqb-false k i e) ∙ f.own k (omega (arith, eqb-false k i e))

    go-behind : (k : ℕ) → k < suc i → get_or (set first (length values + i) y) (length values + k) 0 ≡ triangular (get_or values k 0)
    go-behind k m = at (eqb k i) refl
      where
        at : (b : Bool) → eqb k i ≡ b → get_or (set first (length values + i) y) (length values + k) 0 ≡ triangular (get_or values k 0)
        at true e = rw (eqb-true k i e) (get_or-set_same first (length values + i) y 0 (rw length-set (omega (arith, f.long))) ∙ ey)
        at false e =
            get_or-set_other first (length values + i) (length values + k) y 0 (λ q. eqb-false k i e (omega (arith, q)))
            ∙ get_or-set_other out i (length values + k) x 0 (λ q. omega (arith, q))
            ∙ f.behind k (omega (arith, eqb-false k i e))

pub all-filled : (values out : List ℕ) (i : ℕ) → length values ≤ i → Filled values out i → Triangles values out
all-filled values out i l f = record { own = λ k m. f.own k (omega arith); behind = λ k m. f.behind k (omega arith) }
