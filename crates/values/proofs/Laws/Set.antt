-- A desk's values with one of them set.
use Rattle.std.specs.Prelude.{◌≡◌, refl, Bool, true, false, cond, List, [], ◌∷◌, ℕ, zero, suc, min, ◌+◌, ◌<◌, ◌≤◌, eqb, leb, get_or, length, set}
use Rattle.std.proofs.Common.{ap, ap₂, ◌∙◌, add-zero, zero-add, arith, leb→le, length-set, get_or-set_other, get_or-set_same, eq-eqb, eqb-true, le-leb, ne_eqb}
use Rattle.std.proofs.lemmas.Bool.{eqb-false}
use Rattle.booleans.specs.Tests.{◌and◌}
use Rattle.booleans.specs.Laws.{both, by-conds}
use Rattle.table.specs.Numbers.{first_paired_symbol, how_many_values, later_place}
use Rattle.table.specs.Questions.{paired, paired_symbol}
use Rattle.table.specs.declared.Number.TheVariants.{Symbol}
use Rattle.evaluate.specs.Evaluate.{Values, later, values_of}
use Rattle.values.specs.Values.{ceiling, later_low, question14, question9, ranged}

-- the values with symbol s set to x
unfoldable pub set_value : Values → (s x : ℕ) → Values
set_value v s x k = cond (eqb k s) x (v k)

pub set_there : (v : Values) (s x : ℕ) → set_value v s x s ≡ x
unfolding set_value
set_there v s x = rw (eq-eqb s s refl) refl

pub set_other : (v : Values) (s x k : ℕ) → eqb k s ≡ false → v k ≡ set_value v s x k
unfolding set_value
set_other v s x k e = rw e refl

-- Values that agree but for a symbol below the paired ones: the later value of each other symbol agrees, since that of a paired one is behind them all.
pub later-but : (v w : Values) (s : ℕ) → ((k : ℕ) → eqb k s ≡ false → v k ≡ w k) → s < first_paired_symbol → (k : ℕ) → eqb k s ≡ false → later v (Symbol k) ≡ later w (Symbol k)
unfolding later paired
later-but v w s same l k e =
    by-conds ◌≡◌ (paired_symbol k) _ _ _ _
    (λ p. ap₂ min (same k e) (same (k + later_place) (ne_eqb (k + later_place) s (λ q. omega (arith, leb→le first_paired_symbol k (both _ _ p).0)))))
    (λ p. same k e)

-- a desk's list of them with that one set
values-at : (vs : List ℕ) (s x : ℕ) → s < length vs → (k : ℕ) → values_of (set vs s x) k ≡ set_value (values_of vs) s x k
unfolding set_value
values-at vs s x l k = go (eqb k s) refl
  where
    go : (b : Bool) → eqb k s ≡ b → get_or (set vs s x) k 0 ≡ cond b x (get_or vs k 0)
    go true e = ap (λ i. get_or (set vs s x) i 0) (eqb-true k s e) ∙ get_or-set_same vs s x 0 l
    go false e = get_or-set_other vs s k x 0 (eqb-false k s e)

pub values-set : (vs : List ℕ) (s x : ℕ) → s < length vs → values_of (set vs s x) ≡ set_value (values_of vs) s x
values-set vs s x l i k = values-at vs s x l k i

ranged-set : (i : ℕ) (vs : List ℕ) (s x : ℕ) → x ≤ ceiling (i + s) → get_or vs s 0 ≤ ceiling (i + s) → ranged i (set vs s x) ≡ ranged i vs
unfolding ranged
ranged-set i [] s x l m = refl
ranged-set i (y ∷ vs) zero x l m = rw (le-leb x (ceiling i) (rw add-zero at l), le-leb y (ceiling i) (rw add-zero at m)) refl
ranged-set i (y ∷ vs) (suc s) x l m =
    let e : i + suc s ≡ suc i + s = omega arith in
    ap (λ (r : Bool). leb y (ceiling i) and r) (ranged-set (suc i) vs s x (rw e at l) (rw e at m))

-- question 9 says the same, where the value that was there and the one that is set are in range
pub nine-set : (vs : List ℕ) (s x : ℕ) → x ≤ ceiling s → get_or vs s 0 ≤ ceiling s → question9 (set vs s x) ≡ question9 vs
unfolding question9
nine-set vs s x l m = ap₂ (λ k (r : Bool). eqb k how_many_values and r) (length-set vs s x) (ranged-set 0 vs s x (rw zero-add l) (rw zero-add m))

-- question 14 does not read it, where it is below the paired symbols
lows-but : (v w : Values) → ((k : ℕ) → first_paired_symbol ≤ k → v k ≡ w k) → (n s : ℕ) → first_paired_symbol ≤ s → later_low n s v ≡ later_low n s w
unfolding later_low
lows-but v w same zero s l = refl
lows-but v w same (suc n) s l = rw (same s l, same (s + later_place) (omega arith), lows-but v w same n (suc s) (omega arith)) refl

pub fourteen-set : (vs : List ℕ) (s x : ℕ) → s < first_paired_symbol → question14 (set vs s x) ≡ question14 vs
unfolding question14
fourteen-set vs s x l = lows-but (values_of (set vs s x)) (values_of vs) (λ k g. get_or-set_other vs s k x 0 (λ e. omega arith)) _ first_paired_symbol (omega arith)
