-- The numbers that stand in a program's list are those of its pairs.
use Rattle.std.specs.Prelude.{◌≡◌, refl, List, ◌∷◌, ℕ, zero, suc, ◌+◌, ◌*◌, ◌-◌, ◌<◌, length, get_or, take, drop}
use Rattle.std.proofs.Common.{sym, ap, ◌∙◌, arith, drop-cons}
use Rattle.lists.specs.declared.List.{List as Listed}
use Rattle.lists.specs.Pairs.{Pairs, ever, top, width, numbers}
use Rattle.lists.specs.Reading.{most_pairs, value_at, count_at, runs_then, pairs_of, Is}

width_runs : (ps : List ℕ) (i n : ℕ) (r : Pairs) → width (runs_then ps i n r) ≡ n + width r
unfolding runs_then width
width_runs ps i zero r = omega arith
width_runs ps i (suc n) r = omega (arith, width_runs ps (suc i) n r)

-- how many pairs a list has
pub list-width : (l : Listed) (p : Pairs) → Is l p → l.len ≡ suc (width p)
unfolding pairs_of width
list-width l p h =
    let w : width (pairs_of l) ≡ width p = ap width h.pairs in
    omega (arith, width_runs l.pairs 0 (l.len - 1) (ever (value_at l.pairs (l.len - 1))), h.proper.some)

-- pair i, and the others
two-more : (ps : List ℕ) (i : ℕ) → 2 * i + 1 < length ps → drop (2 * i) ps ≡ value_at ps i ∷ count_at ps i ∷ drop (2 * suc i) ps
unfolding value_at count_at
two-more ps i h =
    let a : suc (2 * i) ≡ 2 * i + 1 = omega arith in
    let b : suc (2 * i + 1) ≡ 2 * suc i = omega arith in
    drop-cons ps (2 * i) 0 (omega arith) ∙ ap (λ r. get_or ps (2 * i) 0 ∷ r) (rw a (drop-cons ps (2 * i + 1) 0 h ∙ ap (λ k. get_or ps (2 * i + 1) 0 ∷ drop k ps) b))

numbers-runs : (ps : List ℕ) (i n : ℕ) → 2 * (i + n) + 1 < length ps → count_at ps (i + n) ≡ 0
    → numbers (runs_then ps i n (ever (value_at ps (i + n)))) ≡ take (2 * suc n) (drop (2 * i) ps)
unfolding runs_then numbers
numbers-runs ps i zero h e =
    let z : i + 0 ≡ i = omega arith in
    let c : count_at ps i ≡ 0 = ap (count_at ps) (sym z) ∙ e in
    rw (z, two-more ps i (omega arith), c) refl
numbers-runs ps i (suc n) h e =
    let k : i + suc n ≡ suc i + n = omega arith in
    let m : 2 * suc (suc n) ≡ suc (suc (2 * suc n)) = omega arith in
    rw (k, m, two-more ps i (omega arith)) (ap (λ r. value_at ps i ∷ count_at ps i ∷ r) (numbers-runs ps (suc i) n (omega arith) (ap (count_at ps) (sym k) ∙ e)))

pub list-numbers : (l : Listed) (p : Pairs) → length l.pairs ≡ 2 * most_pairs → Is l p → take (2 * l.len) l.pairs ≡ numbers p
unfolding pairs_of
list-numbers l p e h =
    let n = l.len - 1 in
    let m : suc n ≡ l.len = omega (arith, h.proper.some) in
    let z : 0 + n ≡ n = omega arith in
    sym (ap numbers (sym h.pairs) ∙ ap (λ k. numbers (runs_then l.pairs 0 n (ever (value_at l.pairs k)))) (sym z)
    ∙ numbers-runs l.pairs 0 n (omega (arith, h.proper.room, h.proper.some)) (ap (count_at l.pairs) z ∙ h.proper.ends) ∙ ap (λ k. take (2 * k) l.pairs) m)

top-runs : (ps : List ℕ) (n : ℕ) → top (runs_then ps 0 n (ever (value_at ps n))) ≡ value_at ps 0
unfolding runs_then top
top-runs ps zero = refl
top-runs ps (suc n) = refl

-- the first number is the first value
pub list-top : (l : Listed) (p : Pairs) → Is l p → get_or l.pairs 0 0 ≡ top p
unfolding pairs_of value_at
list-top l p h = sym (top-runs l.pairs (l.len - 1)) ∙ ap top h.pairs
