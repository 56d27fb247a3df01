-- An allowance as a program reads it, digit by digit.
use Rattle.std.specs.Prelude.{◌≡◌, refl, Bool, not, true, false, cond, List, [], ◌∷◌, ℕ, suc, ◌+◌, ◌*◌, ◌-◌, ◌<◌, ◌≤◌, ◌/◌, leb, length, get_or, drop, Option, Some, None}
use Rattle.std.proofs.Common.{sym, ◌∙◌, arith, leb→le, drop-cons, lt-ltb, le-ltb, le-leb, leb-true, leb-false}
use Rattle.std.proofs.Math.Seq.{drop-length}
use Rattle.std.proofs.lemmas.Bool.{lt-leb, not-true, not-false}
use Rattle.booleans.specs.Tests.{◌and◌}
use Rattle.booleans.specs.Laws.{&&-both, and-false, is_T, same_test}
use Rattle.arguments.specs.Allowances.{zero_digit, nine_digit, is_digit, all_digits, number_from, most_steps, is_allowance, allowance_answer}

-- what these characters and those before them make, which stand for n
unfoldable pub read_from : ℕ → List ℕ → Option ℕ
read_from n cs = cond (all_digits cs and leb (number_from n cs) most_steps) (Some (number_from n cs)) None

-- the characters before i are digits that stand for n, and the others are read yet
abbrev pub Read : (cs : List ℕ) (n i : ℕ) → Type 0
Read cs n i = allowance_answer cs ≡ read_from n (drop i cs)

pub no-digits : (cs : List ℕ) → length cs ≡ 0 → None ≡ allowance_answer cs
unfolding allowance_answer is_allowance ◌and◌
no-digits cs e = rw (le-ltb 0 (length cs) (omega arith)) refl

pub none_read : (cs : List ℕ) → (length cs ≡ 0 → ⊥) → Read cs 0 0
unfolding allowance_answer is_allowance read_from ◌and◌
none_read cs e = rw (lt-ltb 0 (length cs) (omega arith)) refl

pub digit-range : (c : ℕ) → is_digit c ≡ true → (zero_digit ≤ c) × (c ≤ nine_digit)
digit-range c d = let (a, b) = &&-both (leb zero_digit c) (leb c nine_digit) (is_T _ d) in (leb→le zero_digit c a, leb→le c nine_digit b)

pub one-read : (cs : List ℕ) (n i : ℕ) → i < length cs → Read cs n i → is_digit (get_or cs i 0) ≡ true
    → Read cs (10 * n + (get_or cs i 0 - zero_digit)) (suc i)
unfolding read_from all_digits number_from ◌and◌
one-read cs n i l h d = h ∙ rw (drop-cons cs i 0 l, d) refl

pub other-character : (cs : List ℕ) (n i : ℕ) → i < length cs → Read cs n i → is_digit (get_or cs i 0) ≡ false → None ≡ allowance_answer cs
unfolding read_from all_digits number_from ◌and◌
other-character cs n i l h d = sym (h ∙ rw (drop-cons cs i 0 l, d) refl)

-- more digits stand for no less
number-grows : (n : ℕ) (cs : List ℕ) → n ≤ number_from n cs
unfolding number_from
number-grows n [] = omega arith
number-grows n (c ∷ cs) = omega (arith, number-grows (10 * n + (c - zero_digit)) cs)

-- a digit more is too much
pub too_large : (cs : List ℕ) (n i d : ℕ) → i < length cs → Read cs n i → is_digit (get_or cs i 0) ≡ true → d ≡ get_or cs i 0 - zero_digit → most_steps < 10 * n + d
    → None ≡ allowance_answer cs
unfolding read_from
too_large cs n i d l h t e o =
    let m = 10 * n + (get_or cs i 0 - zero_digit) in
    let f : leb (number_from m (drop (suc i) cs)) most_steps ≡ false = lt-leb (number_from m (drop (suc i) cs)) most_steps (omega (arith, number-grows m (drop (suc i) cs))) in
    sym (one-read cs n i l h t ∙ rw (f, and-false) refl)

pub all_read : (cs : List ℕ) (n i : ℕ) → i ≡ length cs → n ≤ most_steps → Read cs n i → Some n ≡ allowance_answer cs
unfolding read_from all_digits number_from ◌and◌
all_read cs n i q l h = sym (h ∙ rw (q, drop-length cs, le-leb n most_steps l) refl)

-- ---- one more digit fits: ten times the number and the digit, or the number against what that leaves

pub room-is : (n d : ℕ) → d ≤ 9 → leb n ((most_steps - d) / 10) ≡ leb (10 * n + d) most_steps
room-is n d l =
    same_test (leb n ((most_steps - d) / 10)) (leb (10 * n + d) most_steps)
    (λ t. let h = leb→le n ((most_steps - d) / 10) t in is_T _ (le-leb (10 * n + d) most_steps (omega arith)))
    (λ t. let h = leb→le (10 * n + d) most_steps t in is_T _ (le-leb n ((most_steps - d) / 10) (omega arith)))

pub has_room : (n d : ℕ) (b : Bool) → b ≡ leb (10 * n + d) most_steps → not b ≡ false → 10 * n + d ≤ most_steps
has_room n d b e t = leb-true (10 * n + d) most_steps (sym e ∙ not-false b t)

pub no_room : (n d : ℕ) (b : Bool) → b ≡ leb (10 * n + d) most_steps → not b ≡ true → most_steps < 10 * n + d
no_room n d b e t = leb-false (10 * n + d) most_steps (sym e ∙ not-true b t)
