-- The sales desk's allowance of steps, read from an argument: decimal digits, at least one, leading zeros among them, that stand for at most 2^64 - 1.
use Rattle.std.specs.Prelude.{Bool, true, cond, ◌&&◌, List, [], ◌∷◌, ℕ, ◌+◌, ◌*◌, ◌-◌, leb, ltb, length, Option, Some, None}
use Rattle.booleans.specs.Tests.{◌and◌}

-- the characters `0` and `9`
abbrev pub zero_digit : ℕ
zero_digit = 48

abbrev pub nine_digit : ℕ
nine_digit = 57

abbrev pub is_digit : ℕ → Bool
is_digit c = leb zero_digit c && leb c nine_digit

unfoldable pub all_digits : List ℕ → Bool
all_digits [] = true
all_digits (c ∷ cs) = is_digit c and all_digits cs

-- the number that n's digits and then these stand for, the most significant first
unfoldable pub number_from : ℕ → List ℕ → ℕ
number_from n [] = n
number_from n (c ∷ cs) = number_from (10 * n + (c - zero_digit)) cs

-- the largest number of 64 bits
abbrev pub most_steps : ℕ
most_steps = 18446744073709551615

unfoldable pub is_allowance : List ℕ → Bool
is_allowance cs = ltb 0 (length cs) and all_digits cs and leb (number_from 0 cs) most_steps

-- how many steps, or that the argument is no number of steps
unfoldable pub allowance_answer : List ℕ → Option ℕ
allowance_answer cs = cond (is_allowance cs) (Some (number_from 0 cs)) None
