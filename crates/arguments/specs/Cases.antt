-- Some arguments and what they are read as, checked by one proof.
use Rattle.std.specs.Prelude.{◌≡◌, refl, List, [], ◌∷◌, ◌++◌, ℕ, Option, Some, None}
use Rattle.booleans.specs.Tests.{◌and◌}
use Rattle.arguments.specs.Allowances.{all_digits, number_from, most_steps, is_allowance, allowance_answer}

-- an argument's characters, and how it is read
pub record Case : Type 0 where
  pub characters : List ℕ
  pub answer : Option ℕ

number : List ℕ → ℕ → Case
number cs n = record { characters = cs; answer = Some n }

other : List ℕ → Case
other cs = record { characters = cs; answer = None }

-- 1844674407370955161, the largest number without its last digit
tenth : List ℕ
tenth = 49 ∷ 56 ∷ 52 ∷ 52 ∷ 54 ∷ 55 ∷ 52 ∷ 52 ∷ 48 ∷ 55 ∷ 51 ∷ 55 ∷ 48 ∷ 57 ∷ 53 ∷ 53 ∷ 49 ∷ 54 ∷ 49 ∷ []

-- 0, 00, 7, 10, 007, the largest number, and that after a 0; nothing, the characters next to the digits, -1, +1, 1 and a space, 1a2, one too many and ten times too many
pub cases : List Case
cases =
    number (48 ∷ []) 0
    ∷ number (48 ∷ 48 ∷ []) 0
    ∷ number (55 ∷ []) 7
    ∷ number (49 ∷ 48 ∷ []) 10
    ∷ number (48 ∷ 48 ∷ 55 ∷ []) 7
    ∷ number (tenth ++ (53 ∷ [])) most_steps
    ∷ number (48 ∷ tenth ++ (53 ∷ [])) most_steps
    ∷ other []
    ∷ other (47 ∷ [])
    ∷ other (58 ∷ [])
    ∷ other (45 ∷ 49 ∷ [])
    ∷ other (43 ∷ 49 ∷ [])
    ∷ other (49 ∷ 32 ∷ [])
    ∷ other (49 ∷ 97 ∷ 50 ∷ [])
    ∷ other (tenth ++ (54 ∷ []))
    ∷ other (tenth ++ (53 ∷ 48 ∷ []))
    ∷ []

-- how each is read, and how it should be
pub read : List Case → List (Option ℕ)
read [] = []
read (c ∷ cs) = allowance_answer c.characters ∷ read cs

pub wanted : List Case → List (Option ℕ)
wanted [] = []
wanted (c ∷ cs) = c.answer ∷ wanted cs

pub cases-hold : read cases ≡ wanted cases
unfolding ◌and◌ all_digits number_from is_allowance allowance_answer tenth number other cases read wanted
cases-hold = refl
