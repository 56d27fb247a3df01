-- Numbers in text.
use Rattle.std.specs.Prelude.{◌≡◌, List, [], ◌∷◌, ◌++◌, ℕ}
use Rattle.io.specs.Digits.{last_digits as digits, IsDigitCount}

-- the most digits that a number of 64 bits has
abbrev pub most_digits : ℕ
most_digits = 20

-- as LONGEST_LINE
abbrev pub longest_line : ℕ
longest_line = 96

-- a text and then a number's decimal digits, as few as hold it
pub record Numbered (before : List ℕ) (n : ℕ) (text : List ℕ) : Type 0 where
  pub places : ℕ
  pub fewest : IsDigitCount 10 1 n places
  pub said : text ≡ before ++ digits 10 places n

-- the same and the line's end
pub record Line (before : List ℕ) (n : ℕ) (text : List ℕ) : Type 0 where
  pub numbered : List ℕ
  pub digits : Numbered before n numbered
  pub said : text ≡ numbered ++ (10 ∷ [])

-- a text and a number, a text and another number, and an ending
pub record TwoNumbers (before : List ℕ) (m : ℕ) (between : List ℕ) (n : ℕ) (ending text : List ℕ) : Type 0 where
  pub front : List ℕ
  pub numbers : List ℕ
  pub first : Numbered before m front
  pub second : Numbered (front ++ between) n numbers
  pub said : text ≡ numbers ++ ending
