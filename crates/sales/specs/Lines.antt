-- The line of a written table.
use Rattle.std.specs.Prelude.{List, [], ◌∷◌, ℕ}
use Rattle.text.specs.Texts.{TwoNumbers}

-- "simplified "
abbrev pub simplified_word : List ℕ
simplified_word = 115 ∷ 105 ∷ 109 ∷ 112 ∷ 108 ∷ 105 ∷ 102 ∷ 105 ∷ 101 ∷ 100 ∷ 32 ∷ []

-- " steps "
abbrev pub steps_word : List ℕ
steps_word = 32 ∷ 115 ∷ 116 ∷ 101 ∷ 112 ∷ 115 ∷ 32 ∷ []

-- a word and the bytes written, a word and the steps taken, and how it ended
abbrev pub Line : (bytes steps : ℕ) (ending line : List ℕ) → Type 0
Line bytes steps ending line = TwoNumbers simplified_word bytes steps_word steps ending line
