-- What simplifying answers for any input, and the bytes that it writes: questions 1 to 8, then 10 with every value 0.
use Rattle.std.specs.Prelude.{Bool, true, false, List, [], ◌∷◌, ◌++◌, ℕ, leb, length}
use Rattle.refusals.specs.Refusals.{Answer, Given, Refused}
use Rattle.table.specs.Table.{encode, decode}
use Rattle.table.specs.Asking.{◌asks◌, by_refusal, first_no}
use Rattle.table.specs.Checking.{questions}
use Rattle.evaluate.specs.Evaluate.{fits, zeros}
use Rattle.simplify.specs.Steps.{Made, steps}
use Rattle.simplifying.specs.declared.Ending.{Ending}
use Rattle.simplifying.specs.declared.Simplified.{Simplified}

-- 8. the output buffer is at least as long as the table
unfoldable pub simplify_refusal : (table out : List ℕ) → ℕ
simplify_refusal b out = first_no (questions b ++ 8 asks leb (length b) (length out) ∷ 10 asks fits zeros (decode b) ∷ [])

abbrev pub ending_of : (finished : Bool) → Ending
ending_of true = Ending.Finished
ending_of false = Ending.Spent

-- what an allowance of n steps makes of a table
unfoldable pub made : List ℕ → ℕ → Made
made b n = steps n (decode b)

unfoldable pub made_answer : (table : List ℕ) (allowance : ℕ) → Simplified
made_answer b n = record { length = length (encode (made b n).tree); steps = (made b n).taken; ending = ending_of (made b n).finished }

unfoldable pub simplify_answer : (table : List ℕ) (allowance : ℕ) (out : List ℕ) → Answer Simplified
simplify_answer b n out = by_refusal (simplify_refusal b out) (Given (made_answer b n)) Refused

-- the bytes it writes: none where it is refused
unfoldable pub simplify_writes : (table : List ℕ) (allowance : ℕ) (out : List ℕ) → List ℕ
simplify_writes b n out = by_refusal (simplify_refusal b out) (encode (made b n).tree) (λ q. [])

-- document 01's numbers, 0 where it is refused: the length, the steps, and 1 for finished
unfoldable pub simplified_length : Answer Simplified → ℕ
simplified_length (Given s) = s.length
simplified_length (Refused q) = 0

unfoldable pub simplified_steps : Answer Simplified → ℕ
simplified_steps (Given s) = s.steps
simplified_steps (Refused q) = 0

abbrev pub finished_number : Ending → ℕ
finished_number Ending.Finished = 1
finished_number Ending.Spent = 0

unfoldable pub simplified_finished : Answer Simplified → ℕ
simplified_finished (Given s) = finished_number s.ending
simplified_finished (Refused q) = 0
