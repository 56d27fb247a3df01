-- A former table with address 0 at every record, and what the call that makes it answers for any input.
use Rattle.std.specs.Prelude.{◌≡◌, List, [], ◌∷◌, ◌++◌, ℕ, zero, suc, ◌*◌, ◌%◌, T, leb, drop, length, take}
use Rattle.refusals.specs.Refusals.{Answer, Given, Refused}
use Rattle.table.specs.Asking.{◌asks◌, by_refusal, first_no}
use Rattle.table.specs.Checking.{question7, refusal}
use Rattle.table.specs.Numbers.{record_length}
use Rattle.table.specs.Questions.{unpaired}
use Rattle.table.specs.Table.{decode, no_address}
use Rattle.former.specs.Former.{former_count, former_length, former_question1, former_questions, former_refusal, former_tree}

-- the record of b's first one
abbrev pub new_record : List ℕ → List ℕ
new_record b = take former_length b ++ no_address

-- the records of b's first n
unfoldable pub converted : ℕ → List ℕ → List ℕ
converted zero b = []
converted (suc n) b = new_record b ++ converted n (drop former_length b)

-- the table of a former one
abbrev pub new_table : List ℕ → List ℕ
new_table b = converted (former_count b) b

-- ---- the call: question 1 of former tables, and 8 of the output buffer

unfoldable pub convert_refusal : (former out : List ℕ) → ℕ
convert_refusal b out = first_no (1 asks former_question1 b ∷ 8 asks leb (record_length * former_count b) (length out) ∷ [])

-- how long the written table is
unfoldable pub convert_answer : (former out : List ℕ) → Answer ℕ
convert_answer b out = by_refusal (convert_refusal b out) (Given (record_length * former_count b)) Refused

-- the bytes it writes: none where it is refused
unfoldable pub convert_writes : (former out : List ℕ) → List ℕ
convert_writes b out = by_refusal (convert_refusal b out) (new_table b) (λ q. [])

-- What is promised. Of whole records, questions 1 to 7 say of the new table what they said of the former one, but that a block of a paired symbol weighs now:
-- an accepted one stays accepted, or is refused 7, and the latter only with paired symbols. Its tree is the former one's, with address 0. A former table that was
-- accepted does not pass as a table itself.
pub record Converts (b : List ℕ) : Type 0 where
  pub same_refusal : length b % former_length ≡ 0 → refusal (new_table b) ≡ first_no (former_questions b ++ 7 asks question7 (new_table b) ∷ [])
  pub unpaired_refusal : length b % former_length ≡ 0 → T (unpaired (former_tree b)) → refusal (new_table b) ≡ former_refusal b
  pub same_tree : decode (new_table b) ≡ former_tree b
  pub apart : former_refusal b ≡ 0 → refusal b ≡ 0 → ⊥
