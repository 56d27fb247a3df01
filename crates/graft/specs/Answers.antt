-- Document 02, CR 1 and 7: what grafting answers for any input, and the bytes that it writes.
use Rattle.std.specs.Prelude.{Bool, not, List, [], ◌∷◌, ◌++◌, ℕ, leb, ltb, length}
use Rattle.booleans.specs.Tests.{◌and◌}
use Rattle.refusals.specs.Refusals.{Answer, Given, Refused}
use Rattle.table.specs.Numbers.{first_paired_symbol, first_time_symbol}
use Rattle.table.specs.Questions.{unpaired}
use Rattle.table.specs.Table.{decode, encode}
use Rattle.table.specs.Asking.{Question, ◌asks◌, by_refusal, first_no}
use Rattle.table.specs.Checking.{question1, question5, question7, questions}
use Rattle.splice.specs.Graft.{graft, uses}

-- 11. the replaced symbol is one of 16 to 31 and not paired, so that it is 16 to 23, and the sent table uses neither it nor a paired one
unfoldable pub question11 : (sent : List ℕ) (symbol : ℕ) → Bool
question11 b s = leb first_time_symbol s and ltb s first_paired_symbol and not (uses s (decode b)) and unpaired (decode b)

-- the result: the table of the grafted tree
unfoldable pub graft_table : (host sent : List ℕ) (symbol : ℕ) → List ℕ
graft_table h b s = encode (graft s (decode b) (decode h))

-- 12. the result passes questions 1, 5 and 7
unfoldable pub question12 : (result : List ℕ) → Bool
question12 b = question1 b and question5 b and question7 b

-- the new questions, then question 8 for the result
unfoldable pub graft_questions : (host sent : List ℕ) (symbol : ℕ) (out : List ℕ) → List Question
graft_questions h b s out = 11 asks question11 b s ∷ 12 asks question12 (graft_table h b s) ∷ 8 asks leb (length (graft_table h b s)) (length out) ∷ []

-- Questions 1 to 7 are all put to the host, then all to the sent table; then come those.
unfoldable pub graft_refusal : (host sent : List ℕ) (symbol : ℕ) (out : List ℕ) → ℕ
graft_refusal h b s out = first_no (questions h ++ (questions b ++ graft_questions h b s out))

-- how long the written table is
unfoldable pub graft_answer : (host sent : List ℕ) (symbol : ℕ) (out : List ℕ) → Answer ℕ
graft_answer h b s out = by_refusal (graft_refusal h b s out) (Given (length (graft_table h b s))) Refused

-- the bytes it writes: none where it is refused
unfoldable pub graft_writes : (host sent : List ℕ) (symbol : ℕ) (out : List ℕ) → List ℕ
graft_writes h b s out = by_refusal (graft_refusal h b s out) (graft_table h b s) (λ q. [])
