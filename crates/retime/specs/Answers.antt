-- Document 02, CR 9: what preview and commit answer for any input, and the table that commit leaves.
use Rattle.std.specs.Prelude.{Bool, false, List, [], ◌∷◌, ◌++◌, ℕ, leb, ltb, length}
use Rattle.booleans.specs.Tests.{◌and◌}
use Rattle.refusals.specs.Refusals.{Answer, Given, Refused}
use Rattle.table.specs.Asking.{Question, ◌asks◌, by_refusal, first_no}
use Rattle.table.specs.Checking.{questions}
use Rattle.table.specs.Numbers.{most_time}
use Rattle.marking.specs.Opening.{number_is}
use Rattle.table.specs.Table.{record_count}
use Rattle.marking.specs.Marks.{node_at}
use Rattle.writing.specs.Fields.{with_value}
use Rattle.quoting.specs.Answers.{quote_of, quote_questions}
use Rattle.retime.specs.declared.Previewed.{Previewed}
use Rattle.retime.specs.Nodes.{Kind, Block, Sequence, Choice, Loop}

-- ---- question 17

-- a block of the plain time x
unfoldable pub is_time : (time : ℕ) → Kind → Bool
is_time x (Block t) = number_is x t
is_time x Sequence = false
is_time x Choice = false
is_time x (Loop n) = false

-- 17. record i is a block with that plain old time, and the new time is in range
unfoldable pub question17 : (table : List ℕ) (i old new : ℕ) → Bool
question17 b i x y = ltb i (record_count b) and is_time x (node_at b i).kind and leb y most_time

-- ---- commit: questions 1 to 7 and 17

unfoldable pub retime_questions : (table : List ℕ) (i old new : ℕ) → List Question
retime_questions b i x y = questions b ++ 17 asks question17 b i x y ∷ []

unfoldable pub commit_refusal : (table : List ℕ) (i old new : ℕ) → ℕ
commit_refusal b i x y = first_no (retime_questions b i x y)

-- the table's length
unfoldable pub commit_answer : (table : List ℕ) (i old new : ℕ) → Answer ℕ
commit_answer b i x y = by_refusal (commit_refusal b i x y) (Given (length b)) Refused

-- the table that it leaves: the new time written, or the table as it was where it is refused
unfoldable pub commit_leaves : (table : List ℕ) (i old new : ℕ) → List ℕ
commit_leaves b i x y = by_refusal (commit_refusal b i x y) (with_value b i y) (λ q. b)

-- ---- preview: the same, then what a figure call asks of the old tree and of the new one

unfoldable pub preview_refusal : (table : List ℕ) (i old new : ℕ) (values : List ℕ) → ℕ
preview_refusal b i x y vs = first_no (retime_questions b i x y ++ (quote_questions b vs ++ quote_questions (with_value b i y) vs))

-- figure and branch before, figure and branch after
abbrev pub preview_of : (before after values : List ℕ) → Previewed
preview_of b c vs = record { before = quote_of b vs; after = quote_of c vs }

unfoldable pub preview_answer : (table : List ℕ) (i old new : ℕ) (values : List ℕ) → Answer Previewed
preview_answer b i x y vs = by_refusal (preview_refusal b i x y vs) (Given (preview_of b (with_value b i y) vs)) Refused

-- figures and branches, 0 where there are none
unfoldable pub previewed_before : Answer Previewed → ℕ
previewed_before (Given p) = p.before.figure
previewed_before (Refused q) = 0

unfoldable pub previewed_branch_before : Answer Previewed → ℕ
previewed_branch_before (Given p) = p.before.branch
previewed_branch_before (Refused q) = 0

unfoldable pub previewed_after : Answer Previewed → ℕ
previewed_after (Given p) = p.after.figure
previewed_after (Refused q) = 0

unfoldable pub previewed_branch_after : Answer Previewed → ℕ
previewed_branch_after (Given p) = p.after.branch
previewed_branch_after (Refused q) = 0
