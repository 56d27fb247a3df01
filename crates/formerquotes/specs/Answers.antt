-- What checking, the figure call and the list call answered for a former table, of records of 16 bytes and with 32 values, for any input.
use Rattle.std.specs.Prelude.{Bool, false, List, [], ◌∷◌, ◌++◌, ◌≡◌, ℕ, suc, T, eqb, leb, drop, length}
use Rattle.booleans.specs.Tests.{◌and◌}
use Rattle.refusals.specs.Refusals.{Answer, Given, Refused}
use Rattle.table.specs.Asking.{Question, ◌asks◌, by_refusal, first_no}
use Rattle.table.specs.Checking.{question7}
use Rattle.table.specs.Numbers.{first_paired_symbol, how_many_symbols, list_room}
use Rattle.table.specs.Table.{each_by}
use Rattle.lists.specs.Pairs.{numbers, width}
use Rattle.evaluate.specs.Evaluate.{values_of}
use Rattle.values.specs.Values.{ranged, record_small}
use Rattle.quoting.specs.Answers.{check_answer, figure_answer, list_answer, list_writes}
use Rattle.quoting.specs.declared.Quote.{Quote}
use Rattle.former.specs.Former.{former_count, former_length, former_questions, former_refusal, former_tree}
use Rattle.former.specs.Converted.{new_table}
use Rattle.formerquotes.specs.Evaluation.{former_branch, former_figure, former_fits, former_pairs}

unfoldable pub former_check_answer : List ℕ → Answer ℕ
former_check_answer b = by_refusal (former_refusal b) (Given (former_count b)) Refused

-- 9. one value for each symbol
unfoldable pub former_question9 : List ℕ → Bool
former_question9 vs = eqb (length vs) how_many_symbols and ranged 0 vs

-- what was asked of an accepted table with a desk's values
unfoldable pub former_quote_questions : (table values : List ℕ) → List Question
former_quote_questions b vs =
    9 asks former_question9 vs ∷ 13 asks each_by former_length (record_small (values_of vs)) (former_count b) b ∷ 10 asks former_fits (values_of vs) (former_tree b) ∷ []

unfoldable pub former_figure_answer : (table values : List ℕ) → Answer Quote
former_figure_answer b vs =
    by_refusal (first_no (former_questions b ++ former_quote_questions b vs))
    (Given record { figure = former_figure (values_of vs) (former_tree b); branch = former_branch (values_of vs) (former_tree b) })
    Refused

unfoldable pub former_list_refusal : (table values out : List ℕ) → ℕ
former_list_refusal b vs out = first_no (former_questions b ++ 8 asks leb list_room (length out) ∷ former_quote_questions b vs)

unfoldable pub former_list_answer : (table values out : List ℕ) → Answer ℕ
former_list_answer b vs out = by_refusal (former_list_refusal b vs out) (Given (suc (width (former_pairs (values_of vs) (former_tree b))))) Refused

unfoldable pub former_list_writes : (table values out : List ℕ) → List ℕ
former_list_writes b vs out = by_refusal (former_list_refusal b vs out) (numbers (former_pairs (values_of vs) (former_tree b))) (λ q. [])

-- a former desk's values, and behind them each paired symbol's again as its later one
abbrev pub with_laters : List ℕ → List ℕ
with_laters vs = vs ++ drop first_paired_symbol vs

-- the table that is made of a former one is answered as that was: checked, and, with each later value equal to its first, quoted with its branch and listed, for
-- all values, and refused with the same numbers
pub record SameAnswers (b : List ℕ) : Type 0 where
  pub checked : check_answer (new_table b) ≡ former_check_answer b
  pub quoted : (vs : List ℕ) → figure_answer (new_table b) (with_laters vs) ≡ former_figure_answer b vs
  pub listed : (vs out : List ℕ) → list_answer (new_table b) (with_laters vs) out ≡ former_list_answer b vs out
  pub written : (vs out : List ℕ) → list_writes (new_table b) (with_laters vs) out ≡ former_list_writes b vs out

-- It is so where question 7 passes it. Where 7 does not, checking refuses it 7 if the former one was accepted, and else with the same number.
pub record Agrees (b : List ℕ) : Type 0 where
  pub same : T (question7 (new_table b)) → SameAnswers b
  pub heavier : question7 (new_table b) ≡ false → check_answer (new_table b) ≡ Refused (by_refusal (former_refusal b) 7 (λ q. q))
