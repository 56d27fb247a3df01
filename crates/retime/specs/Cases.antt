-- Examples of retiming, checked against the definitions by one proof.
use Rattle.std.specs.Prelude.{◌≡◌, refl, List, [], ℕ, replicate}
use Rattle.refusals.specs.Refusals.{Answer, Given, Refused}
use Rattle.table.specs.Notation.{◌/◌at◌, ◌addressed◌, block, both, either, loop, symbol}
use Rattle.table.specs.Numbers.{how_many_values}
use Rattle.marking.specs.Opening.{number_is}
use Rattle.table.specs.Table.{encode}
use Rattle.table.specs.Trees.{Tree}
use Rattle.writing.specs.Fields.{with_field}
use Rattle.quoting.specs.Cases.{computed}
use Rattle.retime.specs.declared.Previewed.{Previewed}
use Rattle.retime.specs.Answers.{commit_answer, commit_leaves, commit_refusal, is_time, preview_answer, preview_refusal, question17, retime_questions}

-- with all values 0
pub preview : Tree → (i old new : ℕ) → Answer Previewed
preview t i x y = preview_answer (encode t) i x y (replicate how_many_values 0)

pub commit : Tree → (i old new : ℕ) → Answer ℕ
commit t i x y = commit_answer (encode t) i x y

pub leaves : Tree → (i old new : ℕ) → List ℕ
leaves t i x y = commit_leaves (encode t) i x y

pub figures_are : (before branch_before after branch_after : ℕ) → Answer Previewed
figures_are x c y d = Given record { before = record { figure = x; branch = c }; after = record { figure = y; branch = d } }

pub record Examples : Type 0 where
  -- C(7 | 5): from 5 to 9 the second branch sets the quote
  pub raised : preview (either (block 7) (block 5)) 2 5 9 ≡ figures_are 7 0 9 1
  pub answered : commit (either (block 7) (block 5)) 2 5 9 ≡ Given 72
  pub written : leaves (either (block 7) (block 5)) 2 5 9 ≡ encode (either (block 7) (block 9))
  -- the block's limit and address stay
  pub kept : leaves (block 7 / 3 at 255 addressed 96) 0 7 9 ≡ encode (block 9 / 3 at 255 addressed 96)
  -- the same time again is accepted
  pub same : preview (block 7) 0 7 7 ≡ figures_are 7 255 7 255
  -- an old time that is not the block's, and one that is another block's
  pub stale : commit (either (block 7) (block 5)) 2 6 9 ≡ Refused 17
  pub other : commit (either (block 7) (block 5)) 2 7 9 ≡ Refused 17
  pub unchanged : leaves (either (block 7) (block 5)) 2 6 9 ≡ encode (either (block 7) (block 5))
  -- a choice, a sequence, a record past the last, a loop's bound, a symbol's number, a paired symbol's
  pub choice : commit (either (block 7) (block 5)) 0 0 9 ≡ Refused 17
  pub sequence : commit (both (block 7) (block 5)) 0 0 9 ≡ Refused 17
  pub past : commit (block 0) 1 0 9 ≡ Refused 17
  pub bound : commit (loop 3 (block 7) (block 0)) 0 3 9 ≡ Refused 17
  pub symbolic : commit (symbol 16) 0 16 9 ≡ Refused 17
  pub pair : commit (symbol 24) 0 24 9 ≡ Refused 17
  -- the largest time, and one more
  pub largest : leaves (block 7) 0 7 1_000_000_000_000 ≡ encode (block 1_000_000_000_000)
  pub larger : commit (block 7) 0 7 1_000_000_000_001 ≡ Refused 17
  -- of both trees 10 is asked: the new one alone is too large, and the old one alone
  pub new_too_large : preview (both (block 999_999_999_999) (block 1)) 2 1 2 ≡ Refused 10
  pub old_too_large : preview (both (block 1_000_000_000_000) (block 1)) 2 1 0 ≡ Refused 10
  -- the table's questions come before 17, and 17 before the values' and before 10
  pub table_first : preview_answer [] 0 7 9 [] ≡ Refused 1
  pub time_next : preview_answer (encode (block 7)) 0 8 9 [] ≡ Refused 17
  pub values_later : preview_answer (encode (block 7)) 0 7 9 [] ≡ Refused 9
  pub ten_last : preview (both (block 1_000_000_000_000) (block 1)) 2 0 0 ≡ Refused 17

pub examples-hold : Examples
unfolding ◌addressed◌ number_is preview commit leaves figures_are commit_answer commit_leaves commit_refusal is_time preview_answer preview_refusal question17 retime_questions with_field computed
examples-hold = record {
  raised = refl;
  answered = refl;
  written = refl;
  kept = refl;
  same = refl;
  stale = refl;
  other = refl;
  unchanged = refl;
  choice = refl;
  sequence = refl;
  past = refl;
  bound = refl;
  symbolic = refl;
  pair = refl;
  largest = refl;
  larger = refl;
  new_too_large = refl;
  old_too_large = refl;
  table_first = refl;
  time_next = refl;
  values_later = refl;
  ten_last = refl;
}
