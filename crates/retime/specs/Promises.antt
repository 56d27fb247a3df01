-- Document 02, CR 9: what commit and preview promise, said of the answers of checking, of the figure call and of each other.
use Rattle.std.specs.Prelude.{◌≡◌, List, ℕ, ◌+◌, ◌<◌, ◌≤◌, get_or, length}
use Rattle.refusals.specs.Refusals.{Answer, Given, refused}
use Rattle.table.specs.Table.{record_count}
use Rattle.marking.specs.Marks.{node_at}
use Rattle.writing.specs.Fields.{value_at}
use Rattle.quoting.specs.Answers.{check_answer, figure_answer}
use Rattle.retime.specs.Nodes.{Block, Plain}
use Rattle.retime.specs.Answers.{commit_answer, commit_leaves, previewed_after, previewed_before, previewed_branch_after, previewed_branch_before}
use Rattle.retime.specs.declared.Previewed.{Previewed}

-- ---- commit

-- of a time that was written into the table b
pub record CommitPromised (b : List ℕ) (i old new : ℕ) (left : List ℕ) : Type 0 where
  -- checking accepts the table, with as many records
  pub checked : check_answer left ≡ Given (record_count b)
  -- it is as long, the block there has the new time, and no byte but its eight is another
  pub long : length left ≡ length b
  pub there : (node_at left i).kind ≡ Block (Plain new)
  pub others : (j : ℕ) → (value_at i ≤ j → j < value_at i + 8 → ⊥) → get_or left j 0 ≡ get_or b j 0
  -- committing back is answered alike and restores the bytes
  pub back : commit_answer left i new old ≡ Given (length b)
  pub restored : commit_leaves left i new old ≡ b

-- by the number of the answer
pub record CommitPromises (b : List ℕ) (i old new : ℕ) (left : List ℕ) (number : ℕ) : Type 0 where
  pub written : number ≡ 0 → CommitPromised b i old new left
  -- a refusal changes nothing
  pub refused : (number ≡ 0 → ⊥) → left ≡ b
  -- nor does an old time that is not the block's
  pub stale : (n : ℕ) → (node_at b i).kind ≡ Block (Plain n) → (n ≡ old → ⊥) → left ≡ b

-- ---- preview

pub record PreviewPromised (b : List ℕ) (i old new : ℕ) (values : List ℕ) (before branch_before after branch_after : ℕ) : Type 0 where
  -- the first pair is what the figure call answers for the table
  pub first : figure_answer b values ≡ Given record { figure = before; branch = branch_before }
  -- the second is what it answers for the table that commit would leave, and commit would not refuse
  pub second : figure_answer (commit_leaves b i old new) values ≡ Given record { figure = after; branch = branch_after }
  pub commits : commit_answer b i old new ≡ Given (length b)

-- an answer that is no refusal promises this of its numbers
unfoldable pub PreviewPromises : (table : List ℕ) (i old new : ℕ) (values : List ℕ) → Answer Previewed → Type 0
PreviewPromises b i x y vs r = refused r ≡ 0 → PreviewPromised b i x y vs (previewed_before r) (previewed_branch_before r) (previewed_after r) (previewed_branch_after r)
