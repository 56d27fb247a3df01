-- Document 01, "For demand 3": one claim about checking, simplifying and the figure call together.
use Rattle.std.specs.Prelude.{◌≡◌, List, ℕ, ◌≤◌, length, take}
use Rattle.std.proofs.Math.Option.{some}
use Rattle.refusals.specs.Refusals.{Answer, refused}
use Rattle.table.specs.Trees.{Tree}
use Rattle.table.specs.Table.{encode, decode}
use Rattle.table.specs.Checking.{refusal}
use Rattle.simplify.specs.Steps.{step, is_none, after}
use Rattle.quoting.specs.declared.Quote.{Quote}
use Rattle.simplifying.specs.declared.Simplified.{Simplified}
use Rattle.values.specs.Values.{NoneLower}
use Rattle.quoting.specs.Promises.{Promises}
use Rattle.writing.specs.Over.{over}
use Rattle.quoting.specs.Answers.{check_answer, figure_answer, quoted_figure}
use Rattle.simplifying.specs.Answers.{ending_of, finished_number, simplified_finished, simplified_length, simplified_steps, simplify_answer, simplify_writes}

-- The claim speaks of answers by document 01's numbers, so that one serves what the calls answer and the structs that C gets.
-- Simplifying's: the refusal's number, 0 for none; the length; the steps; finished (1) or spent (0).
pub record SimplifyNumbers : Type 0 where
  pub refused : ℕ
  pub length : ℕ
  pub steps : ℕ
  pub finished : ℕ

-- The figure call's: the refusal's number, 0 for none; the figure.
pub record FigureNumbers : Type 0 where
  pub refused : ℕ
  pub figure : ℕ

abbrev pub simplified_numbers : Answer Simplified → SimplifyNumbers
simplified_numbers r = record { refused = refused r; length = simplified_length r; steps = simplified_steps r; finished = simplified_finished r }

abbrev pub quoted_numbers : Answer Quote → FigureNumbers
quoted_numbers r = record { refused = refused r; figure = quoted_figure r }

-- Simplifying the accepted table b under an allowance wrote the bytes `written`, with this count of steps, finished (1) or spent (0).
-- Reception, with values v, was lent b; sales, with values w, were lent `written` alone; each was answered these numbers.
pub record Sold (b : List ℕ) (allowance : ℕ) (v w written : List ℕ) (count finished : ℕ) (reception sales : FigureNumbers) : Type 0 where
  pub tree : Tree
  -- the tree written is the original after exactly the reported number of steps
  pub made : after count (decode b) ≡ some tree
  pub wrote : written ≡ encode tree
  -- checking accepts it, and it is no longer than the original
  pub accepted : refusal written ≡ 0
  pub no_longer : length written ≤ length b
  -- that number is the whole allowance unless rules stop fitting sooner
  pub within : count ≤ allowance
  pub spent : finished ≡ 0 → count ≡ allowance
  -- finished exactly where no rule fits the written tree
  pub ends : finished ≡ finished_number (ending_of (is_none (step (decode written))))
  -- where sales' values are none lower and both get a figure, sales' is not below reception's
  pub not_below : NoneLower v w → reception.refused ≡ 0 → sales.refused ≡ 0 → reception.figure ≤ sales.figure
  -- where values are equal and reception gets a figure, sales get the same
  pub same_figure : v ≡ w → reception.refused ≡ 0 → (sales.refused ≡ 0) × (sales.figure ≡ reception.figure)

-- too large: no values at all give the table a figure
abbrev pub TooLarge : List ℕ → Type 0
TooLarge b = (u : List ℕ) → refused (figure_answer b u) ≡ 0 → ⊥

-- the bytes that sales are lent: those that simplifying wrote into the buffer, in the length that it answered
abbrev pub sold_bytes : SimplifyNumbers → (buffer : List ℕ) → List ℕ
sold_bytes answer buffer = take answer.length buffer

-- Demand 3 of a table, an allowance and both desks' values; of what the output buffer holds after simplifying; and of the four answers' numbers, of
-- checking's the refusal. It speaks of accepted tables, and of simplifying's refusals only of 10.
pub record Demand3 (b : List ℕ) (allowance : ℕ) (v w buffer : List ℕ) (checked : ℕ) (answer : SimplifyNumbers) (reception sales : FigureNumbers) : Type 0 where
  pub inside : checked ≡ 0 → answer.refused ≡ 0 → answer.length ≤ length buffer
  pub sold : checked ≡ 0 → answer.refused ≡ 0 → Sold b allowance v w (sold_bytes answer buffer) answer.steps answer.finished reception sales
  pub too_large : checked ≡ 0 → answer.refused ≡ 10 → TooLarge b

-- The four calls of one claim: checking, simplifying into the buffer `out`, reception's figure of the table, and sales' of what was written.
pub record Asked (b : List ℕ) (allowance : ℕ) (v w out buffer : List ℕ) (checked : Answer ℕ) (answer : Answer Simplified) (reception sales : Answer Quote) : Type 0 where
  pub checks : checked ≡ check_answer b
  pub simplifies : answer ≡ simplify_answer b allowance out
  pub writes : buffer ≡ over (simplify_writes b allowance out) out
  pub quotes : reception ≡ figure_answer b v
  pub sells : sales ≡ figure_answer (sold_bytes (simplified_numbers answer) buffer) w
  -- a figure is demand 2's
  pub promised : Promises b v reception
  pub promised_sales : Promises (sold_bytes (simplified_numbers answer) buffer) w sales
