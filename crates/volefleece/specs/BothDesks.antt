-- Demand 3 for a C caller: the numbers of which it speaks, and that each is its call's own.
use Rattle.std.specs.Prelude.{List, ◌≡◌, ℕ}
use Rattle.quoting.specs.Answers.{check_answer, figure_answer}
use Rattle.simplifying.specs.Answers.{simplify_answer, simplify_writes}
use Rattle.simplifying.specs.Demand.{FigureNumbers, SimplifyNumbers, sold_bytes}
use Rattle.writing.specs.Over.{over}
use Rattle.volefleece.specs.declared.VfBothDesks.{VfBothDesks}
use Rattle.volefleece.specs.declared.VfFigureAnswer.{VfFigureAnswer}
use Rattle.volefleece.specs.declared.VfSimplified.{VfSimplified}
use Rattle.volefleece.specs.Numbers.{CheckedAs, FigurePromised, QuotedAs, SimplifiedAs}

abbrev pub simplified_by : VfSimplified → SimplifyNumbers
simplified_by r = record { refused = r.refused; length = r.length; steps = r.steps; finished = r.finished }

abbrev pub quoted_by : VfFigureAnswer → FigureNumbers
quoted_by r = record { refused = r.refused; figure = r.figure }

-- The four calls of one claim: checking, simplifying into the buffer `out`, reception's figure of the table, and sales' of what was written.
pub record AskedInC (b : List ℕ) (allowance : ℕ) (v w out buffer : List ℕ) (r : VfBothDesks) : Type 0 where
  pub checks : CheckedAs r.checked (check_answer b)
  pub simplifies : SimplifiedAs r.simplified (simplify_answer b allowance out)
  pub writes : buffer ≡ over (simplify_writes b allowance out) out
  pub quotes : QuotedAs r.reception (figure_answer b v)
  pub sells : QuotedAs r.sales (figure_answer (sold_bytes (simplified_by r.simplified) buffer) w)
  -- a figure is demand 2's
  pub promised : FigurePromised b v r.reception
  pub promised_sales : FigurePromised (sold_bytes (simplified_by r.simplified) buffer) w r.sales
