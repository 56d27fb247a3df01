-- Demand 3 holds of the numbers that C gets.
use Rattle.std.specs.Prelude.{List, ◌≡◌, refl, ℕ, ◌-◌, ◌≤◌, drop, length, take}
use Rattle.std.proofs.Common.{subst, arith}
use Rattle.refusals.specs.Refusals.{Answer}
use Rattle.table.specs.Bytes.{AreBytes}
use Rattle.table.proofs.Laws.Reading.{part-to}
use Rattle.quoting.specs.Answers.{check_answer, figure_answer}
use Rattle.quoting.specs.declared.Quote.{Quote}
use Rattle.simplifying.specs.Answers.{simplify_answer, simplify_writes}
use Rattle.simplifying.specs.Demand.{Demand3, quoted_numbers, simplified_numbers, sold_bytes}
use Rattle.simplifying.specs.Laws.Demand.{numbers-claimed, written-within}
use Rattle.simplifying.specs.declared.Simplified.{Simplified}
use Rattle.writing.specs.Over.{over}
use Rattle.volefleece.specs.declared.VfBothDesks.{VfBothDesks}
use Rattle.volefleece.specs.declared.VfFigureAnswer.{VfFigureAnswer}
use Rattle.volefleece.specs.declared.VfSimplified.{VfSimplified}
use Rattle.volefleece.specs.Numbers.{CheckedAs, FigurePromised, QuotedAs, SimplifiedAs}
use Rattle.volefleece.specs.BothDesks.{AskedInC, quoted_by, simplified_by}

simplified-numbers : (r : VfSimplified) (answer : Answer Simplified) → SimplifiedAs r answer → simplified_by r ≡ simplified_numbers answer
simplified-numbers r answer s = rw (s.refused, s.length, s.steps, s.finished) refl

quoted-numbers : (r : VfFigureAnswer) (answer : Answer Quote) → QuotedAs r answer → quoted_by r ≡ quoted_numbers answer
quoted-numbers r answer (e, (f, _)) = rw (e, f) refl

-- where sales are lent the first bytes of the buffer, as many as simplifying answered
pub both-asked : (b : List ℕ) (n : ℕ) (v w out buffer : List ℕ) (r : VfBothDesks) → AreBytes b
    → let part = take (r.simplified.length - 0) (drop 0 buffer) in
    CheckedAs r.checked (check_answer b) → SimplifiedAs r.simplified (simplify_answer b n out) → buffer ≡ over (simplify_writes b n out) out
    → QuotedAs r.reception (figure_answer b v) → QuotedAs r.sales (figure_answer part w) → FigurePromised b v r.reception → FigurePromised part w r.sales
    → Demand3 b n v w buffer r.checked.refused (simplified_by r.simplified) (quoted_by r.reception) (quoted_by r.sales) × AskedInC b n v w out buffer r
both-asked b n v w out buffer r h c a o q s p z =
    let part : take (r.simplified.length - 0) (drop 0 buffer) ≡ sold_bytes (simplified_by r.simplified) buffer = part-to buffer r.simplified.length in
    let lent : QuotedAs r.sales (figure_answer (sold_bytes (simplified_by r.simplified) buffer) w) = subst (λ x. QuotedAs r.sales (figure_answer x w)) part s in (
      numbers-claimed b h n v w out c.0 (simplified-numbers _ _ a) o (quoted-numbers _ _ q) (quoted-numbers _ _ lent),
      record { checks = c; simplifies = a; writes = o; quotes = q; sells = lent; promised = p; promised_sales = subst (λ x. FigurePromised x w r.sales) part z },
    )

-- what simplifying wrote stands within the buffer
pub within : (b : List ℕ) (n : ℕ) (out buffer : List ℕ) (r : VfSimplified) → SimplifiedAs r (simplify_answer b n out) → buffer ≡ over (simplify_writes b n out) out → r.length ≤ length buffer
within b n out buffer r a o = omega (arith, a.length, written-within b n out buffer _ refl o)
