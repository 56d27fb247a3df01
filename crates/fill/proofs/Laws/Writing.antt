-- What the passes over records leave in the lent buffers.
use Rattle.std.specs.Prelude.{◌≡◌, refl, List, ◌++◌, ℕ, ◌*◌, ◌-◌, ◌≤◌, drop, length, take}
use Rattle.std.proofs.Common.{ap, sym, ◌∙◌, arith, length-take-le, take_all}
use Rattle.std.proofs.Math.Nat.{sub-zero}
use Rattle.std.proofs.Math.Seq.{take-length}
use Rattle.table.specs.Numbers.{record_length}
use Rattle.table.specs.Table.{decode, encode, record_count}
use Rattle.table.specs.Checking.{IsTable}
use Rattle.table.proofs.Laws.Tables.{length-is}
use Rattle.writing.specs.Over.{over}
use Rattle.writing.specs.Records.{front}
use Rattle.marking.specs.Marks.{digit_at, mark_length, marks_of}
use Rattle.marking.specs.Laws.Marking.{marks-long}
use Rattle.filling.specs.Fill.{put_limit, put_tree, put_value}
use Rattle.filling.specs.Records.{put_records}
use Rattle.filling.specs.Laws.Records.{records-table}
use Rattle.fill.specs.Nodes.{Most, Plain, Symbol}
use Rattle.fill.specs.Answers.{filled, opened}
use Rattle.fill.proofs.Laws.Results.{filled-length, filled-marked, opened-length}

-- there is room for the table's records
pub room : (b out : List ℕ) → IsTable b → length b ≤ length out → record_length * record_count b ≤ length (take (length b - 0) out)
room b out t l = rw (sub-zero, length-take-le (length b) out l) (omega (arith, length-is b t))

-- the part of a buffer that is as long as the table was written as x, and the rest is as it was
part-over : (b x part out : List ℕ) → IsTable b → length b ≤ length out → length x ≡ length b → length part ≡ length (take (length b - 0) out) → front (record_count b) part ≡ x
    → part ++ drop (length b - 0) out ≡ over x out
unfolding over
part-over b x part out t l e k w =
    let n : length part ≡ length b = k ∙ ap (λ m. length (take m out)) (sub-zero (length b)) ∙ length-take-le (length b) out l in
    let whole : part ≡ x = sym (take_all (record_length * record_count b) part (omega (arith, length-is b t))) ∙ w in
    rw (whole, e, sub-zero) refl

pub filled-over : (b : List ℕ) (s x : ℕ) (bytes part out : List ℕ) → IsTable b → length b ≤ length out → bytes ≡ marks_of s b → length part ≡ length (take (length b - 0) out)
    → front (record_count b) part ≡ put_records (Plain x) (Most.Plain x) (digit_at bytes) (record_count b) 0 b → part ++ drop (length b - 0) out ≡ over (filled b s x) out
filled-over b s x bytes part out t l e k w =
    part-over b (filled b s x) part out t l (filled-length b s x t) k
    (w ∙ records-table b t (put_value (Plain x) (digit_at bytes)) (put_limit (Most.Plain x) (digit_at bytes))
    ∙ ap (λ (m : List ℕ). encode (put_tree (Plain x) (Most.Plain x) (digit_at m) (decode b))) e ∙ sym (filled-marked b s x t))

pub opened-over : (b m : List ℕ) (s : ℕ) (part out : List ℕ) → IsTable b → length b ≤ length out → length part ≡ length (take (length b - 0) out)
    → front (record_count b) part ≡ put_records (Symbol s) (Most.Symbol s) (digit_at m) (record_count b) 0 b → part ++ drop (length b - 0) out ≡ over (opened b m s) out
unfolding opened
opened-over b m s part out t l k w =
    part-over b (opened b m s) part out t l (opened-length b m s t) k (w ∙ records-table b t (put_value (Symbol s) (digit_at m)) (put_limit (Most.Symbol s) (digit_at m)))

pub marks-over : (s : ℕ) (b bytes marks new : List ℕ) → bytes ≡ marks_of s b → new ≡ over (take mark_length bytes) marks → new ≡ over (marks_of s b) marks
marks-over s b bytes marks new e w = w ∙ ap (λ (y : List ℕ). over y marks) (ap (take mark_length) e ∙ whole)
  where
    whole : take mark_length (marks_of s b) ≡ marks_of s b
    whole = ap (λ n. take n (marks_of s b)) (sym (marks-long s b)) ∙ take-length (marks_of s b)
