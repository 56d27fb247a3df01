-- What the convert call promises of its answer and its buffer says that a written table stands at the buffer's front.
use Rattle.std.specs.Prelude.{◌≡◌, List, ◌++◌, ℕ, length, drop}
use Rattle.std.proofs.Common.{subst, arith, length-append, length-take}
use Rattle.refusals.specs.Refusals.{Answer, Given, Refused}
use Rattle.io.specs.Counts.{IsPrefixLen}
use Rattle.table.proofs.Laws.Asking.{by-refusals}
use Rattle.writing.specs.Over.{over}
use Rattle.former.specs.Former.{former_count}
use Rattle.former.specs.Converted.{new_table, convert_answer, convert_refusal, convert_writes}
use Rattle.former.proofs.Laws.Converted.{converted-long}
use Rattle.readdress.specs.Buffers.{Within}

pub within-counts : {r : Answer ℕ} {n : ℕ} (x : List ℕ) → r ≡ Given n → Within r x → IsPrefixLen n x
unfolding Within
within-counts x e h = subst (λ (r : Answer ℕ). Within r x) e h

pub answer-within : (b out x : List ℕ) (r : Answer ℕ) → r ≡ convert_answer b out → x ≡ over (convert_writes b out) out → Within r x
unfolding Within convert_answer convert_writes over
answer-within b out x r e w =
    rw (e, w) (by-refusals (λ (a : Answer ℕ) y. Within a (y ++ drop (length y) out)) (convert_refusal b out) _ Refused _ _
    (λ z. subst (λ k. IsPrefixLen k (new_table b ++ drop (length (new_table b)) out)) (converted-long (former_count b) b (omega arith)) (front (new_table b))) (λ z. tt))
  where
    front : (f : List ℕ) → IsPrefixLen (length f) (f ++ drop (length f) out)
    front f = (simp length-append (omega arith), simp (length-take, length-append) (omega arith))
