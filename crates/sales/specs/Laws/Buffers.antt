-- What the simplify call promises of its answer and its buffer says that a written table stands at the buffer's front.
use Rattle.std.specs.Prelude.{◌≡◌, List, ◌++◌, ℕ, length, drop}
use Rattle.std.proofs.Common.{arith, subst, length-append, length-take}
use Rattle.refusals.specs.Refusals.{Answer, Given, Refused}
use Rattle.io.specs.Counts.{IsPrefixLen}
use Rattle.table.specs.Table.{encode}
use Rattle.table.proofs.Laws.Asking.{by-refusals}
use Rattle.simplifying.specs.declared.Simplified.{Simplified}
use Rattle.writing.specs.Over.{over}
use Rattle.simplifying.specs.Answers.{made, made_answer, simplify_answer, simplify_refusal, simplify_writes}
use Rattle.sales.specs.Buffers.{Within}

pub within-counts : {r : Answer Simplified} {s : Simplified} (x : List ℕ) → r ≡ Given s → Within r x → IsPrefixLen s.length x
unfolding Within
within-counts x e h = subst (λ (r : Answer Simplified). Within r x) e h

pub answer-within : (b : List ℕ) (n : ℕ) (out x : List ℕ) (r : Answer Simplified) → r ≡ simplify_answer b n out → x ≡ over (simplify_writes b n out) out → Within r x
unfolding Within simplify_answer made_answer simplify_writes over
answer-within b n out x r e w = rw (e, w) (by-refusals (λ (a : Answer Simplified) y. Within a (y ++ drop (length y) out)) (simplify_refusal b out) _ Refused _ _ (λ z. front (encode (made b n).tree)) (λ z. tt))
  where
    front : (f : List ℕ) → IsPrefixLen (length f) (f ++ drop (length f) out)
    front f = (simp length-append (omega arith), simp (length-take, length-append) (omega arith))
