-- A buffer whose front is written over, number by number.
use Rattle.std.specs.Prelude.{◌≡◌, refl, List, [], ◌∷◌, ◌++◌, ℕ, zero, suc, ◌<◌, ◌≤◌, length, get_or, take, drop, set}
use Rattle.std.proofs.Common.{ap, sym, ◌∙◌, arith, length-append, length-take-le, take_at}
use Rattle.writing.specs.Over.{over}

-- the buffer with the first i numbers of s written over those of d
abbrev pub copied : (s d : List ℕ) (i : ℕ) → List ℕ
copied s d i = take i s ++ drop i d

pub copied_next : (s d : List ℕ) (i : ℕ) → i < length s → i < length d → set (copied s d i) i (get_or s i 0) ≡ copied s d (suc i)
copied_next [] d i l m = absurd (omega arith)
copied_next (x ∷ s) [] i l m = absurd (omega arith)
copied_next (x ∷ s) (y ∷ d) zero l m = refl
copied_next (x ∷ s) (y ∷ d) (suc i) l m = ap (λ r. x ∷ r) (copied_next s d i (omega arith) (omega arith))

pub copied-over : (s d : List ℕ) (n : ℕ) → n ≤ length s → copied s d n ≡ over (take n s) d
unfolding over
copied-over s d n l = rw (length-take-le n s l) refl

-- ---- what was written stands at the front

pub take-over : {X : Type 0} (front buffer : List X) → take (length front) (over front buffer) ≡ front
unfolding over
take-over front buffer = take_at front (drop (length front) buffer) (length front) refl

pub front-over : {X : Type 0} (front buffer : List X) (n : ℕ) → length front ≡ n → take n (over front buffer) ≡ front
front-over front buffer n e = ap (λ k. take k (over front buffer)) (sym e) ∙ take-over front buffer

pub long-over : {X : Type 0} (front buffer : List X) → length front ≤ length (over front buffer)
unfolding over
long-over front buffer = rw length-append (omega arith)
