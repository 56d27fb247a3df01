-- Bytes written after the front of a buffer, and what then stands at its front; how long a number is.
use Rattle.std.specs.Prelude.{Bool, true, false, ◌≡◌, refl, List, ◌++◌, ℕ, ◌+◌, ◌-◌, ◌^◌, ◌<◌, ◌≤◌, leb, length, take, drop}
use Rattle.std.proofs.Common.{ap, subst, sym, ◌∙◌, append_assoc, arith, leb-true, leb-false, length-append, length-take, length-take-le, take_at}
use Rattle.std.proofs.Math.Nat.{pow-le-pow_right}
use Rattle.std.proofs.Math.Seq.{take-length}
use Rattle.io.specs.Counts.{IsPrefixLen}
use Rattle.io.specs.Digits.{IsDigitCount}
use Rattle.writing.specs.Over.{over}
use Rattle.text.specs.Texts.{Numbered, most_digits}

length-after : (b w : List ℕ) (at : ℕ) → at ≤ length b → length (take at b ++ w) ≡ at + length w
length-after b w at l = length-append (take at b) w ∙ ap (λ k. k + length w) (length-take-le at b l)

pub written_after : (b w m y rest : List ℕ) (at : ℕ) → at ≤ length b → y ≡ over (take (length w) w) m → take (at + length w) (take at b ++ (y ++ rest)) ≡ take at b ++ w
unfolding over
written_after b w m y rest at l e =
    let whole : y ≡ w ++ drop (length w) m = e ∙ ap (λ x. x ++ drop (length x) m) (take-length w) in
    let apart : take at b ++ (y ++ rest) ≡ (take at b ++ w) ++ (drop (length w) m ++ rest) =
    ap (λ x. take at b ++ (x ++ rest)) whole ∙ ap (λ x. take at b ++ x) (append_assoc w (drop (length w) m) rest) ∙ sym (append_assoc (take at b) w (drop (length w) m ++ rest)) in
    ap (take (at + length w)) apart ∙ take_at (take at b ++ w) (drop (length w) m ++ rest) (at + length w) (length-after b w at l)

pub counts-after : (b w x : List ℕ) (at : ℕ) → at ≤ length b → take (at + length w) x ≡ take at b ++ w → IsPrefixLen (at + length w) x
counts-after b w x at l e =
    let n : length (take (at + length w) x) ≡ at + length w = ap length e ∙ length-after b w at l in
    (omega (arith, n, length-take (at + length w) x), sym n)

-- ---- numbers

pub few-digits : (n k : ℕ) → n < 2 ^ 64 → IsDigitCount 10 1 n k → k ≤ most_digits
few-digits n k l f = go (leb k 20) refl
  where
    go : (b : Bool) → leb k 20 ≡ b → k ≤ most_digits
    go true e = omega (arith, leb-true)
    go false e =
        let long : 10 ^ 20 ≤ 10 ^ (k - 1) = pow-le-pow_right {n = 10} (omega arith) {i = 20} {j = k - 1} (omega (arith, leb-false)) in
        absurd (omega (arith, long, f.2 (omega (arith, leb-false))))

pub numbered-after : {before b t : List ℕ} {n : ℕ} → b ≡ before → Numbered b n t → Numbered before n t
numbered-after {t = t} {n = n} e d = subst (λ (x : List ℕ). Numbered x n t) e d
