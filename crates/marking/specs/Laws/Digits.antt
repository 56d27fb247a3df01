-- Digits written to bytes of marks, and read back.
use Rattle.std.specs.Prelude.{◌≡◌, get_or, length}
use Rattle.std.proofs.Math.Path.{refl, ap}
use Rattle.std.proofs.Common.{sym, ◌∙◌}
use Prim.Native.Nat.{ℕ, zero, suc, ◌+◌, ◌*◌, ◌%◌, ◌/◌, ◌^◌, ◌<◌}
use Rattle.std.proofs.Math.Nat.{add-zero}
use native.Mathlib.Omega.{arith}
use Rattle.marking.specs.Marks.{digit_at, digit_of, mark_byte, mark_bytes}

module _ (d : ℕ → ℕ) where
  pub marks-length : (n j : ℕ) → length (mark_bytes d n j) ≡ n
  unfolding mark_bytes
  marks-length zero j = refl
  marks-length (suc n) j = ap suc (marks-length n (suc j))

  pub marks-at : (n j k : ℕ) → k < n → get_or (mark_bytes d n j) k 0 ≡ mark_byte d (j + k)
  unfolding mark_bytes
  marks-at zero j k l = absurd (omega arith)
  marks-at (suc n) j zero l = ap (mark_byte d) (sym (add-zero j))
  marks-at (suc n) j (suc k) l = let e : suc j + k ≡ j + suc k = omega arith in marks-at n (suc j) k (omega arith) ∙ ap (mark_byte d) e

  module _ (low : (i : ℕ) → d i < 4) where
    digit-of : (q k : ℕ) → k < 4 → digit_of (mark_byte d q) k ≡ d (4 * q + k)
    unfolding digit_of
    digit-of q zero l = rw add-zero (omega (arith, low (4 * q), low (4 * q + 1), low (4 * q + 2), low (4 * q + 3)))
    digit-of q (suc zero) l = omega (arith, low (4 * q), low (4 * q + 1), low (4 * q + 2), low (4 * q + 3))
    digit-of q (suc (suc zero)) l = omega (arith, low (4 * q), low (4 * q + 1), low (4 * q + 2), low (4 * q + 3))
    digit-of q (suc (suc (suc zero))) l = omega (arith, low (4 * q), low (4 * q + 1), low (4 * q + 2), low (4 * q + 3))
    digit-of q (suc (suc (suc (suc k)))) l = absurd (omega arith)

    pub digit-read : (n i : ℕ) → i < 4 * n → digit_at (mark_bytes d n 0) i ≡ d i
    digit-read n i l =
        let e : 4 * (0 + i / 4) + i % 4 ≡ i = omega arith in
        ap (λ x. digit_of x (i % 4)) (marks-at n 0 (i / 4) (omega arith)) ∙ digit-of (0 + i / 4) (i % 4) (omega arith) ∙ ap d e

-- the last place of a byte
pub last-digit : (x k : ℕ) → k < 4 → (k ≡ 0 → ⊥) → (k ≡ 1 → ⊥) → (k ≡ 2 → ⊥) → x / 4 / 4 / 4 % 4 ≡ digit_of x k
unfolding digit_of
last-digit x zero l a b c = absurd (a refl)
last-digit x (suc zero) l a b c = absurd (b refl)
last-digit x (suc (suc zero)) l a b c = absurd (c refl)
last-digit x (suc (suc (suc zero))) l a b c = refl
last-digit x (suc (suc (suc (suc k)))) l a b c = absurd (omega arith)

-- by a shift
pub shifted : (x k : ℕ) → k < 4 → x / 2 ^ (2 * k) % 4 ≡ digit_of x k
unfolding digit_of
shifted x zero l = omega arith
shifted x (suc zero) l = refl
shifted x (suc (suc zero)) l = omega arith
shifted x (suc (suc (suc zero))) l = omega arith
shifted x (suc (suc (suc (suc k)))) l = absurd (omega arith)
