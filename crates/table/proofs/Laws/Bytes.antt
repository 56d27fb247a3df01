-- Numbers written as bytes and read back.
use Rattle.std.specs.Prelude.{◌≡◌, refl, List, [], ◌∷◌, ◌++◌, ℕ, zero, suc, ◌/◌, ◌*◌, ◌^◌, ◌<◌, ◌+◌, ◌%◌, length}
use Rattle.std.proofs.Common.{ap, div-lt_iff_lt-mul, zero-lt-suc, pow-suc, arith}
use Rattle.table.specs.Bytes.{to_bytes, from_bytes, AreBytes}

pub length_to : (n x : ℕ) → length (to_bytes n x) ≡ n
unfolding to_bytes
length_to zero x = refl
length_to (suc n) x = ap suc (length_to n (x / 256))

pub from-to : (n x : ℕ) → x < 256 ^ n → from_bytes (to_bytes n x) ≡ x
unfolding to_bytes from_bytes
from-to zero x h = omega arith
from-to (suc n) x h =
    let g : x < 256 ^ n * 256 = rw (← pow-suc) h in
    rw (from-to n (x / 256) ((div-lt_iff_lt-mul (zero-lt-suc 255)).1 g)) (omega arith)

pub to-from : (b : List ℕ) → AreBytes b → to_bytes (length b) (from_bytes b) ≡ b
unfolding to_bytes from_bytes
to-from [] h = refl
to-from (x ∷ xs) h =
    let l : x < 256 = h 0 in
    let m : (x + 256 * from_bytes xs) % 256 ≡ x = omega arith in
    let d : (x + 256 * from_bytes xs) / 256 ≡ from_bytes xs = omega arith in
    rw (m, d, to-from xs (λ i. h (suc i)))

pub bytes-to : (n x : ℕ) → AreBytes (to_bytes n x)
unfolding to_bytes
bytes-to zero x i = omega arith
bytes-to (suc n) x zero = let l : x % 256 < 256 = omega arith in l
bytes-to (suc n) x (suc i) = bytes-to n (x / 256) i

pub bytes-append : (a b : List ℕ) → AreBytes a → AreBytes b → AreBytes (a ++ b)
bytes-append [] b h k i = k i
bytes-append (x ∷ a) b h k zero = h 0
bytes-append (x ∷ a) b h k (suc i) = bytes-append a b (λ j. h (suc j)) k i
