-- The n-th triangular number is n more than the one before it, so they rise.
use Rattle.std.specs.Prelude.{◌≡◌, ℕ, suc, ◌+◌, ◌*◌, ◌≤◌, ◌<◌, min}
use Rattle.std.proofs.Common.{ap, mul-add, add-mul, mul-le-mul, arith}
use Rattle.triangular.specs.Triangular.{most_triangular, rule, triangular}

pub rule-next : (n : ℕ) → rule (suc n) ≡ rule n + suc n
unfolding rule
rule-next n = omega (arith, add-mul n 1 (suc n + 1), mul-add n (n + 1) 1)

pub rule-mono : (m n : ℕ) → m ≤ n → rule m ≤ rule n
unfolding rule
rule-mono m n l =
    let product : m * (m + 1) ≤ n * (n + 1) = mul-le-mul l (omega arith) in
    omega arith

pub rule-rises : (m n : ℕ) → m < n → rule m < rule n
rule-rises m n l = omega (arith, rule-next m, rule-mono (suc m) n l)

-- ---- at the smaller of a number and the largest

pub triangular-is : (n : ℕ) → n ≤ most_triangular → triangular n ≡ rule n
unfolding triangular
triangular-is n l =
    let e : min n most_triangular ≡ n = omega arith in
    ap rule e

pub triangular-mono : (m n : ℕ) → m ≤ n → triangular m ≤ triangular n
unfolding triangular
triangular-mono m n l = rule-mono (min m most_triangular) (min n most_triangular) (omega arith)

pub triangular-most : (n : ℕ) → triangular n ≤ 500_500
unfolding triangular rule
triangular-most n = rule-mono (min n most_triangular) most_triangular (omega arith)
