-- Document 02's third request: the triangular numbers.
use Rattle.std.specs.Prelude.{ℕ, ◌+◌, ◌*◌, ◌/◌, min}

-- the largest value of a symbol under flag 4 (question 13)
abbrev pub most_triangular : ℕ
most_triangular = 1_000

-- the n-th triangular number
unfoldable pub rule : ℕ → ℕ
rule n = n * (n + 1) / 2

-- the same at the smaller of n and the largest value
unfoldable pub triangular : ℕ → ℕ
triangular n = rule (min n most_triangular)
