-- What a step of grouping asks.
use Rattle.std.specs.Prelude.{◌*◌, ◌+◌, ◌-◌, ◌<◌, ◌^◌, ℕ}

-- a group of n is begun with m members of the sum a, and v comes next; all sums fit
pub record Turns (n m a v : ℕ) : Type 0 where
  pub begun : m < n
  pub fits : a + (n - m) * v < 2 ^ 64
  pub whole : n * v < 2 ^ 64
