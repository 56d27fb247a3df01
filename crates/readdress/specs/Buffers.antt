-- What converting answers, beside the buffer that it wrote to.
use Rattle.std.specs.Prelude.{List, ℕ}
use Rattle.io.specs.Counts.{IsPrefixLen}
use Rattle.refusals.specs.Refusals.{Answer, Given, Refused}

-- a written table stands at the buffer's front
unfoldable pub Within : Answer ℕ → (buffer : List ℕ) → Type 0
Within (Given n) x = IsPrefixLen n x
Within (Refused number) x = Unit {0}
