-- What simplifying answers, beside the buffer that it wrote to.
use Rattle.std.specs.Prelude.{List, ℕ}
use Rattle.refusals.specs.Refusals.{Answer, Given, Refused}
use Rattle.io.specs.Counts.{IsPrefixLen}
use Rattle.simplifying.specs.declared.Simplified.{Simplified}

-- a written table stands at the buffer's front
unfoldable pub Within : Answer Simplified → (buffer : List ℕ) → Type 0
Within (Given s) x = IsPrefixLen s.length x
Within (Refused number) x = Unit {0}
