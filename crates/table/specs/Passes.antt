-- What a pass over the records of a table asks of its test, and what it says of it.
use Rattle.std.specs.Prelude.{◌≡◌, Bool, List, ℕ, ◌≤◌, length}
use Rattle.std.specs.Fn.{Shared}
use Rattle.std.specs.Borrow.{Bor}
use Rattle.table.specs.Numbers.{record_length}

module _ {F : Type 0} (g : Shared F (Bor (List ℕ) × Unit {0}) Bool) (f : F) where
  -- the test may be called at every part that starts with a record
  abbrev pub TakesRecords : Type 0
  TakesRecords = (b : Bor (List ℕ)) → record_length ≤ length b.now → g.pre f (b, tt)

  -- and answers there what p says
  abbrev pub TestsRecords : (p : List ℕ → Bool) → Type 0
  TestsRecords p = (b : Bor (List ℕ)) (r : Bool) → record_length ≤ length b.now → g.post f (b, tt) r → r ≡ p b.now
