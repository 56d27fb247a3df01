-- Steps up to an allowance on a table's bytes.
use Rattle.std.specs.Prelude.{◌≡◌, Bool, List, ℕ}
use Rattle.table.specs.Table.{decode, encode}
use Rattle.simplify.specs.Steps.{steps}

-- the steps that an allowance of n makes of the table b₀ end at the table b, after k of them, finished or not
pub record Ends (b₀ : List ℕ) (n : ℕ) (b : List ℕ) (k : ℕ) (finished : Bool) : Type 0 where
  pub bytes : encode (steps n (decode b₀)).tree ≡ b
  pub taken : (steps n (decode b₀)).taken ≡ k
  pub ending : (steps n (decode b₀)).finished ≡ finished
