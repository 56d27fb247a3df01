-- What equality of a field's number, which its type derives, says of it.
use Rattle.std.specs.Prelude.{◌≡◌, refl, ℕ}
use Rattle.table.specs.contracts.MostPartialEq.TheImpl as most
use Rattle.table.specs.contracts.NumberPartialEq.TheImpl as number
use Rattle.marking.specs.Nodes.{Most, Number, Plain, Symbol}
use Rattle.marking.specs.Marks.{most_has}
use Rattle.marking.specs.Opening.{most_is, number_is}

pub plain-number : (v : Number) (x : ℕ) → number.ghosts.eq v (Plain x) ≡ number_is x v
unfolding number_is
plain-number (Plain n) x = refl
plain-number (Symbol s) x = refl

pub plain-most : (m : Most) (x : ℕ) → most.ghosts.eq m (Most.Plain x) ≡ most_is x m
unfolding most_is
plain-most (Most.Plain n) x = refl
plain-most (Most.Symbol s) x = refl
plain-most (Most.Triangular s) x = refl

pub symbol-most : (m : Most) (s : ℕ) → most.ghosts.eq m (Most.Symbol s) ≡ most_has s m
unfolding most_has
symbol-most (Most.Plain n) s = refl
symbol-most (Most.Symbol k) s = refl
symbol-most (Most.Triangular k) s = refl
