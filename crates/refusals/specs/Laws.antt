-- A refusal has a number, so that 0 says of an answer that it is none; and what `?` passes on is the refusal of the call before it.
use Rattle.std.specs.Prelude.{◌≡◌, refl, Result, IsErrAnd}
use Rattle.std.proofs.Common.{arith}
use Rattle.std.proofs.lemmas.Result.{err_from_is_err_and}
use Rattle.refusals.specs.declared.Refusal.{Refusal}
use Rattle.refusals.specs.Refusals.{Refused, answer, number}

pub number-some : (e : Refusal) → number e ≡ 0 → ⊥
number-some Refusal.Length h = omega (arith, h)
number-some Refusal.Fields h = omega (arith, h)
number-some Refusal.Range h = omega (arith, h)
number-some Refusal.Tree h = omega (arith, h)
number-some Refusal.Depth h = omega (arith, h)
number-some Refusal.Names h = omega (arith, h)
number-some Refusal.Weight h = omega (arith, h)
number-some Refusal.Room h = omega (arith, h)
number-some Refusal.Values h = omega (arith, h)
number-some Refusal.Ceiling h = omega (arith, h)
number-some Refusal.Symbol h = omega (arith, h)
number-some Refusal.Graft h = omega (arith, h)
number-some Refusal.Triangle h = omega (arith, h)
number-some Refusal.Later h = omega (arith, h)
number-some Refusal.Fill h = omega (arith, h)
number-some Refusal.Marks h = omega (arith, h)
number-some Refusal.Time h = omega (arith, h)

pub passed_on : {A : Type 0} (r : Result A Refusal) (e : Refusal) → IsErrAnd r (λ x. x ≡ e) → answer r ≡ Refused (number e)
passed_on r e h = let p = err_from_is_err_and r h in rw (p.1, p.2) refl
