-- Each arm is told which constructor the number is.
use Rattle.std.proofs.Common.{refl, ap, leb, inl, inr}
use Rattle.triangular.specs.Triangular.{most_triangular}
use Rattle.values.specs.Values.{triangle_small}
use Rattle.values.proofs.triangle_small.Goals as goal

pub returns-in-Plain : goal.returns-in-Plain
unfolding triangle_small
returns-in-Plain c = elim c.in-Plain.is [ inl e ↦ rw e.1 refl | inr e ↦ rw e.1 refl ]

pub returns-in-Triangular : goal.returns-in-Triangular
unfolding triangle_small
returns-in-Triangular c = rw c.in-Triangular.is (ap (λ x. leb x most_triangular) c.value_of.ensures)
