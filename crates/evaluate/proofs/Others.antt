-- What the definitions say of the kinds that a `match` leaves to its last arm.
use mathlib.Core.Path.{◌≡◌, refl}
use Prim.Native.Nat.{ℕ}
use Rattle.table.specs.Trees.{rest}
use Rattle.table.specs.declared.Kind.{Kind}
use Rattle.table.specs.declared.Number.{Number}
use Rattle.table.specs.declared.Kind.TheVariants.{Block, Sequence, Choice, Loop}
use Rattle.lists.specs.Operations.{add_pairs}
use Rattle.lists.specs.Pairs.{Pairs}
use Rattle.evaluate.specs.Evaluate.{Values, no_branch}
use Rattle.evaluate.specs.Evaluator.{Found, gone_round, next_holder, join_pairs}

pub rest-other : (k : Kind) → (k ≡ Choice → ⊥) → Sequence ≡ rest k
unfolding rest
rest-other (Block t) h = refl
rest-other Sequence h = refl
rest-other Choice h = absurd (h refl)
rest-other (Loop n) h = refl

pub join-other : (k : Kind) (r s : Pairs) → (k ≡ Choice → ⊥) → add_pairs r s ≡ join_pairs k r s
unfolding join_pairs
join-other (Block t) r s h = refl
join-other Sequence r s h = refl
join-other Choice r s h = absurd (h refl)
join-other (Loop n) r s h = refl

pub holder-other : (k : Kind) (c x i y : ℕ) → (k ≡ Choice → ⊥) → no_branch ≡ next_holder k c x i y
unfolding next_holder
holder-other (Block t) c x i y h = refl
holder-other Sequence c x i y h = refl
holder-other Choice c x i y h = absurd (h refl)
holder-other (Loop n) c x i y h = refl

pub round-other : (v : Values) (k : Kind) (c : Found) → ((n : Number) → k ≡ Loop n → ⊥) → c ≡ gone_round v k c
unfolding gone_round
round-other v (Block t) c h = refl
round-other v Sequence c h = refl
round-other v Choice c h = refl
round-other v (Loop n) c h = absurd (h n refl)
