use mathlib.Core.Path.{◌∙◌, ◌≡◌, refl}
use Prim.Native.Nat.{◌-◌}
use native.Mathlib.Omega.{arith}
use Rattle.lists.specs.Reading.{count_at}
use Rattle.lists.proofs.Suffix.{inner-count, last-count}
use Rattle.inplace.proofs.InPlace.{front-ends, front-start, front-turn, raise-fits}
use Rattle.inplace.proofs.raise_front.Goals.{After-count_at-c, After-loop-k}
use Rattle.inplace.proofs.raise_front.Goals as goal

-- the count that was read
read : (c : After-count_at-c) → c.count_at-c.result ≡ count_at c.args.list.now.pairs c.loop-k.k
read c = c.count_at-c.ensures ∙ c.loop-k.invariant.0.raising.counts c.loop-k.k (omega arith)

-- the last pair
last : (c : After-loop-k) → c.args.list.now.len - 1 ≡ c.loop-k.k
last c = omega (arith, c.loop-k.auto.k-end, c.loop-k-test.false)

pub loop-k-init : goal.loop-k-init
loop-k-init c =
    let q = c.requires in
    (front-start q.fact_1 q.fact_2 q.fact_3 q.fact_4 q.fact_5 refl, refl)

pub raise_part-requires-clause-fact_3 : goal.raise_part-requires-clause-fact_3
raise_part-requires-clause-fact_3 c = raise-fits c.loop-k.invariant.0.raising refl

pub returns-then-left-c : goal.returns-then-left-c
returns-then-left-c c =
    let (t, e) = c.loop-k.invariant in
    front-ends t e (λ h. rw (read (goal.at.returns-then-left-c c).After-count_at-c) at c.if-left-c.true) c.raise_part.ensures

pub overflow_add-x : goal.overflow_add-x
overflow_add-x c = omega (arith, raise-fits c.loop-k.invariant.0.raising c.value_at-x.ensures)

pub loop-k-preserved : goal.loop-k-preserved
loop-k-preserved c =
    let (t, e) = c.loop-k.invariant in
    let count = read (goal.at.loop-k-preserved c).After-count_at-c in
    let some = inner-count c.args.list.now c.requires.fact_1 c.loop-k.k (omega (arith, c.loop-k-test.true)) in
    rw (c.put_pair.ensures, count) (front-turn t some (rw count at c.if-left-c.false) c.value_at-x.ensures refl, e)

pub raise_part-requires-2-clause-fact_3 : goal.raise_part-requires-2-clause-fact_3
raise_part-requires-2-clause-fact_3 c = rw (last (goal.at.raise_part-requires-2-clause-fact_3 c).After-loop-k) (raise-fits c.loop-k.invariant.0.raising refl)

pub returns : goal.returns
returns c =
    let (t, e) = c.loop-k.invariant in
    let z = last (goal.at.returns c).After-loop-k in
    let forever = last-count c.args.list.now c.requires.fact_1 _ z in
    front-ends t e (λ h. absurd (omega (arith, forever))) (rw z at c.raise_part-2.ensures)
