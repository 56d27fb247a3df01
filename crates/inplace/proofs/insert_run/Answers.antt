-- Nothing changes where no value is below v; else v comes more often, or is one more pair.
use mathlib.Core.Path.{◌∙◌, sym}
use native.Mathlib.Omega.{arith}
use Rattle.inplace.proofs.InPlace.{as_list, insert-none, lower, more-often, one_more, times-fit}
use Rattle.inplace.proofs.insert_run.Goals as goal

pub returns-then-v-value_at : goal.returns-then-v-value_at
returns-then-v-value_at c =
    let q = c.requires in
    insert-none q.fact_1 q.fact_5 q.fact_4 c.value_at.ensures c.if-v-value_at.true

pub find_in-k-requires : goal.find_in-k-requires
find_in-k-requires c =
    record { fact_1 = c.requires.fact_1; fact_2 = omega (arith, c.value_at.ensures, c.if-v-value_at.false) }

pub overflow_add-c : goal.overflow_add-c
overflow_add-c c =
    let q = c.requires in
    omega (arith, times-fit q.fact_1 c.find_in-k.ensures q.fact_5 q.fact_4 q.fact_3 c.count_at-c.ensures)

pub returns-then-value_at-v : goal.returns-then-value_at-v
returns-then-value_at-v c =
    let q = c.requires in
    rw c.put_pair.ensures
    (more-often q.fact_1 c.find_in-k.ensures q.fact_5 q.fact_4 (sym c.value_at-2.ensures ∙ c.if-value_at-v.true) (omega (arith, c.value_at.ensures, c.if-v-value_at.false)) c.count_at-c.ensures)

pub returns : goal.returns
returns c =
    let q = c.requires in
    as_list c.insert_in.new.list c.insert_in.ensures.fact_2
    (one_more q.fact_1 c.find_in-k.ensures q.fact_5 q.fact_4 (lower c.value_at-2.ensures c.if-value_at-v.false c.find_in-k.ensures.under) q.fact_2 c.insert_in.ensures.fact_1)
