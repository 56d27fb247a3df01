use borrow.Author.Rules.{rules}
use Rattle.lists.specs.Laws.Add.{positive}
use Rattle.lists.proofs.Merges.{Onward, merge-fits, merge-last, merge-onward, merge-start, merge-turn}
use Rattle.lists.proofs.List.merge_onto.Goals.{In-loop-h}
use Rattle.lists.proofs.List.merge_onto.Goals as goal

onward : (c : In-loop-h) → Onward c.loop-h.invariant
onward c = merge-onward c.loop-h.invariant (positive _ c.loop-h-test.true)

pub first_pair-h-requires : goal.first_pair-h-requires
first_pair-h-requires c = record { fact_1 = search rules; fact_2 = search rules; fact_3 = merge-fits c.requires c.requires.left.some c.requires.right.some }

pub loop-h-init : goal.loop-h-init
loop-h-init c = merge-start c.requires (search rules) c.first_pair-h.ensures

pub overflow_add-i : goal.overflow_add-i
overflow_add-i c = let o = onward (goal.at.overflow_add-i c).In-loop-h in search rules

pub overflow_add-j : goal.overflow_add-j
overflow_add-j c = let o = onward (goal.at.overflow_add-j c).In-loop-h in search rules

pub first_pair-h-requires-in-loop-h : goal.first_pair-h-requires-in-loop-h
first_pair-h-requires-in-loop-h c = let o = onward (goal.at.first_pair-h-requires-in-loop-h c).In-loop-h in record { fact_1 = search rules; fact_2 = search rules; fact_3 = o.fits }

pub loop-h-smaller : goal.loop-h-smaller
loop-h-smaller c = let o = onward (goal.at.loop-h-smaller c).In-loop-h in search rules

pub loop-h-preserved : goal.loop-h-preserved
loop-h-preserved c =
    rw c.put_pair.ensures (merge-turn c.loop-h.invariant (positive _ c.loop-h-test.true) c.first_pair-h-in-loop-h.ensures)

pub returns : goal.returns
returns c =
    rw c.put_pair-2.ensures (merge-last c.loop-h.invariant c.loop-h-test.false)
