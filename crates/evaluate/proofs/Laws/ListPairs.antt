-- The list call's pairs stand for the list, strictly fall, are at most 256, and are the only ones.
use Rattle.std.specs.Prelude.{◌≡◌, ℕ, suc, ◌≤◌, T}
use Rattle.std.proofs.Common.{sym, ◌∙◌, arith}
use Rattle.table.specs.Numbers.{most_weight, most_loops}
use Rattle.table.specs.Trees.{Tree}
use Rattle.table.specs.Questions.{loops, named, weight}
use Rattle.lists.specs.Pairs.{Pairs, ArePairs, width}
use Rattle.lists.specs.Laws.Pairs.{Made, made-pairs, unique-pairs}
use Rattle.evaluate.specs.Evaluate.{Values, list}
use Rattle.evaluate.specs.ListPairs.{place, list_pairs}
use Rattle.evaluate.proofs.Laws.Monotone.{list-falls}
use Rattle.evaluate.proofs.Laws.PairCount.{list-few}
use Rattle.evaluate.proofs.Laws.Weight.{bound-weight}
use Rattle.evaluate.proofs.Laws.Settled.{list-settled}

pub list-made : (v : Values) (t : Tree) → Made (list v t) (place v t) (list_pairs v t)
unfolding list_pairs
list-made v t = made-pairs (place v t) (list v t) (list-falls v t)

pub list-pairs : (v : Values) (t : Tree) → ArePairs (list v t) (list_pairs v t)
list-pairs v t = let m = list-made v t in record { canonical = m.canonical; means = m.means (list-settled v t) }

-- at most 256 of them, of an accepted table and of each subtree of it, with d loops around
pub few-list-pairs : (v : Values) (t : Tree) (d : ℕ) → loops t d ≤ most_loops → T (named t d) → weight t d ≤ most_weight → suc (width (list_pairs v t)) ≤ suc most_weight
few-list-pairs v t d l n w = omega (arith, (list-made v t).wide, list-few v t (place v t), bound-weight t d l n)

-- so canonical pairs that stand for a tree's list are the ones that the list call writes
pub pairs-are : (v : Values) (t : Tree) (r : Pairs) → ArePairs (list v t) r → r ≡ list_pairs v t
pairs-are v t r a =
    let l = list-pairs v t in
    unique-pairs r (list_pairs v t) a.canonical l.canonical (λ i. a.means i ∙ sym (l.means i))
