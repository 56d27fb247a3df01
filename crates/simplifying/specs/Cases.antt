-- The starred cases A to K of document 01, "Cases": one list that one proof checks against the definitions.
use Rattle.std.specs.Prelude.{◌≡◌, refl, Bool, true, false, List, [], ◌∷◌, ℕ, eqb, length, replicate}
use Rattle.booleans.specs.Tests.{◌and◌}
use Rattle.refusals.specs.Refusals.{Answer, Given, Refused}
use Rattle.table.specs.Numbers.{most_records}
use Rattle.table.specs.Notation.{◌/◌at◌, all_hold, block, both, either, loop, sequence, symbol}
use Rattle.table.specs.Table.{encode}
use Rattle.table.specs.Trees.{Tree, nil, ◌▸◌}
use Rattle.runs.proofs.Cases.{case_c, case_e, case_h, case_i, limited_zero, term}
use Rattle.simplify.specs.Cases.{computed_steps}
use Rattle.lists.specs.Pairs.{ever, run}
use Rattle.quoting.specs.Cases.{computed, lists, quotes}
use Rattle.simplifying.specs.declared.Ending.{Ending}
use Rattle.simplifying.specs.declared.Simplified.{Simplified}
use Rattle.simplifying.specs.Answers.{made, made_answer, simplify_answer, simplify_refusal, simplify_writes}

pub same_numbers : List ℕ → List ℕ → Bool
same_numbers [] [] = true
same_numbers [] (y ∷ ys) = false
same_numbers (x ∷ xs) [] = false
same_numbers (x ∷ xs) (y ∷ ys) = eqb x y and same_numbers xs ys

pub is_finished : Ending → Bool
is_finished Ending.Finished = true
is_finished Ending.Spent = false

pub has_written : (long count : ℕ) → Answer Simplified → Bool
has_written long count (Given s) = eqb long s.length and eqb count s.steps and is_finished s.ending
has_written long count (Refused q) = false

-- simplifying the tree's table, into a buffer of its length, writes this tree's and finishes after so many steps
pub becomes : (original result : Tree) → (count : ℕ) → Bool
becomes t u n =
    let out : List ℕ = replicate (length (encode t)) 0 in
    has_written (length (encode u)) n (simplify_answer (encode t) most_records out) and same_numbers (simplify_writes (encode t) most_records out) (encode u)

pub starred : List Bool
starred =
    -- A
    quotes (block 7) 7
    -- B
    ∷ quotes (loop 0 (block 9) (block 4)) 4
    -- C
    ∷ quotes (case_c 1) 20
    -- D
    ∷ quotes (case_c 0) 15
    -- E
    ∷ quotes (case_e 2) 225
    -- F
    ∷ quotes (case_e 1) 245
    -- G: the body's list, naming an outer loop, and the loop's
    ∷ lists (either (block 30 / 1 at 2) (block 20)) (run 30 1 (ever 20))
    ∷ lists (loop 3 (either (block 30 / 1 at 2) (block 20)) (block 0)) (run 70 1 (ever 60))
    -- H, and what it would be, were the limited term shared out
    ∷ quotes case_h 29
    ∷ quotes (loop 2 (both (either (block 5) (block 4)) term) (block 0)) 20
    -- I, and what it would be without the limited 0
    ∷ quotes (case_i limited_zero) 66
    ∷ quotes (case_i (block 4)) 46
    -- J
    ∷ becomes (sequence (block 5 ▸ symbol 16 ▸ block 4 ▸ nil)) (both (block 9) (symbol 16)) 1
    -- K
    ∷ becomes (either (both (block 5) (symbol 16)) (both (block 4) (symbol 16))) (both (block 5) (symbol 16)) 2
    ∷ []

pub starred-hold : all_hold starred ≡ true
unfolding starred case_c case_e term case_h case_i limited_zero computed computed_steps same_numbers is_finished has_written becomes simplify_refusal made made_answer simplify_answer simplify_writes
starred-hold = refl
