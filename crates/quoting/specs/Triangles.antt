-- Examples of flag 4 and of question 13. Most are of document 000's triangular loop: i from 1 to 10, and in it j from i to 10. Each loop by itself has
-- bound 10, and the block inside both is passed at most 10 + 9 + .. + 1 = 55 times in a pass of the outer loop. Here it takes 7 cycles.
use Rattle.std.specs.Prelude.{◌≡◌, refl, Bool, true, List, [], ◌∷◌, ◌++◌, ℕ, replicate}
use Rattle.refusals.specs.Refusals.{Answer}
use Rattle.table.specs.Notation.{◌/T◌at◌, ◌/◌at◌, all_hold, block, loop}
use Rattle.table.specs.Table.{encode}
use Rattle.table.specs.Trees.{Tree}
use Rattle.triangular.specs.Triangular.{rule, triangular}
use Rattle.quoting.specs.Answers.{figure_answer}
use Rattle.quoting.specs.Cases.{computed, is_figure, is_refused}
use Rattle.quoting.specs.declared.Quote.{Quote}

pub nested : Tree → Tree
nested t = loop 10 (loop 10 t (block 0)) (block 0)

-- what the figure call answers with this value 0, and the others 0
pub answers : Tree → ℕ → Answer Quote
answers t n = figure_answer (encode (nested t)) (n ∷ replicate 39 0)

-- what it answers for a table of one block of 7 cycles, in bytes, whose limit on the whole run is symbol 0 with these flags
pub flagged : (flags n : ℕ) → Answer Quote
flagged f n = figure_answer (0 ∷ f ∷ 0 ∷ 255 ∷ replicate 4 0 ++ (7 ∷ replicate 7 0) ++ replicate 4 0 ++ replicate 4 255) (n ∷ replicate 39 0)

pub examples : List Bool
examples =
    -- the limit as the triangular number of symbol 0, and as 55
    is_figure 385 (answers (block 7 /T 0 at 2) 10)
    ∷ is_figure 385 (answers (block 7 / 55 at 2) 10)
    -- with no limit, 100 passes
    ∷ is_figure 700 (answers (block 7) 10)
    -- 0 + 1 + 2 + 3
    ∷ is_figure 42 (answers (block 7 /T 0 at 2) 3)
    -- the most, and one more
    ∷ is_figure 700 (answers (block 7 /T 0 at 2) 1000)
    ∷ is_refused 13 (answers (block 7 /T 0 at 2) 1001)
    -- 9 before 13, and 13 before 10
    ∷ is_refused 9 (answers (block 7 /T 0 at 2) 1000001)
    ∷ is_refused 13 (answers (block 1000000000000 /T 0 at 2) 1001)
    ∷ is_refused 10 (answers (block 1000000000000 /T 0 at 2) 1000)
    -- the last symbol of a count, and the first of a time
    ∷ is_figure 0 (answers (block 7 /T 15 at 2) 10)
    ∷ is_refused 3 (answers (block 7 /T 16 at 2) 10)
    -- flag 2 alone is the symbol itself, which may be above 1,000; flag 4 stands only beside it, and there is no flag 8
    ∷ is_figure 7 (flagged 2 1001)
    ∷ is_figure 7 (flagged 6 1000)
    ∷ is_refused 13 (flagged 6 1001)
    ∷ is_refused 2 (flagged 4 0)
    ∷ is_refused 2 (flagged 8 0)
    ∷ []

pub examples-hold : all_hold examples ≡ true
unfolding examples answers flagged nested computed triangular rule
examples-hold = refl
