-- Examples of the branch that sets a quote.
use Rattle.std.specs.Prelude.{◌≡◌, refl, Bool, true, List, [], ◌∷◌, ◌++◌, ℕ, replicate}
use Rattle.table.specs.Notation.{◌/◌at◌, all_hold, block, choice, either, loop, sequence, symbol}
use Rattle.table.specs.Table.{encode}
use Rattle.table.specs.Trees.{Tree, nil, ◌▸◌}
use Rattle.quoting.specs.Answers.{figure_answer}
use Rattle.quoting.specs.Cases.{computed, is_quote}

-- the figure x with branch c, where symbol 16 is 9 and the others 0
pub sets : Tree → (x c : ℕ) → Bool
sets t x c = is_quote x c (figure_answer (encode t) (replicate 16 0 ++ 9 ∷ replicate 23 0))

pub branches : List Bool
branches =
    -- the largest, in each place
    sets (choice (block 9 ▸ block 7 ▸ block 5 ▸ nil)) 9 0
    ∷ sets (choice (block 7 ▸ block 9 ▸ block 5 ▸ nil)) 9 1
    ∷ sets (choice (block 5 ▸ block 7 ▸ block 9 ▸ nil)) 9 2
    -- the earliest on ties
    ∷ sets (choice (block 7 ▸ block 9 ▸ block 9 ▸ nil)) 9 1
    ∷ sets (choice (block 9 ▸ block 7 ▸ block 9 ▸ nil)) 9 0
    ∷ sets (choice (block 0 ▸ block 0 ▸ block 0 ▸ nil)) 0 0
    -- one child
    ∷ sets (choice (block 9 ▸ nil)) 9 0
    -- a child's own limit counts, the root's does not
    ∷ sets (either (block 100 / 0 at 255) (block 5)) 5 1
    ∷ sets (either (block 100 / 0 at 255) (block 5 / 0 at 255)) 0 0
    ∷ sets (either (block 7) (block 9) / 0 at 255) 0 1
    -- a choice in a choice is one child of it; sequences and loops pass nothing on
    ∷ sets (either (block 2) (either (block 3) (block 9))) 9 1
    ∷ sets (either (either (block 3) (block 9)) (block 2)) 9 0
    ∷ sets (sequence (either (block 7) (block 9) ▸ nil)) 9 255
    ∷ sets (loop 1 (either (block 7) (block 9)) (block 0)) 9 255
    -- with symbol 16 at 9: before simplifying, and after a step, which takes the 0 out
    ∷ sets (choice (block 0 ▸ symbol 16 ▸ block 3 ▸ nil)) 9 1
    ∷ sets (either (symbol 16) (block 3)) 9 0
    ∷ []

pub branches-hold : all_hold branches ≡ true
unfolding branches sets computed
branches-hold = refl
