-- Examples of symbols with a first and a later value, of question 14, and of values none lower.
use Rattle.std.specs.Prelude.{◌≡◌, refl, Bool, true, List, [], ◌∷◌, ◌++◌, ℕ, zero, suc, ◌≤◌, replicate}
use Rattle.std.proofs.Common.{arith}
use Rattle.refusals.specs.Refusals.{Answer}
use Rattle.table.specs.Notation.{◌/T◌at◌, ◌/◌at◌, all_hold, block, both, either, loop, sequence, symbol}
use Rattle.table.specs.Table.{encode}
use Rattle.table.specs.Trees.{Tree, nil, ◌▸◌}
use Rattle.triangular.specs.Triangular.{rule, triangular}
use Rattle.lists.specs.Pairs.{ever, run}
use Rattle.evaluate.specs.Evaluate.{values_of}
use Rattle.evaluate.specs.ListPairs.{list_pairs}
use Rattle.values.specs.Values.{NoneLower}
use Rattle.quoting.specs.Answers.{figure_answer}
use Rattle.quoting.specs.Cases.{computed, is_figure, is_refused, same_pairs}
use Rattle.quoting.specs.declared.Quote.{Quote}

-- what the figure call answers where symbol 24 is 10 and then x, symbol 31 is 20 and then y, symbol 23 is 6 and the others 0
pub answers : Tree → (x y : ℕ) → Answer Quote
answers t x y = figure_answer (encode t) (replicate 23 0 ++ (6 ∷ 10 ∷ replicate 6 0) ++ (20 ∷ x ∷ replicate 6 0) ++ (y ∷ []))

-- what it answers for a table of one block, with these values of symbol 24 and no other value
pub answers_one : (first later : ℕ) → Answer Quote
answers_one first later = figure_answer (encode (block 7)) (replicate 24 0 ++ (first ∷ replicate 7 0) ++ (later ∷ replicate 7 0))

-- t in so many loops of bound 1
pub within : ℕ → Tree → Tree
within zero t = t
within (suc n) t = loop 1 (within n t) (block 0)

-- symbol 24 in no loop, in one, and so on
pub in_up_to_seven : Tree
in_up_to_seven =
    sequence (
    within 0 (symbol 24)
    ▸ within 1 (symbol 24)
    ▸ within 2 (symbol 24)
    ▸ within 3 (symbol 24)
    ▸ within 4 (symbol 24)
    ▸ within 5 (symbol 24)
    ▸ within 6 (symbol 24)
    ▸ within 7 (symbol 24)
    ▸ nil
    )

pub examples : List Bool
examples =
    -- the first value, then the later one for ever
    same_pairs (list_pairs (values_of (replicate 24 0 ++ (10 ∷ replicate 7 0) ++ (4 ∷ replicate 7 0))) (symbol 24)) (run 10 1 (ever 4))
    ∷ is_figure 10 (answers (symbol 24) 4 9)
    ∷ is_figure 18 (answers (loop 3 (symbol 24) (block 0)) 4 9)
    ∷ is_figure 38 (answers (loop 3 (symbol 31) (block 0)) 4 9)
    -- in the run, and not in each pass of a loop
    ∷ is_figure 42 (answers (loop 3 (loop 3 (symbol 24) (block 0)) (block 0)) 4 9)
    -- each block has a first pass of its own
    ∷ is_figure 20 (answers (both (symbol 24) (symbol 24)) 4 9)
    ∷ is_figure 24 (answers (loop 3 (either (symbol 24) (symbol 24)) (block 0)) 4 9)
    -- the symbol before has one value
    ∷ is_figure 18 (answers (loop 3 (symbol 23) (block 0)) 4 9)
    -- a limit keeps the first members
    ∷ is_figure 14 (answers (loop 3 (symbol 24 / 2 at 1) (block 0)) 4 9)
    -- later may be as large as first, and no larger, whether the table uses the symbol or not
    ∷ is_figure 30 (answers (loop 3 (symbol 24) (block 0)) 10 9)
    ∷ is_refused 14 (answers (loop 3 (symbol 24) (block 0)) 11 9)
    ∷ is_refused 14 (answers (symbol 24) 4 21)
    ∷ is_figure 7 (answers_one 10 10)
    ∷ is_refused 14 (answers_one 10 11)
    -- 9 before 14, also of a later value, and 14 before 10
    ∷ is_refused 9 (answers_one 10 1000000000001)
    ∷ is_refused 9 (figure_answer (encode (block 7)) (replicate 32 0))
    ∷ is_refused 9 (figure_answer (encode (block 7)) (replicate 41 0))
    ∷ is_refused 14 (answers (loop 2 (block 1000000000000) (block 0)) 11 9)
    -- 13 before 14
    ∷ is_refused 13 (figure_answer (encode (block 7 /T 0 at 255)) ((1001 ∷ replicate 31 0) ++ (1 ∷ replicate 7 0)))
    -- question 7 counts it as a limit on the whole run
    ∷ is_figure 10 (answers (within 7 (symbol 24)) 4 9)
    ∷ is_refused 7 (answers (within 8 (symbol 24)) 4 9)
    ∷ is_figure 6 (answers (within 8 (symbol 23)) 4 9)
    -- 255 in all, and 256
    ∷ is_figure 80 (answers in_up_to_seven 4 9)
    ∷ is_refused 7 (answers (both (symbol 24) in_up_to_seven) 4 9)
    -- and its own limit besides
    ∷ is_figure 10 (answers (within 6 (symbol 24 / 1 at 255)) 4 9)
    ∷ is_refused 7 (answers (within 7 (symbol 24 / 1 at 255)) 4 9)
    ∷ []

pub examples-hold : all_hold examples ≡ true
unfolding examples answers answers_one within in_up_to_seven triangular rule computed
examples-hold = refl

-- raising one value leaves none lower: here the later one of symbol 31 alone
raised : (xs : List ℕ) (a b : ℕ) → a ≤ b → NoneLower (xs ++ a ∷ []) (xs ++ b ∷ [])
raised [] a b l zero = l
raised [] a b l (suc i) = omega arith
raised (x ∷ xs) a b l zero = omega arith
raised (x ∷ xs) a b l (suc i) = raised xs a b l i

pub last-raised : NoneLower (replicate 39 0 ++ 0 ∷ []) (replicate 39 0 ++ 1 ∷ [])
last-raised = raised (replicate 39 0) 0 1 (omega arith)
