-- Examples of the desk's files for document 02, requests 2 and 7, checked against the definitions.
use Rattle.std.specs.Prelude.{◌≡◌, refl, Bool, true, List, [], ◌∷◌, ◌++◌, ℕ, ◌*◌, replicate}
use Rattle.table.specs.Notation.{all_hold, block, loop, symbol}
use Rattle.table.specs.Table.{encode}
use Rattle.table.specs.Trees.{Tree}
use Rattle.quoting.specs.Cases.{computed, is_figure, is_refused}
use Rattle.deskfiles.specs.Files.{file_value, file_values, files_answer, files_refusal, symbol_value, value_length, value_or, values_from, values_whole}

-- the desk answers this figure on the tree's table and a values.tab of these bytes
pub files : Tree → (values : List ℕ) → ℕ → Bool
files t v x = is_figure x (files_answer (encode t) v)

-- a file of n zeros
pub zero_values : ℕ → List ℕ
zero_values n = replicate (value_length * n) 0

-- a value of 20
pub twenty : List ℕ
twenty = 20 ∷ replicate 7 0

-- three passes of a block with symbol 24
pub thrice : Tree
thrice = loop 3 (symbol 24) (block 0)

pub absent : List Bool
absent =
    -- all 40 values written: case A, and one block of symbol 16
    files (block 7) (zero_values 40) 7
    ∷ files (symbol 16) (zero_values 40) 0
    -- that block with its value the last written, the first absent, and with no values.tab
    ∷ files (symbol 16) (zero_values 17) 0
    ∷ files (symbol 16) (zero_values 16) 1000000000000
    ∷ files (symbol 16) [] 1000000000000
    -- an absent later value equals its first: of the 20 written for symbol 24, or of what that one counts where it is absent too
    ∷ files thrice (zero_values 24 ++ twenty) 60
    ∷ files thrice (zero_values 24 ++ twenty ++ zero_values 7) 60
    ∷ files (symbol 24) (zero_values 24) 1000000000000
    ∷ is_refused 10 (files_answer (encode thrice) (zero_values 24))
    -- one that is written counts as written, also where a later one is absent
    ∷ files thrice (zero_values 24 ++ twenty ++ zero_values 8) 20
    ∷ is_refused 14 (files_answer (encode thrice) (zero_values 32 ++ twenty))
    -- more bytes than 40 values have, or a part of one
    ∷ is_refused 9 (files_answer (encode (block 7)) (zero_values 41))
    ∷ is_refused 9 (files_answer (encode (block 7)) (0 ∷ zero_values 40))
    ∷ is_refused 9 (files_answer (encode (block 7)) (0 ∷ zero_values 39))
    ∷ []

pub absent-hold : all_hold absent ≡ true
unfolding absent zero_values twenty thrice files computed value_or symbol_value file_value values_from values_whole files_refusal files_answer
absent-hold = refl

-- what 40 absent values count
pub all-absent : file_values [] ≡ replicate 16 1000000 ++ replicate 24 1000000000000
unfolding computed value_or symbol_value file_value values_from
all-absent = refl

-- what a file of two values counts, the lowest byte of each first; then 14 absent counts and 24 absent times
pub two-written : file_values (1 ∷ 2 ∷ 0 ∷ 0 ∷ 0 ∷ 0 ∷ 0 ∷ 3 ∷ zero_values 1) ≡ 216172782113784321 ∷ 0 ∷ replicate 14 1000000 ++ replicate 24 1000000000000
unfolding zero_values computed value_or symbol_value file_value values_from
two-written = refl
