-- Document 01, "The desk program", with requests 2 and 7 of document 02: what it decides from the bytes of tree.tab and values.tab.
use Rattle.std.specs.Prelude.{◌≡◌, Bool, cond, List, [], ◌∷◌, ◌++◌, ℕ, zero, suc, ◌%◌, ◌*◌, ◌-◌, ◌≤◌, eqb, leb, ltb, length, take, drop}
use Rattle.booleans.specs.Tests.{◌and◌}
use Rattle.refusals.specs.Refusals.{Answer, Given, Refused, refused}
use Rattle.table.specs.Numbers.{how_many_symbols, how_many_values, later_place}
use Rattle.table.specs.Bytes.{from_bytes}
use Rattle.table.specs.Asking.{◌asks◌, by_refusal, first_no}
use Rattle.table.specs.Checking.{questions}
use Rattle.quoting.specs.declared.Quote.{Quote}
use Rattle.values.specs.Values.{ceiling}
use Rattle.quoting.specs.Answers.{quote_of, quote_questions, quoted_figure}

-- bytes that a value takes in values.tab
abbrev pub value_length : ℕ
value_length = 8

-- the value at the front of the file's bytes from its place on, or a where it is absent
unfoldable pub value_or : (a : ℕ) → List ℕ → ℕ
value_or a [] = a
value_or a (x ∷ b) = from_bytes (take value_length (x ∷ b))

-- the value of symbol i, its first where it has two: an absent one counts the most that its place allows
unfoldable pub symbol_value : List ℕ → ℕ → ℕ
symbol_value b i = value_or (ceiling i) (drop (value_length * i) b)

-- any value i: an absent later one equals its first
unfoldable pub file_value : List ℕ → ℕ → ℕ
file_value b i = cond (ltb i how_many_symbols) (symbol_value b i) (value_or (symbol_value b (i - later_place)) (drop (value_length * i) b))

-- n values from value i on
unfoldable pub values_from : (n i : ℕ) → List ℕ → List ℕ
values_from zero i b = []
values_from (suc n) i b = file_value b i ∷ values_from n (suc i) b

-- whole values, and no more than there are
unfoldable pub values_whole : List ℕ → Bool
values_whole b = eqb (length b % value_length) 0 and leb (length b) (value_length * how_many_values)

-- the values of a file, with what the absent ones count
abbrev pub file_values : List ℕ → List ℕ
file_values v = values_from how_many_values 0 v

-- 9 is asked of the file, then of its values
unfoldable pub files_refusal : (tree values : List ℕ) → ℕ
files_refusal t v = first_no (questions t ++ 9 asks values_whole v ∷ quote_questions t (file_values v))

unfoldable pub files_answer : (tree values : List ℕ) → Answer Quote
files_answer t v = by_refusal (files_refusal t v) (Given (quote_of t (file_values v))) Refused

-- What a quote of a tree and a file promises: with more values written after the file's own, the figure is no higher, where both get one. So leaving last
-- values out never lowers a quote.
unfoldable pub FilesPromise : (tree values : List ℕ) → Answer Quote → Type 0
FilesPromise t v q =
    (more : List ℕ) → let written = files_answer t (v ++ more) in
    refused q ≡ 0 → refused written ≡ 0 → quoted_figure written ≤ quoted_figure q
