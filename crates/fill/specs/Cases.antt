-- Examples of filling and opening, checked against the definitions: a bound and a limit that are symbol 3, filled with 4, and refusals.
use Rattle.std.specs.Prelude.{◌≡◌, refl, List, [], ◌∷◌, ◌++◌, ℕ, replicate}
use Rattle.refusals.specs.Refusals.{refused}
use Rattle.table.specs.Notation.{◌/T◌at◌, block, either, symbol}
use Rattle.table.specs.Questions.{number_has}
use Rattle.table.specs.Table.{encode}
use Rattle.table.specs.Trees.{Tree, nil, node, ◌▸◌}
use Rattle.quoting.specs.Cases.{computed}
use Rattle.marking.specs.Marks.{digit_at, digit_of, mark_bytes, mark_digit, marks_of, most_has}
use Rattle.marking.specs.Opening.{all_from, digit_opens, kind_opens, limit_opens, most_is, number_is, question16}
use Rattle.filling.specs.Fill.{fill_tree, on_kind, on_limit, on_tree, open_tree, put}
use Rattle.fill.specs.Answers.{both_ask, fill_answer, fill_refusal, fillable, not_under_four, open_answer, open_refusal, question15}
use Rattle.fill.specs.Nodes.{AtMost, Block, Loop, Most, Number, Plain, Sequence, Symbol, Unlimited}

-- (4, X, loop n of 7/m@1), X symbol 16 and exit 4; the loop's address is 96, its body's 112
pub example : (n : Number) (m : Most) → Tree
example n m =
    node (record { kind = Sequence; limit = Unlimited; address = 0 })
    (block 4
    ▸ symbol 16
    ▸ node (record { kind = Loop n; limit = Unlimited; address = 96 }) (node (record { kind = Block (Plain 7); limit = AtMost 1 m; address = 112 }) nil ▸ block 4 ▸ nil)
    ▸ nil)

-- 128 bytes of marks that begin with these two
pub marks_from : (first second : ℕ) → List ℕ
marks_from x y = x ∷ y ∷ replicate 126 0

-- ---- the tables written

pub record Writes : Type 0 where
  filled : fill_tree 3 4 (example (Symbol 3) (Most.Symbol 3)) ≡ example (Plain 4) (Most.Plain 4)
  -- the bound of record 3 and the limit of record 4
  marked : marks_of 3 (encode (example (Symbol 3) (Most.Symbol 3))) ≡ marks_from 64 2
  opened : open_tree 3 (digit_at (marks_from 64 2)) (example (Plain 4) (Most.Plain 4)) ≡ example (Symbol 3) (Most.Symbol 3)

writes-hold : Writes
unfolding example marks_from computed on_tree on_kind on_limit put number_has most_has marks_of mark_bytes mark_digit digit_of
writes-hold = record { filled = refl; marked = refl; opened = refl }

-- ---- filling refused, by the refusal's number: 0 for none

-- with buffers of so many bytes
pub filling : (t : Tree) (s x room marks : ℕ) → ℕ
filling t s x room marks = refused (fill_answer (encode t) s x (replicate room 0) (replicate marks 0))

pub record Fillings : Type 0 where
  used : filling (example (Symbol 3) (Most.Symbol 3)) 3 4 144 128 ≡ 0
  longer-buffers : filling (example (Symbol 3) (Most.Symbol 3)) 3 4 145 129 ≡ 0
  last-single : filling (block 7) 23 5 24 128 ≡ 0
  first-paired : filling (block 7) 24 5 24 128 ≡ 15
  no_symbol : filling (block 7) 32 5 24 128 ≡ 15
  past-the-values : filling (block 7) 40 5 24 128 ≡ 15
  most-count : filling (block 7) 15 1000000 24 128 ≡ 0
  count-above : filling (block 7) 15 1000001 24 128 ≡ 15
  most-time : filling (block 7) 16 1000000000000 24 128 ≡ 0
  time-above : filling (block 7) 16 1000000000001 24 128 ≡ 15
  under-four : filling (block 7 /T 3 at 255) 3 5 24 128 ≡ 15
  other-under-four : filling (block 7 /T 3 at 255) 4 5 24 128 ≡ 0
  short : filling (block 7) 23 5 23 128 ≡ 8
  short-marks : filling (block 7) 23 5 24 127 ≡ 8
  eight-first : filling (block 7) 24 5 23 128 ≡ 8
  three-first : filling (symbol 15) 24 5 23 128 ≡ 3

fillings-hold : Fillings
unfolding example computed filling fill_answer fill_refusal both_ask question15 fillable not_under_four
fillings-hold = record {
  used = refl;
  longer-buffers = refl;
  last-single = refl;
  first-paired = refl;
  no_symbol = refl;
  past-the-values = refl;
  most-count = refl;
  count-above = refl;
  most-time = refl;
  time-above = refl;
  under-four = refl;
  other-under-four = refl;
  short = refl;
  short-marks = refl;
  eight-first = refl;
  three-first = refl;
}

-- ---- opening refused

-- with a buffer of so many bytes
pub opening_of : (t : Tree) (marks : List ℕ) (s x room : ℕ) → ℕ
opening_of t m s x room = refused (open_answer (encode t) m s x (replicate room 0))

-- of the example's six records, whose plain bound and limit are 4
pub opening : (marks : List ℕ) (s x room : ℕ) → ℕ
opening m s x room = opening_of (example (Plain 4) (Most.Plain 4)) m s x room

pub record Openings : Type 0 where
  marked : opening (marks_from 64 2) 3 4 144 ≡ 0
  -- the time of record 1
  timed : opening (marks_from 4 0) 17 4 144 ≡ 0
  other-number : opening (marks_from 64 0) 3 5 144 ≡ 16
  other-limit : opening (marks_from 0 2) 3 5 144 ≡ 16
  time-as-bound : opening (marks_from 64 0) 17 4 144 ≡ 16
  time-as-limit : opening (marks_from 0 2) 17 4 144 ≡ 16
  count-as-time : opening (marks_from 4 0) 3 4 144 ≡ 16
  -- record 2 is symbol 16 itself
  no-plain-field : opening (marks_from 16 0) 16 16 144 ≡ 16
  -- record 0 is a sequence without a limit
  no_value : opening (marks_from 1 0) 3 0 144 ≡ 16
  no-limit : opening (marks_from 2 0) 3 0 144 ≡ 16
  choice-value : opening_of (either (block 7) (block 8)) (marks_from 1 0) 3 0 72 ≡ 16
  -- record 6, and the limit of record 511
  past-the-last : opening (marks_from 0 16) 3 4 144 ≡ 16
  past_all : opening (replicate 127 0 ++ (128 ∷ [])) 3 4 144 ≡ 16
  shorter : opening (replicate 127 0) 3 4 144 ≡ 16
  longer : opening (replicate 129 0) 3 4 144 ≡ 16
  eight-first : opening (replicate 129 0) 24 4 143 ≡ 8
  fifteen-first : opening (replicate 129 0) 24 4 144 ≡ 15
  number-above : opening (replicate 128 0) 3 1000001 144 ≡ 15
  under-four : opening_of (block 7 /T 3 at 255) (replicate 128 0) 3 0 24 ≡ 15

openings-hold : Openings
unfolding example marks_from computed opening opening_of open_answer open_refusal both_ask question15 fillable not_under_four question16 all_from digit_opens kind_opens limit_opens number_is most_is digit_of
openings-hold = record {
  marked = refl;
  timed = refl;
  other-number = refl;
  other-limit = refl;
  time-as-bound = refl;
  time-as-limit = refl;
  count-as-time = refl;
  no-plain-field = refl;
  no_value = refl;
  no-limit = refl;
  choice-value = refl;
  past-the-last = refl;
  past_all = refl;
  shorter = refl;
  longer = refl;
  eight-first = refl;
  fifteen-first = refl;
  number-above = refl;
  under-four = refl;
}
