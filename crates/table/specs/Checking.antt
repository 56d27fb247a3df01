-- Document 01, "Questions put to a call": questions 1 to 7, put to a table's bytes, and the number of the first that says no.
use Rattle.std.specs.Prelude.{◌≡◌, Bool, ◌&&◌, ◌||◌, not, true, List, [], ◌∷◌, ℕ, ◌/◌, ◌%◌, ◌*◌, eqb, leb, get_or, length}
use Rattle.booleans.specs.Tests.{◌and◌}
use Rattle.table.specs.Asking.{Question, ◌asks◌, first_no}
use Rattle.table.specs.Nodes.{Limit, Unlimited, AtMost}
use Rattle.table.specs.Numbers.{fill, whole_run, most_loops, record_length, most_records, most_depth, most_weight}
use Rattle.table.specs.Questions.{Accepted, kind_in_range, most_in_range, depth, loops, named, weight}
use Rattle.table.specs.Table.{field, first_node, form_trees, each, record_count, decode, encode}

-- 1. a multiple of 24 from 24 to 12,288
unfoldable pub question1 : List ℕ → Bool
question1 b = eqb (length b % record_length) 0 and leb record_length (length b) and leb (length b) (record_length * most_records)

-- 2. A block has no child and a loop two. A sequence or choice has some (a byte counts no more than 255), no flag 1 and value 0.
abbrev pub kind_listed : (kind children flag1 value : ℕ) → Bool
kind_listed k c s v = (eqb k 0 && eqb c 0) || (eqb k 3 && eqb c 2) || ((eqb k 1 || eqb k 2) && leb 1 c && eqb s 0 && eqb v 0)

-- 2. Byte 3 is 1 to 8, or 255, or 0 with neither flag 2 nor 4 and limit 0.
abbrev pub limit_listed : (byte3 flags limit : ℕ) → Bool
limit_listed k s m = (leb 1 k && leb k most_loops) || eqb k whole_run || (eqb k 0 && eqb s 0 && eqb m 0)

-- 2. Flag 4 stands only with flag 2, and there is no other flag. Byte 1 without flag 1, halved: flag 2 is its low bit and flag 4 the next.
abbrev pub flags_listed : ℕ → Bool
flags_listed s = not (eqb s 2) && leb s 3

-- 2. of the first record's bytes before its address; flag 1 is the low bit of byte 1
abbrev pub fields_listed : List ℕ → Bool
fields_listed b =
    kind_listed (get_or b 0 0) (get_or b 2 0) (get_or b 1 0 % 2) (field b 8 8)
    && limit_listed (get_or b 3 0) (get_or b 1 0 / 2) (field b 4 4)
    && flags_listed (get_or b 1 0 / 2)

-- 2. Bytes 20 to 23 are each 255.
abbrev pub fill_listed : (byte20 byte21 byte22 byte23 : ℕ) → Bool
fill_listed w x y z = eqb w fill && eqb x fill && eqb y fill && eqb z fill

-- 2. of the first record
abbrev pub record_listed : List ℕ → Bool
record_listed b = fields_listed b && fill_listed (get_or b 20 0) (get_or b 21 0) (get_or b 22 0) (get_or b 23 0)

unfoldable pub question2 : List ℕ → Bool
question2 b = each record_listed (record_count b) b

-- 3. the plain number or symbol number of the first record's time or bound, and of its limit
unfoldable pub limit_count : Limit → Bool
limit_count Unlimited = true
limit_count (AtMost k m) = most_in_range m

unfoldable pub record_in_range : List ℕ → Bool
record_in_range b = kind_in_range (first_node b).kind and limit_count (first_node b).limit

unfoldable pub question3 : List ℕ → Bool
question3 b = each record_in_range (record_count b) b

-- 4. the records form exactly one tree
unfoldable pub question4 : List ℕ → Bool
question4 b = form_trees (record_count b) 1 b

-- 5. at most 32 nodes deep, at most 8 loops around any node
unfoldable pub question5 : List ℕ → Bool
question5 b = leb (depth (decode b)) most_depth and leb (loops (decode b) 0) most_loops

-- 6. each byte 3 of 1 to 8 names a loop around its node
unfoldable pub question6 : List ℕ → Bool
question6 b = named (decode b) 0

-- 7. the limits' weights sum to at most 255
unfoldable pub question7 : List ℕ → Bool
question7 b = leb (weight (decode b) 0) most_weight

-- questions 1 to 7, each put to the whole table before the next
unfoldable pub questions : List ℕ → List Question
questions b =
    1 asks question1 b
    ∷ 2 asks question2 b
    ∷ 3 asks question3 b
    ∷ 4 asks question4 b
    ∷ 5 asks question5 b
    ∷ 6 asks question6 b
    ∷ 7 asks question7 b
    ∷ []

-- the refusal's number, 0 for none
unfoldable pub refusal : List ℕ → ℕ
refusal b = first_no (questions b)

-- a table that questions 1 to 7 accept, as what follows them knows it: the table of an accepted tree
pub record IsTable (b : List ℕ) : Type 0 where
  pub accepted : Accepted (decode b)
  pub back : encode (decode b) ≡ b
