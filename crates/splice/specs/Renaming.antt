-- The sent table renamed as the program does it: record after record, with no tree at hand.
use Rattle.std.specs.Prelude.{cond, List, [], ◌∷◌, ◌++◌, ℕ, zero, suc, ◌+◌, ◌-◌, eqb, leb, drop, get_or, length, set, take}
use Rattle.table.specs.Numbers.{most_loops, record_length}
use Rattle.table.specs.Table.{child_byte, decode, encode, first_node}
use Rattle.splice.specs.Graft.{rename, renamed_name}
use Rattle.splice.specs.Nodes.{Kind, Block, Sequence, Choice, Loop}

-- Question 4's count of the trees that are wanted tells the loops around a record: where so many were wanted at a loop's record, its body ends where so
-- many are wanted again, with its exit the first of them. A list of these counts, innermost first, is the loops around.

-- the loops around the record that comes now: the innermost is left where its body has ended
unfoldable pub still_around : (wanted : ℕ) (ends : List ℕ) → List ℕ
still_around w [] = []
still_around w (x ∷ ends) = cond (eqb x w) ends (x ∷ ends)

-- the loops around what follows the record of a node with these around it; in accepted tables there are never more than the most
unfoldable pub entered : Kind → (wanted : ℕ) (ends : List ℕ) → List ℕ
entered (Block t) w ends = ends
entered Sequence w ends = ends
entered Choice w ends = ends
entered (Loop n) w ends = cond (leb (suc (length ends)) most_loops) (w ∷ ends) ends

-- the first record of b, with d loops around its node: byte 3 is renamed, and no other byte changes
unfoldable pub renamed_record : (d : ℕ) → List ℕ → List ℕ
renamed_record d b = set (take record_length b) 3 (renamed_name (get_or b 3 0) d)

-- the first n records of b, renamed
unfoldable pub renamed_records : (n wanted : ℕ) (ends : List ℕ) → List ℕ → List ℕ
renamed_records zero w ends b = []
renamed_records (suc n) w ends b =
    renamed_record (length (still_around w ends)) b
    ++ renamed_records n (w - 1 + child_byte b) (entered (first_node b).kind w (still_around w ends)) (drop record_length b)

-- the sent table, renamed
abbrev pub renamed_table : List ℕ → List ℕ
renamed_table b = encode (rename (decode b) 0)

-- room for the counts of the loops around a node, and one more
abbrev pub loop_room : ℕ
loop_room = suc most_loops

-- the counts in an array, the innermost loop's last
unfoldable pub stack : (ends : List ℕ) (outer : ℕ) → List ℕ
stack e zero = []
stack e (suc n) = get_or e n 0 ∷ stack e n
