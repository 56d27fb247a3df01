-- The program's pieces on accepted tables: question 11, and the result.
use Rattle.std.specs.Prelude.{◌≡◌, refl, Bool, false, ◌&&◌, List, ℕ, None, Some, suc, ◌+◌, ◌*◌, ◌%◌, ◌<◌, ◌≤◌, eqb, leb, ltb, length}
use Rattle.std.proofs.Common.{sym, ◌∙◌, mul-le-mul_left, mul-le-mul_right, le_trans, arith}
use Rattle.std.proofs.lemmas.Bool.{lt-leb}
use Rattle.booleans.specs.Tests.{◌and◌}
use Rattle.booleans.specs.Laws.{and_assoc, and-false, and_is}
use Rattle.table.specs.Numbers.{first_paired_symbol, first_time_symbol, most_records, record_length}
use Rattle.table.specs.Table.{decode, each, encode, record_count}
use Rattle.table.specs.Trees.{records}
use Rattle.table.specs.Checking.{IsTable, question1}
use Rattle.table.proofs.Laws.RoundTrip.{length-encode}
use Rattle.table.proofs.Laws.Tables.{count-is}
use Rattle.writing.specs.Records.{front}
use Rattle.splice.specs.Graft.{graft}
use Rattle.splice.specs.Renaming.{renamed_table}
use Rattle.splice.specs.Splice.{occurrences_in, sendable_first, splice, splice_records}
use Rattle.splice.specs.Laws.Splice.{graft-records, long-table, occurrences-table, sendable-table, splice-table}
use Rattle.graft.specs.Answers.{graft_table, question11, question12}
use Rattle.graft.specs.Making.{GraftMade}

-- ---- question 11

pub asked-11 : (b : List ℕ) → IsTable b → (s : ℕ) (sends : Bool) → sends ≡ each (sendable_first s) (record_count b) b → (leb first_time_symbol s && ltb s first_paired_symbol && sends) ≡ question11 b s
unfolding question11
asked-11 b t s sends e = rw (and_is, and_is, e, sendable-table b t s) (sym (and_assoc (leb first_time_symbol s and ltb s first_paired_symbol) _ _))

-- ---- the result

pub product_small : (a b : ℕ) → a ≤ most_records → b ≤ most_records → a * (b + 1) ≤ most_records * (most_records + 1)
product_small a b h i = let j : b + 1 ≤ most_records + 1 = omega arith in le_trans (mul-le-mul_right (b + 1) h) (mul-le-mul_left most_records j)

long-asked : (x : List ℕ) → record_length * most_records < length x → question12 x ≡ false
unfolding question12 question1 ◌and◌
long-asked x l = rw (lt-leb (length x) (record_length * most_records) l, and-false (eqb (length x % record_length) 0 and leb record_length (length x))) refl

module _ (h b : List ℕ) (s : ℕ) (H : IsTable h) (B : IsTable b) where
  result-records : records (graft s (decode b) (decode h)) ≡ record_count h + occurrences_in s (record_count h) h * suc (record_count b)
  result-records =
      graft-records s (decode b) (decode h) H.accepted.listed ∙ rw (← count-is h H, ← count-is b B, ← occurrences-table h H s) refl

  -- more than 512 records fail question 1
  pub made-long : (work : List ℕ) (count : ℕ) → count ≡ occurrences_in s (record_count h) h → most_records < record_count h + count * (record_count b + 1) → GraftMade h b s None work
  unfolding graft_table
  made-long work count e l = long-asked (encode (graft s (decode b) (decode h))) (rw length-encode (omega (arith, result-records, rw e at l)))

  module _ (count : ℕ) (e : count ≡ occurrences_in s (record_count h) h) (l : record_count h + count * (record_count b + 1) ≤ most_records) where
    pub made-room : splice_records s (record_count b) (record_count h) h ≤ most_records
    made-room = rw (count-is b B) (omega (arith, long-table h H s (decode b), result-records, rw e at l))

    pub made_all : (work : List ℕ) (r : ℕ) → length work ≡ record_length * most_records
        → (r ≡ splice_records s (record_count b) (record_count h) h) × (front r work ≡ splice s (renamed_table b) (record_count h) h) → GraftMade h b s (Some r) work
    unfolding graft_table
    made_all work r w (x, y) =
        record { bytes = y ∙ splice-table h H s (decode b); room = omega (arith, x, made-room) }
