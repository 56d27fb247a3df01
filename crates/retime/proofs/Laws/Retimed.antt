-- A table whose block was given another time: it is the table of the tree with that time, so it is accepted; and giving the old time back restores it.
use Rattle.std.specs.Prelude.{◌≡◌, Bool, cond, List, ◌++◌, eqb, drop, length, take}
use Rattle.std.proofs.Math.Path.{refl, ap}
use Rattle.std.proofs.Common.{subst, sym, ◌∙◌, arith, eqb→eq, ltb→lt, lt→ltb, take_at, ne_eqb}
use Rattle.std.proofs.Math.Bool.{true, false}
use Prim.Native.Nat.{ℕ, zero, suc, ◌+◌, ◌*◌, ◌-◌, ◌<◌, ◌≤◌}
use Rattle.std.proofs.Math.Nat.{zero-add}
use Rattle.std.proofs.Math.Dec.{T, eqb_refl, leb→le, le→leb}
use Rattle.std.proofs.Math.Seq.{take-length}
use Rattle.booleans.specs.Laws.{T-is, both, join-and}
use Rattle.table.specs.Checking.{IsTable}
use Rattle.table.specs.Numbers.{most_time, record_length}
use Rattle.table.specs.Questions.{kind_in_range, limit_in_range, paired, paired_block, time_in_range}
use Rattle.table.specs.Table.{child_byte, decode, encode, record_bytes, record_count}
use Rattle.marking.specs.Marks.{node_at}
use Rattle.marking.specs.Opening.{number_is}
use Rattle.table.proofs.Laws.Reading.{part-to}
use Rattle.writing.specs.Fields.{value_at, with_value}
use Rattle.writing.specs.Over.{over}
use Rattle.writing.specs.Laws.Fields.{field-before, field-length, timed, value-timed}
use Rattle.filling.specs.Fill.{on_kind, on_node, on_tree}
use Rattle.filling.specs.Records.{on_record, on_records}
use Rattle.filling.specs.Laws.Shape.{Ranged, kind-same, limit-same, tree-same}
use Rattle.filling.specs.Laws.Records.{accepted-table-on, length-records, nodes-on, record-ranged, records-split, records-table, table_on}
use Rattle.retime.specs.Nodes.{Block, Choice, Kind, Loop, Most, Node, Number, Plain, Sequence, Symbol}
use Rattle.retime.specs.Answers.{is_time, question17}

-- ---- question 17

pub record Retimable (b : List ℕ) (i x y : ℕ) : Type 0 where
  pub inside : i < record_count b
  pub stands : (node_at b i).kind ≡ Block (Plain x)
  pub low : y ≤ most_time

time-is : (x : ℕ) (k : Kind) → T (is_time x k) → k ≡ Block (Plain x)
unfolding is_time number_is
time-is x (Block (Plain n)) h = ap (λ m. Block (Plain m)) (eqb→eq n x h)
time-is x (Block (Symbol s)) h = absurd h
time-is x Sequence h = absurd h
time-is x Choice h = absurd h
time-is x (Loop n) h = absurd h

is-time : (x : ℕ) → T (is_time x (Block (Plain x)))
unfolding is_time number_is
is-time x = eqb_refl x

pub same-time : (m n : ℕ) → Block (Plain m) ≡ Block (Plain n) → m ≡ n
unfolding is_time number_is
same-time m n e = eqb→eq m n (subst (λ k. T (is_time n k)) (sym e) (is-time n))

pub asked-17 : (b : List ℕ) (i x y : ℕ) → T (question17 b i x y) → Retimable b i x y
unfolding question17
asked-17 b i x y h =
    let (p, c) = both _ _ h in
    let (a, s) = both _ _ p in
    record { inside = ltb→lt i (record_count b) a; stands = time-is x _ s; low = leb→le y most_time c }

pub says-17 : (b : List ℕ) (i x y : ℕ) → Retimable b i x y → T (question17 b i x y)
unfolding question17
says-17 b i x y r =
    join-and _ _ (join-and _ _ (lt→ltb i (record_count b) r.inside) (subst (λ k. T (is_time x k)) (sym r.stands) (is-time x))) (le→leb y most_time r.low)

-- the record lies within the table
pub record-inside : (b : List ℕ) (i : ℕ) → i < record_count b → record_length * (i + 1) ≤ length b
record-inside b i l = omega arith

-- ---- numbers that are put, and numbers that stay

-- time y at record i, and every other time or bound as it was
abbrev new_time : (i y : ℕ) → ℕ → Number → Number
new_time i y j m = cond (eqb j i) (Plain y) m

abbrev kept : ℕ → Number → Number
kept j m = m

abbrev limits : ℕ → Most → Most
limits j m = m

module _ (i y : ℕ) where
  put-by : (j : ℕ) (c : Bool) → eqb j i ≡ c → new_time i y j ≡ (λ m. cond c (Plain y) m)
  put-by j c e = λ k m. cond (e k) (Plain y) m

  put-here : new_time i y i ≡ (λ m. Plain y)
  put-here = put-by i true (T-is _ (eqb_refl i))

  -- records that are not record i stay
  away : (n k : ℕ) (b : List ℕ) → ((j : ℕ) → k ≤ j → j < k + n → j ≡ i → ⊥) → on_records (new_time i y) limits n k b ≡ on_records kept limits n k b
  unfolding on_records
  away zero k b h = refl
  away (suc n) k b h =
      rw (put-by k false (ne_eqb k i (h k (omega arith) (omega arith))), away n (suc k) (drop record_length b) (λ j l m. h j (omega arith) (omega arith))) refl

  -- the numbers of record i's node, a block, and of any other's
  new-ranged : y ≤ most_time → (j : ℕ) (n : Node) (x : ℕ) (c : Bool) → eqb j i ≡ c → (T c → n.kind ≡ Block (Plain x)) → T (kind_in_range n.kind) → T (limit_in_range n.limit)
      → Ranged (new_time i y) limits j n
  new-ranged low j n x true e f p q = record {
    kind = rw (put-by j true e, f tt) (unfold on_kind kind_in_range time_in_range in le→leb y most_time low);
    limit = rw (limit-same n.limit) q;
    paired = rw (put-by j true e, f tt) (unfold on_kind paired_block paired in refl);
  }
  new-ranged low j n x false e f p q = record { kind = rw (put-by j false e, kind-same n.kind) p; limit = rw (limit-same n.limit) q; paired = rw (put-by j false e, kind-same n.kind) refl }

-- a block of plain time, with whatever is put for it
timed-on : (g : Number → Number) (n : Node) (x y : ℕ) → n.kind ≡ Block (Plain x) → g (Plain x) ≡ Plain y → on_node g (λ m. m) n ≡ timed y n
unfolding on_kind
timed-on g n x y e f = λ k. record { kind = (ap (on_kind g) e ∙ ap Block f) k; limit = limit-same n.limit k; address = n.address }

-- ---- the table with another time

module _ (b : List ℕ) (i x y : ℕ) (t : IsTable b) (r : Retimable b i x y) where
  abbrev here : Node
  here = node_at b i

  -- the bytes before the record and after it
  abbrev earlier : List ℕ
  earlier = on_records kept limits i 0 b

  abbrev later : List ℕ
  later = on_records kept limits (record_count b - suc i) (suc i) (drop record_length (drop (record_length * i) b))

  -- a table with that node at the record
  abbrev with : Node → List ℕ
  with n = earlier ++ (record_bytes n (child_byte (drop (record_length * i) b)) ++ later)

  place : length earlier ≡ record_length * i
  place = length-records kept limits i 0 b

  parts : (g : ℕ → Number → Number)
      → on_records g limits (record_count b) 0 b
      ≡ on_records g limits i 0 b ++ (on_record (g i) (λ m. m) (drop (record_length * i) b) ++ on_records g limits (record_count b - suc i) (suc i) (drop record_length (drop (record_length * i) b)))
  unfolding on_records
  parts g =
      let n : record_count b ≡ i + suc (record_count b - suc i) = omega (arith, r.inside) in
      ap (λ k. on_records g limits k 0 b) n ∙ records-split g limits i (suc (record_count b - suc i)) 0 b ∙ rw zero-add refl

  old-bytes : b ≡ with (timed x here)
  old-bytes =
      sym (records-table b t kept limits ∙ ap encode (tree-same 0 (decode b)) ∙ t.back) ∙ parts kept
      ∙ ap (λ (n : Node). with n) (timed-on (λ m. m) here x x r.stands refl)

  new-bytes : encode (on_tree (new_time i y) limits 0 (decode b)) ≡ with (timed y here)
  new-bytes =
      sym (records-table b t (new_time i y) limits) ∙ parts (new_time i y)
      ∙ rw (away i y i 0 b (λ j l m e. omega (arith, e)), away i y (record_count b - suc i) (suc i) (drop record_length (drop (record_length * i) b)) (λ j l m e. omega (arith, e)), timed-on (new_time i y i) here x y r.stands (ap (λ (g : Number → Number). g (Plain x)) (put-here i y))) refl

  written : with_value b i y ≡ with (timed y here)
  written = ap (λ c. with_value c i y) old-bytes ∙ value-timed earlier here _ i x y later place

  retimed-tree : with_value b i y ≡ encode (on_tree (new_time i y) limits 0 (decode b))
  retimed-tree = written ∙ sym new-bytes

  pub retimed-back : with_value (with_value b i y) i x ≡ b
  retimed-back = ap (λ c. with_value c i x) written ∙ value-timed earlier here _ i y x later place ∙ sym old-bytes

  pub retimed-length : length (with_value b i y) ≡ length b
  retimed-length = field-length b (value_at i) 8 y (omega (arith, record-inside b i r.inside))

  -- its numbers are in range, the old time too
  pub old-low : x ≤ most_time
  unfolding kind_in_range time_in_range
  old-low = leb→le x most_time (subst (λ k. T (kind_in_range k)) r.stands (record-ranged b t i r.inside).0)

  ranged : (j : ℕ) → j < record_count b → Ranged (new_time i y) limits j (node_at b j)
  ranged j l =
      let (p, q) = record-ranged b t j l in
      new-ranged i y r.low j (node_at b j) x (eqb j i) refl (λ h. ap (λ k. (node_at b k).kind) (eqb→eq j i h) ∙ r.stands) p q

  pub retimed-table : IsTable (with_value b i y)
  retimed-table = subst IsTable (sym retimed-tree) (table_on (new_time i y) limits b t ranged)

  -- the block there has the new time
  pub retimed-there : (node_at (with_value b i y) i).kind ≡ Block (Plain y)
  retimed-there =
      ap (λ c. (node_at c i).kind) retimed-tree
      ∙ ap (λ (n : Node). n.kind) (nodes-on (new_time i y) limits b t (accepted-table-on (new_time i y) limits b t ranged).listed i r.inside ∙ timed-on (new_time i y i) here x y r.stands (ap (λ (g : Number → Number). g (Plain x)) (put-here i y)))

  -- it can be given the old time back
  pub retimable-back : Retimable (with_value b i y) i y x
  retimable-back = record { inside = rw retimed-length r.inside; stands = retimed-there; low = old-low }

-- ---- a table copied to the front of a buffer, and a value written there

pub copy-retimed : (b work copy new : List ℕ) (n i y : ℕ) → n ≡ length b → record_length * (i + 1) ≤ length b → copy ≡ over (take n b) work → new ≡ with_value copy i y
    → take (n - 0) (drop 0 new) ≡ with_value b i y
unfolding over
copy-retimed b work copy new n i y e l f g =
    part-to new n
    ∙ ap (take n) (g ∙ ap (λ r. with_value r i y) (f ∙ ap (λ r. over r work) (ap (λ k. take k b) e ∙ take-length b)) ∙ field-before b (drop (length b) work) (value_at i) 8 y (omega arith))
    ∙ take_at (with_value b i y) (drop (length b) work) n (field-length b (value_at i) 8 y (omega arith) ∙ sym e)
