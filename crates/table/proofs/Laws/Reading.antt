-- What the reader's code computes, one byte or one record at a time, against the definitions.
use Rattle.std.specs.Prelude.{◌≡◌, refl, Bool, ◌||◌, false, not, true, List, [], ◌∷◌, ℕ, zero, suc, ◌+◌, ◌*◌, ◌^◌, ◌-◌, ◌<◌, ◌≤◌, T, eqb, get_or, length, take, drop}
use Rattle.std.proofs.Common.{sym, ap, ◌∙◌, zero-add, add_comm, add-zero, suc-add, add-suc, mul_assoc, mul-suc, mul-zero, arith, length-drop, take_all, drop-drop, ne_eqb}
use Rattle.std.proofs.Math.Nat.{pow-succ', sub-zero}
use Rattle.std.proofs.Math.Seq.{take-nil, drop-nil}
use Rattle.std.proofs.lemmas.Bool.{not-false, not-true}
use Rattle.booleans.specs.Tests.{◌and◌}
use Rattle.booleans.specs.Laws.{both}
use Rattle.table.specs.Nodes.{Symbol, Number, Most, Loop, AtMost}
use Rattle.table.specs.Bytes.{from_bytes}
use Rattle.table.specs.Numbers.{record_length, most_children}
use Rattle.table.specs.Questions.{most_in_range}
use Rattle.table.specs.Checking.{limit_count}
use Rattle.table.specs.Table.{child_byte, each, each_by, field, first_node, form_trees, form_trees_by, kind_from, limit_from, loop_byte, most_from, num_from, record_count}

-- ---- fields

-- a field is its lowest byte and the field of the others; past the end each byte counts 0
field-more : (b : List ℕ) (i n : ℕ) → field b i (suc n) ≡ get_or b i 0 + 256 * field b (suc i) n
unfolding from_bytes
field-more [] i n = rw (drop-nil i, take-nil) refl
field-more (x ∷ b) zero n = refl
field-more (x ∷ b) (suc i) n = field-more b i n

-- a field is its m lowest bytes and the n others
pub field-split : (m : ℕ) (b : List ℕ) (i n : ℕ) → field b i (m + n) ≡ field b i m + 256 ^ m * field b (i + m) n
unfolding from_bytes
field-split zero b i n = rw (zero-add n, add-zero) (omega arith)
field-split (suc m) b i n =
    let deeper = field-split m b (suc i) n in
    rw (suc-add m n, add-suc i m, field-more b i (m + n), field-more b i m, pow-succ', mul_assoc, ← suc-add i m) (omega arith)

pub field-4 : (b : List ℕ) (i : ℕ) → field b i 4 ≡ get_or b i 0 + 256 * (get_or b (i + 1) 0 + 256 * (get_or b (i + 2) 0 + 256 * get_or b (i + 3) 0))
unfolding from_bytes
field-4 b i =
    let one : i + 1 ≡ suc i = omega arith in
    let two : i + 2 ≡ suc (suc i) = omega arith in
    let three : i + 3 ≡ suc (suc (suc i)) = omega arith in
    rw (one, two, three) (omega (arith, field-more b i 3, field-more b (suc i) 2, field-more b (suc (suc i)) 1, field-more b (suc (suc (suc i))) 0))

pub field-8 : (b : List ℕ) (i : ℕ)
    → field b i 8
    ≡ get_or b i 0 + 256 * (get_or b (i + 1) 0 + 256 * (get_or b (i + 2) 0 + 256 * (get_or b (i + 3) 0 + 256 * (get_or b (i + 4) 0 + 256 * (get_or b (i + 5) 0 + 256 * (get_or b (i + 6) 0 + 256 * get_or b (i + 7) 0))))))
field-8 b i =
    let five : i + 4 + 1 ≡ i + 5 = omega arith in
    let six : i + 4 + 2 ≡ i + 6 = omega arith in
    let seven : i + 4 + 3 ≡ i + 7 = omega arith in
    let high = rw (five, six, seven) at (field-4 b (i + 4)) in
    omega (arith, field-split 4 b i 4, field-4 b i, high)

-- ---- the cases that are left when a byte is none of the others

pub is-symbol : (s n : ℕ) → (s ≡ 0 → ⊥) → Symbol n ≡ num_from s n
unfolding num_from
is-symbol zero n h = absurd (h refl)
is-symbol (suc s) n h = refl

pub is-triangular : (s n : ℕ) → (s ≡ 0 → ⊥) → (s ≡ 1 → ⊥) → Most.Triangular n ≡ most_from s n
unfolding most_from
is-triangular zero n h i = absurd (h refl)
is-triangular (suc zero) n h i = absurd (i refl)
is-triangular (suc (suc s)) n h i = refl

pub is_loop : (k : ℕ) (v : Number) → (k ≡ 0 → ⊥) → (k ≡ 1 → ⊥) → (k ≡ 2 → ⊥) → Loop v ≡ kind_from k v
unfolding kind_from
is_loop zero v h i j = absurd (h refl)
is_loop (suc zero) v h i j = absurd (i refl)
is_loop (suc (suc zero)) v h i j = absurd (j refl)
is_loop (suc (suc (suc k))) v h i j = refl

pub is-limit : (k : ℕ) (m : Most) → (k ≡ 0 → ⊥) → AtMost k m ≡ limit_from k m
unfolding limit_from
is-limit zero m h = absurd (h refl)
is-limit (suc k) m h = refl

pub limit-count : (k : ℕ) (m : Most) → limit_count (limit_from k m) ≡ (eqb k 0 || most_in_range m)
unfolding limit_from limit_count
limit-count zero m = refl
limit-count (suc k) m = rw (ne_eqb (suc k) 0 (omega arith)) refl

limit-name : (k : ℕ) (m : Most) → loop_byte (limit_from k m) ≡ k
unfolding loop_byte limit_from
limit-name zero m = refl
limit-name (suc k) m = refl

-- the loop that the first record's limit names is its byte 3
pub name-byte : (b : List ℕ) → loop_byte (first_node b).limit ≡ get_or b 3 0
unfolding first_node
name-byte b = limit-name (get_or b 3 0) _

-- ---- parts

-- what `&b[k..]` holds
pub part-from : (b : List ℕ) (k : ℕ) → take (length b - k) (drop k b) ≡ drop k b
part-from b k = take_all (length b - k) (drop k b) (rw length-drop (omega arith))

-- what `&b[0..k]` holds
pub part-to : (b : List ℕ) (k : ℕ) → take (k - 0) (drop 0 b) ≡ take k b
part-to b k = ap (λ n. take n b) (sub-zero k)

-- the part that starts at record i, as code that lends `&b[record_length * i..]` has it
abbrev pub part_at : List ℕ → ℕ → List ℕ
part_at b i = take (length b - record_length * i) (drop (record_length * i) b)

pub part-long : (b : List ℕ) (i : ℕ) → i < record_count b → record_length ≤ length (part_at b i)
part-long b i h = rw (part-from, length-drop) (omega arith)

-- past record i lies record i + 1, and there is one fewer to come
pub next-count : (n i : ℕ) → i < n → n - i ≡ suc (n - (i + 1))
next-count n i h = omega arith

pub next-part : (b : List ℕ) (i : ℕ) → drop record_length (drop (record_length * i) b) ≡ drop (record_length * (i + 1)) b
next-part b i =
    let e : record_length * (i + 1) ≡ record_length * i + record_length = omega arith in
    rw (e, drop-drop) refl

pub none_left : (n i : ℕ) → n ≤ i → n - i ≡ 0
none_left n i h = omega arith

-- ---- a pass over the records with one test

-- the records before record i passed the test, and the others are left
pub record Passed (p : List ℕ → Bool) (b : List ℕ) (i : ℕ) : Type 0 where
  pub within : i ≤ record_count b
  pub left : each p (record_count b) b ≡ each p (record_count b - i) (drop (record_length * i) b)

pub none_passed : (p : List ℕ → Bool) (b : List ℕ) → Passed p b 0
none_passed p b = record { within = omega arith; left = ap (λ n. each p n b) (sym (sub-zero _)) }

each_step : (p : List ℕ → Bool) (b : List ℕ) (i : ℕ) (r : Bool) → i < record_count b → Passed p b i → r ≡ p (part_at b i)
    → each p (record_count b) b ≡ (r and each p (record_count b - (i + 1)) (drop (record_length * (i + 1)) b))
unfolding each_by
each_step p b i r h q e = q.left ∙ rw (next-count _ _ h, e, part-from, ← next-part) refl

pub one-passed : (p : List ℕ → Bool) (b : List ℕ) (i : ℕ) (r : Bool) → i < record_count b → Passed p b i → r ≡ p (part_at b i) → not r ≡ false → Passed p b (i + 1)
unfolding ◌and◌
one-passed p b i r h q e t = record { within = omega arith; left = each_step p b i r h q e ∙ rw (not-false r t) refl }

pub one-failed : (p : List ℕ → Bool) (b : List ℕ) (i : ℕ) (r : Bool) → i < record_count b → Passed p b i → r ≡ p (part_at b i) → not r ≡ true → each p (record_count b) b ≡ false
unfolding ◌and◌
one-failed p b i r h q e t = each_step p b i r h q e ∙ rw (not-true r t) refl

pub all-passed : (p : List ℕ → Bool) (b : List ℕ) (i : ℕ) → record_count b ≤ i → Passed p b i → each p (record_count b) b ≡ true
unfolding each_by
all-passed p b i h q = q.left ∙ rw (none_left _ _ h) refl

-- a test of each record, of l bytes, says yes of every one
pub each_at : (l : ℕ) (p : List ℕ → Bool) (n : ℕ) (b : List ℕ) (j : ℕ) → T (each_by l p n b) → j < n → T (p (drop (l * j) b))
unfolding each_by
each_at l p zero b j h k = absurd (omega arith)
each_at l p (suc n) b zero h k = rw mul-zero (both _ _ h).0
each_at l p (suc n) b (suc j) h k = rw (mul-suc l j, add_comm (l * j) l, ← drop-drop) (each_at l p n (drop l b) j (both _ _ h).1 (omega arith))

-- ---- a pass over the records that counts the trees still wanted

pub record Wanted (b : List ℕ) (k i : ℕ) : Type 0 where
  pub within : i ≤ record_count b
  pub few : k ≤ 1 + most_children * i
  pub left : form_trees (record_count b) 1 b ≡ form_trees (record_count b - i) k (drop (record_length * i) b)

pub wants-one : (b : List ℕ) → Wanted b 1 0
wants-one b = record { within = omega arith; few = omega arith; left = ap (λ n. form_trees n 1 b) (sym (sub-zero _)) }

pub wants-next : (b : List ℕ) (k i c : ℕ) → i < record_count b → (k ≡ 0 → ⊥) → Wanted b k i → c ≡ child_byte (part_at b i) → c < 256 → Wanted b (k - 1 + c) (i + 1)
unfolding form_trees_by
wants-next b zero i c h z w e l = absurd (z refl)
wants-next b (suc k) i c h z w e l = let less_one : suc k - 1 ≡ k = omega arith in record {
  within = omega arith;
  few = omega arith;
  left = w.left ∙ rw (next-count _ _ h, less_one, e, part-from, ← next-part) refl;
}

pub wants-none : (b : List ℕ) (k i : ℕ) → i < record_count b → k ≡ 0 → Wanted b k i → form_trees (record_count b) 1 b ≡ false
unfolding form_trees_by
wants-none b k i h z w = w.left ∙ rw (next-count _ _ h, z) refl

pub wants-end : (b : List ℕ) (k i : ℕ) → record_count b ≤ i → Wanted b k i → form_trees (record_count b) 1 b ≡ eqb k 0
unfolding form_trees_by
wants-end b k i h w = w.left ∙ rw (none_left _ _ h) refl
