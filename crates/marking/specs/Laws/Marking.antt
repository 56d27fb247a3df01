-- The marks of a table: each record's digit, and the bytes as the program writes them, one after the other.
use Rattle.std.specs.Prelude.{◌≡◌, Bool, true, false, List, [], ◌∷◌, ◌++◌, ℕ, suc, ◌+◌, ◌*◌, ◌%◌, ◌/◌, ◌<◌, ◌≤◌, ltb, length, set, take}
use Rattle.std.proofs.Math.Path.{refl, ap, ap₂, sym}
use Rattle.std.proofs.Common.{◌∙◌, zero-add, arith, take-suc, le-ltb, lt-ltb}
use Rattle.std.proofs.Math.ListN.{get_or}
use Rattle.std.proofs.Math.Seq.{take_all, take-suc-set}
use Rattle.booleans.specs.Laws.{by_cond}
use Rattle.table.specs.Numbers.{most_records}
use Rattle.table.specs.Questions.{number_has}
use Rattle.table.specs.Table.{limit_num, record_count, value_num}
use Rattle.marking.specs.Nodes.{Kind, Limit, Node, Number}
use Rattle.marking.specs.Marks.{bit, digit_at, mark_byte, mark_bytes, mark_digit, mark_length, mark_node, marks_of, most_has, node_at}
use Rattle.marking.specs.Laws.Digits.{digit-read, marks-at, marks-length}

-- ---- digits

pub bit-low : (c : Bool) → bit c ≤ 1
bit-low true = omega arith
bit-low false = omega arith

-- a digit's two marks
pub value-mark : (s : ℕ) (n : Node) → mark_node s n % 2 ≡ bit (number_has s (value_num n.kind))
value-mark s n = omega (arith, bit-low (number_has s (value_num n.kind)))

pub limit-mark : (s : ℕ) (n : Node) → mark_node s n / 2 ≡ bit (most_has s (limit_num n.limit))
limit-mark s n = omega (arith, bit-low (number_has s (value_num n.kind)))

node-low : (s : ℕ) (n : Node) → mark_node s n < 4
node-low s n = omega (arith, bit-low (number_has s (value_num n.kind)), bit-low (most_has s (limit_num n.limit)))

-- as the program finds it
pub marks-told : (s : ℕ) (k : Kind) (l : Limit) (v : Number) (p q : Bool) (a b : ℕ) → v ≡ value_num k → p ≡ number_has s v → (a ≡ bit p) × (a ≤ 1) → q ≡ most_has s (limit_num l) → (b ≡ bit q) × (b ≤ 1)
    → (a + 2 * b ≡ bit (number_has s (value_num k)) + 2 * bit (most_has s (limit_num l))) × (a + 2 * b < 4)
marks-told s k l v p q a b e f (g, m) h (i, n) = (ap₂ (λ x y. x + 2 * y) (g ∙ ap bit (f ∙ ap (number_has s) e)) (i ∙ ap bit h), omega arith)

digit_low : (s : ℕ) (b : List ℕ) (i : ℕ) → mark_digit s b i < 4
unfolding mark_digit
digit_low s b i = by_cond (λ x. x < 4) (ltb i (record_count b)) (mark_node s (node_at b i)) 0 (λ h. node-low s (node_at b i)) (λ h. omega arith)

module _ (s : ℕ) (b : List ℕ) where
  pub digit-here : (i : ℕ) → i < record_count b → mark_digit s b i ≡ mark_node s (node_at b i)
  unfolding mark_digit
  digit-here i l = rw (lt-ltb i (record_count b) l) refl

  digit-past : (i : ℕ) → record_count b ≤ i → mark_digit s b i ≡ 0
  unfolding mark_digit
  digit-past i l = rw (le-ltb i (record_count b) l) refl

  -- what is read of the marks that were written
  digit-marks : (i : ℕ) → i < most_records → digit_at (marks_of s b) i ≡ mark_digit s b i
  unfolding marks_of
  digit-marks i l = digit-read (mark_digit s b) (digit_low s b) mark_length i l

  pub read_here : record_count b ≤ most_records → (i : ℕ) → i < record_count b → digit_at (marks_of s b) i ≡ mark_node s (node_at b i)
  read_here f i l = digit-marks i (omega arith) ∙ digit-here i l

  pub read_past : (i : ℕ) → i < most_records → record_count b ≤ i → digit_at (marks_of s b) i ≡ 0
  read_past i m l = digit-marks i m ∙ digit-past i l

  pub marks-long : length (marks_of s b) ≡ mark_length
  unfolding marks_of
  marks-long = marks-length (mark_digit s b) mark_length 0

  -- ---- as the program finds them

  pub past-told : (i : ℕ) → record_count b ≤ i → (0 ≡ mark_digit s b i) × (0 < 4)
  past-told i l = (sym (digit-past i l), omega arith)

  pub digit-told : (i : ℕ) (n : Node) (r : ℕ) → i < record_count b → n ≡ node_at b i → (r ≡ mark_node s n) × (r < 4) → (r ≡ mark_digit s b i) × (r < 4)
  digit-told i n r l e (f, k) = (f ∙ ap (mark_node s) e ∙ sym (digit-here i l), k)

  -- the first j bytes are written
  abbrev pub Marked : (marks : List ℕ) (j : ℕ) → Type 0
  Marked marks j = take j marks ≡ take j (marks_of s b)

  pub one-marked : (marks : List ℕ) (j : ℕ) → j < mark_length → length marks ≡ mark_length → Marked marks j → (x : ℕ) → x ≡ mark_byte (mark_digit s b) j → Marked (set marks j x) (suc j)
  unfolding marks_of
  one-marked marks j l e h x q =
      let at : get_or (mark_bytes (mark_digit s b) mark_length 0) j 0 ≡ x = marks-at (mark_digit s b) mark_length 0 j l ∙ ap (mark_byte (mark_digit s b)) (zero-add j) ∙ sym q in
      take-suc-set marks j x (omega arith)
      ∙ ap₂ (λ a y. a ++ (y ∷ [])) h (sym at)
      ∙ sym (take-suc (mark_bytes (mark_digit s b) mark_length 0) j 0 (omega (arith, marks-length (mark_digit s b) mark_length 0)))

  pub all-marked : (marks : List ℕ) (j : ℕ) → j ≡ mark_length → length marks ≡ mark_length → Marked marks j → marks ≡ marks_of s b
  unfolding marks_of
  all-marked marks j q e h = sym (take_all j marks (omega arith)) ∙ h ∙ take_all j _ (omega (arith, marks-length (mark_digit s b) mark_length 0))
