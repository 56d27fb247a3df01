-- Two subtrees compared: by the words of each record before its address.
use Rattle.std.specs.Prelude.{◌≡◌, Bool, true, false, ℕ, zero, suc, ◌+◌, ◌*◌, ◌-◌, ◌<◌, ◌≤◌, drop, length, take, Option, None, Some, is_none}
use Rattle.std.proofs.Math.Path.{refl, sym, subst}
use Rattle.std.proofs.Common.{ap, ap₂, ◌∙◌, add-zero, suc-add, zero-add, add_assoc, eqb→eq, length-append, length-drop, length-take, drop_at, length-take-le, take_at}
use mathlib.Core.List.{List, [], ◌∷◌, ◌++◌, append_assoc, append-nil}
use Rattle.std.proofs.Math.Nat.{sub-zero}
use native.Mathlib.Omega.{arith}
use Rattle.std.proofs.Math.Dec.{T, eqb_refl}
use Rattle.booleans.specs.Laws.{T-is, both, join-and, same_test}
use Rattle.booleans.specs.Tests.{◌and◌}
use Rattle.table.specs.Bytes.{to_bytes}
use Rattle.table.specs.Checking.{IsTable}
use Rattle.table.specs.Numbers.{fields_length, record_length}
use Rattle.table.specs.Questions.{listed}
use Rattle.table.specs.Table.{encode, encodes, no_address, record_bytes, record_count}
use Rattle.table.specs.Trees.{Forest, Tree, nil, node, ◌▸◌, records, records_in, size, unaddressed, unaddressed_in}
use Rattle.table.proofs.Laws.Addresses.{records-unaddressed, size-unaddressed}
use Rattle.table.proofs.Laws.Reading.{next-count, next-part, none_left}
use Rattle.table.proofs.Laws.RoundTrip.{length-encode}
use Rattle.table.specs.declared.Node.{Node}
use Rattle.simplify.specs.Same.{same}
use Rattle.simplify.proofs.Laws.Same.{bytes_same, same-is}
use Rattle.subtrees.specs.Facts.{Sized, extent_at}
use Rattle.subtrees.specs.declared.Facts.{Facts}
use Rattle.subtrees.specs.Parts.{subtree}
use Rattle.subtrees.specs.Laws.Parts.{back_at, here-at, past-inside, top-at}
use Rattle.rewrite.specs.Laws.Records.{subtree-sound}
use Rattle.words.specs.Words.{Compared, SameWords, word}
use Rattle.writing.specs.Records.{node_of}
use Rattle.rules8and9.specs.Sharing.{fields_at, records_from, same_bytes, same_records}

-- ---- the words of a record

bytes-are : (b c : List ℕ) → T (same_bytes b c) → b ≡ c
unfolding same_bytes
bytes-are [] [] h = refl
bytes-are [] (y ∷ c) h = absurd h
bytes-are (x ∷ b) [] h = absurd h
bytes-are (x ∷ b) (y ∷ c) h = let (p, q) = both _ _ h in ap₂ ◌∷◌ (eqb→eq x y p) (bytes-are b c q)

bytes-self : (b : List ℕ) → T (same_bytes b b)
unfolding same_bytes
bytes-self [] = tt
bytes-self (x ∷ b) = join-and _ _ (eqb_refl x) (bytes-self b)

never : (x : Bool) → (T x → ⊥) → false ≡ x
never true f = absurd (f tt)
never false f = refl

-- a record's fields, as they are lent
abbrev pub lent : List ℕ → ℕ → List ℕ
lent b i = take (record_length * i + fields_length - record_length * i) (drop (record_length * i) b)

lent_is : (b : List ℕ) (i : ℕ) → lent b i ≡ fields_at b i
lent_is b i =
    let e : record_length * i + fields_length - record_length * i ≡ fields_length = omega arith in
    ap (λ k. take k (drop (record_length * i) b)) e

fields-long : (b : List ℕ) (i : ℕ) → i < record_count b → length (fields_at b i) ≡ fields_length
fields-long b i l = rw (length-take, length-drop) (omega arith)

module _ (b : List ℕ) (i j : ℕ) where
  pub whole_words : i < record_count b → j < record_count b → SameWords (lent b i) (lent b j)
  whole_words l m = rw (lent_is b i, lent_is b j) (fields-long b i l ∙ sym (fields-long b j m), omega (arith, fields-long b i l))

  pub words_same : Compared (lent b i) (lent b j) None → true ≡ same_bytes (fields_at b i) (fields_at b j)
  unfolding Compared
  words_same q = sym (T-is _ (subst (λ x. T (same_bytes (fields_at b i) x)) (sym (lent_is b i) ∙ q ∙ lent_is b j) (bytes-self (fields_at b i))))

  pub words-other : (k : ℕ) → Compared (lent b i) (lent b j) (Some k) → false ≡ same_bytes (fields_at b i) (fields_at b j)
  unfolding Compared
  words-other k d = never _ (λ t. d.1 (ap (word k) (lent_is b i ∙ bytes-are (fields_at b i) (fields_at b j) t ∙ sym (lent_is b j))))

  -- the same where no word differs
  pub words-compared : (r : Option ℕ) → Compared (lent b i) (lent b j) r → is_none r ≡ same_bytes (fields_at b i) (fields_at b j)
  words-compared None h = words_same h
  words-compared (Some k) h = words-other k h

-- ---- one record after the other

-- the first k of n records are the same, and the others are left
pub record Agreed (b : List ℕ) (i j n k : ℕ) : Type 0 where
  pub within : k ≤ n
  pub left : same_records n (records_from b i) (records_from b j) ≡ same_records (n - k) (records_from b (i + k)) (records_from b (j + k))

module _ (b : List ℕ) (i j n : ℕ) where
  pub none-agreed : Agreed b i j n 0
  none-agreed = record { within = omega arith; left = rw (sub-zero n, add-zero i, add-zero j) refl }

  module _ (k : ℕ) (h : k < n) (q : Agreed b i j n k) (r : Bool) (e : r ≡ same_bytes (fields_at b (i + k)) (fields_at b (j + k))) where
    agreed-step : same_records n (records_from b i) (records_from b j) ≡ (r and same_records (n - (k + 1)) (records_from b (i + (k + 1))) (records_from b (j + (k + 1))))
    unfolding same_records
    agreed-step =
        let x : i + (k + 1) ≡ i + k + 1 = omega arith in
        let y : j + (k + 1) ≡ j + k + 1 = omega arith in
        q.left ∙ rw (next-count n k h, e, x, y, ← next-part b (i + k), ← next-part b (j + k)) refl

    pub one-agreed : r ≡ true → Agreed b i j n (k + 1)
    unfolding ◌and◌
    one-agreed t = record { within = omega arith; left = agreed-step ∙ rw (t) refl }

    pub one-other : r ≡ false → false ≡ same_records n (records_from b i) (records_from b j)
    unfolding ◌and◌
    one-other t = sym (agreed-step ∙ rw (t) refl)

  pub all-agreed : (k : ℕ) → n ≤ k → Agreed b i j n k → true ≡ same_records n (records_from b i) (records_from b j)
  unfolding same_records
  all-agreed k h q = sym (q.left ∙ rw (none_left n k h) refl)

-- ---- records with address 0

-- the first n records of b, each with address 0
unfoldable blank : ℕ → List ℕ → List ℕ
blank zero b = []
blank (suc n) b = take fields_length b ++ (no_address ++ blank n (drop record_length b))

blank-record : (n : Node) (c m : ℕ) (r : List ℕ) → blank (suc m) (record_bytes n c ++ r) ≡ record_bytes (node_of n.kind n.limit 0) c ++ blank m r
unfolding blank record_bytes to_bytes
blank-record n c m r = refl

mutual
  unfolding encode records unaddressed blank

  blank-tree : (t : Tree) (m : ℕ) (r : List ℕ) → blank (records t + m) (encode t ++ r) ≡ encode (unaddressed t) ++ blank m r
  blank-tree (node n f) m r =
      rw (suc-add, append_assoc, append_assoc, size-unaddressed f) (blank-record n (size f) (records_in f + m) (encodes f ++ r) ∙ ap (λ x. record_bytes (node_of n.kind n.limit 0) (size f) ++ x) (blank-forest f m r))

  blank-forest : (f : Forest) (m : ℕ) (r : List ℕ) → blank (records_in f + m) (encodes f ++ r) ≡ encodes (unaddressed_in f) ++ blank m r
  blank-forest nil m r = rw zero-add refl
  blank-forest (t ▸ f) m r = rw (append_assoc, append_assoc, add_assoc) (blank-tree t (records_in f + m) (encodes f ++ r) ∙ ap (λ x. encode (unaddressed t) ++ x) (blank-forest f m r))

blank-whole : (t : Tree) (n : ℕ) (z : List ℕ) → n ≡ records t → blank n (encode t ++ z) ≡ encode (unaddressed t)
blank-whole t n z e = ap (λ k. blank k (encode t ++ z)) (e ∙ sym (add-zero (records t))) ∙ blank-tree t 0 z ∙ unfold blank in append-nil (encode (unaddressed t))

-- they are the same exactly where the records are, but for their addresses
blank-same : (n : ℕ) (b c : List ℕ) → T (same_records n b c) → blank n b ≡ blank n c
unfolding same_records blank
blank-same zero b c h = refl
blank-same (suc n) b c h = let (p, q) = both _ _ h in ap₂ (λ x y. x ++ (no_address ++ y)) (bytes-are _ _ p) (blank-same n (drop record_length b) (drop record_length c) q)

blank-first : (n : ℕ) (b : List ℕ) → record_length ≤ length b → take fields_length (blank (suc n) b) ≡ take fields_length b
unfolding blank
blank-first n b l = take_at (take fields_length b) _ fields_length (length-take-le fields_length b (omega arith))

blank-rest : (n : ℕ) (b : List ℕ) → record_length ≤ length b → drop record_length (blank (suc n) b) ≡ blank n (drop record_length b)
unfolding blank
blank-rest n b l =
    ap (drop record_length) (sym (append_assoc (take fields_length b) no_address (blank n (drop record_length b))))
    ∙ drop_at (take fields_length b ++ no_address) _ record_length (length-append (take fields_length b) no_address ∙ ap (λ k. k + 8) (length-take-le fields_length b (omega arith)))

same-blank : (n : ℕ) (b c : List ℕ) → record_length * n ≤ length b → record_length * n ≤ length c → blank n b ≡ blank n c → T (same_records n b c)
unfolding same_records
same-blank zero b c l m e = tt
same-blank (suc n) b c l m e =
    let p : take fields_length b ≡ take fields_length c = sym (blank-first n b (omega arith)) ∙ ap (take fields_length) e ∙ blank-first n c (omega arith) in
    let q : blank n (drop record_length b) ≡ blank n (drop record_length c) = sym (blank-rest n b (omega arith)) ∙ ap (drop record_length) e ∙ blank-rest n c (omega arith) in
    join-and _ _ (subst (λ x. T (same_bytes (take fields_length b) x)) p (bytes-self (take fields_length b)))
    (same-blank n (drop record_length b) (drop record_length c) (rw length-drop (omega arith)) (rw length-drop (omega arith)) q)

long-enough : (t : Tree) (n : ℕ) (z : List ℕ) → n ≡ records t → record_length * n ≤ length (encode t ++ z)
long-enough t n z e = rw length-append (omega (arith, length-encode t))

trees-same : (t u : Tree) (n : ℕ) (y z : List ℕ) → T (listed t) → T (listed u) → n ≡ records t → n ≡ records u → same_records n (encode t ++ y) (encode u ++ z) ≡ same t u
trees-same t u n y z l m d e =
    let p = blank-whole t n y d in
    let q = blank-whole u n z e in
    same_test _ _
    (λ h. bytes_same t u l m (sym p ∙ blank-same n (encode t ++ y) (encode u ++ z) h ∙ q))
    (λ h. same-blank n (encode t ++ y) (encode u ++ z) (long-enough t n y d) (long-enough u n z e) (p ∙ ap encode (same-is t u h) ∙ sym q))

-- ---- two subtrees compared

-- what stands at a record begins with its subtree's bytes
starts-at : (b : List ℕ) (s : IsTable b) (i : ℕ) (l : i < record_count b) → records_from b i ≡ encode (subtree b i) ++ encodes (here-at b s i l).later
unfolding encodes
starts-at b s i l = let h = here-at b s i l in sym (back_at b s i) ∙ ap encodes h.here ∙ ap (λ t. encode t ++ encodes h.later) (sym (top-at b i h.here))

module _ (b : List ℕ) (facts : List Facts) (s : Sized b facts) (i j : ℕ) (l : i < record_count b) (m : j < record_count b) where
  abbrev ranged : (k : ℕ) → k < record_count b → T (listed (subtree b k))
  ranged k h = (subtree-sound b s.table k h).fair.listed

  pub same_place : i ≡ j → true ≡ same (subtree b i) (subtree b j)
  same_place e = sym (T-is _ (bytes_same (subtree b i) (subtree b j) (ranged i l) (ranged j m) (ap (λ k. encode (unaddressed (subtree b k))) e)))

  -- they differ in how many records they have
  pub other-sizes : (extent_at facts i ≡ extent_at facts j → ⊥) → false ≡ same (subtree b i) (subtree b j)
  other-sizes e =
      let t = subtree b i in
      let u = subtree b j in
      never (same t u) (λ q. e (s.each i l ∙ sym (records-unaddressed t) ∙ ap records (same-is t u q) ∙ records-unaddressed u ∙ sym (s.each j m)))

  -- both have as many
  pub same-room : extent_at facts i ≡ extent_at facts j → (i + extent_at facts i ≤ record_count b) × (j + extent_at facts i ≤ record_count b)
  same-room e = omega (arith, past-inside b facts s i l, past-inside b facts s j m)

  pub same-bytes : (r : Bool) → extent_at facts i ≡ extent_at facts j
      → r ≡ same_records (extent_at facts i) (records_from b i) (records_from b j) → r ≡ same (subtree b i) (subtree b j)
  same-bytes r e w =
      w ∙ ap₂ (same_records (extent_at facts i)) (starts-at b s.table i l) (starts-at b s.table j m)
      ∙ trees-same (subtree b i) (subtree b j) (extent_at facts i) _ _ (ranged i l) (ranged j m) (s.each i l) (e ∙ s.each j m)
