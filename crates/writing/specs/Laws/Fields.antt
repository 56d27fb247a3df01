-- A field written over, at once or byte by byte; what it changes and what not; and the value of a block's record.
use Rattle.std.specs.Prelude.{◌≡◌, refl, Bool, true, false, List, [], ◌∷◌, ◌++◌, ℕ, zero, suc, ◌+◌, ◌*◌, ◌-◌, ◌/◌, ◌%◌, ◌^◌, ◌<◌, ◌≤◌, ltb, drop, get_or, length, set, take}
use Rattle.std.proofs.Common.{ap, sym, ◌∙◌, append_assoc, append-nil, add_assoc, add-zero, add-one, arith, length-append, length-drop, take-append-drop, drop-drop, drop-set-lt, get_or-append-add, get_or-drop, get_or-take, length-take-le, take-suc-set, ltb-false, ltb-true}
use Rattle.std.proofs.Math.ListN.{get_or-append}
use Rattle.std.proofs.Math.Seq.{drop-append-add, take-append-add}
use Rattle.std.proofs.lemmas.List.{drop-append-le, take-append-le}
use Rattle.std.proofs.Math.Nat.{div-div-eq-div-mul, div-one, pow-suc}
use Rattle.std.specs.Int.{bytes_low_first}
use borrow.Rule.Slice.PartMut.{put_mid}
use Rattle.table.specs.Bytes.{to_bytes}
use Rattle.table.specs.Numbers.{record_length}
use Rattle.table.specs.Table.{flag, kind_byte, record_bytes, value_num}
use Rattle.table.specs.declared.Kind.TheVariants.{Block}
use Rattle.table.specs.declared.Node.{Node}
use Rattle.table.specs.declared.Number.TheVariants.{Plain}
use Rattle.table.proofs.Laws.Bytes.{length_to}
use Rattle.writing.specs.Fields.{with_field, with_value}

-- ---- all bytes at once, as the library gives them

low-first : (k i x : ℕ) → bytes_low_first i k x ≡ to_bytes k (x / 256 ^ i)
unfolding to_bytes
low-first zero i x = refl
low-first (suc k) zero x = rw (low-first k 1 x, div-one x) refl
low-first (suc k) (suc i) x = rw (low-first k (suc (suc i)) x, div-div-eq-div-mul x (256 ^ suc i) 256, pow-suc 256 (suc i)) refl

pub le_bytes : (k x : ℕ) → bytes_low_first 0 k x ≡ to_bytes k x
le_bytes k x = low-first k 0 x ∙ ap (to_bytes k) (div-one x)

pub field-put : (b y : List ℕ) (i n k x : ℕ) → k ≡ n → y ≡ bytes_low_first 0 n x → put_mid i k b y ≡ with_field b i n x
unfolding with_field
field-put b y i n k x e f = rw (e, f, le_bytes n x, drop-drop n i b) (sym (append_assoc (take i b) (to_bytes n x) (drop (i + n) b)))

-- ---- one byte after the other

pub field-none : (b : List ℕ) (i x : ℕ) → with_field b i 0 x ≡ b
unfolding with_field to_bytes
field-none b i x = rw (add-zero i, append-nil (take i b)) (take-append-drop i b)

-- the lowest byte, and then the others
pub field_next : (b : List ℕ) (i n x : ℕ) → i < length b → with_field b i (suc n) x ≡ with_field (set b i (x % 256)) (i + 1) n (x / 256)
unfolding with_field to_bytes
field_next b i n x l =
    let past : i + suc n ≡ i + 1 + n = omega arith in
    let kept : drop (i + 1 + n) (set b i (x % 256)) ≡ drop (i + 1 + n) b = drop-set-lt (i + 1 + n) b i (x % 256) (omega arith) in
    let front : take (i + 1) (set b i (x % 256)) ≡ take i b ++ (x % 256 ∷ []) = rw add-one (take-suc-set b i (x % 256) l) in
    rw (past, kept, front) (ap (λ r. r ++ drop (i + 1 + n) b) (sym (append_assoc (take i b) (x % 256 ∷ []) (to_bytes n (x / 256)))))

-- ---- what is changed

pub field-length : (b : List ℕ) (i n x : ℕ) → i + n ≤ length b → length (with_field b i n x) ≡ length b
unfolding with_field
field-length b i n x l = rw (length-append, length-append, length-take-le i b (omega arith), length_to, length-drop) (omega arith)

-- no other byte
pub field-others : (b : List ℕ) (i n x : ℕ) → i + n ≤ length b → (j : ℕ) → (i ≤ j → j < i + n → ⊥) → get_or (with_field b i n x) j 0 ≡ get_or b j 0
unfolding with_field
field-others b i n x l j h = go (ltb j i) refl (ltb j (i + n)) refl
  where
    long : length (take i b) ≡ i
    long = length-take-le i b (omega arith)

    front : length (take i b ++ to_bytes n x) ≡ i + n
    front = length-append (take i b) (to_bytes n x) ∙ rw (long, length_to) refl

    go : (s : Bool) → ltb j i ≡ s → (t : Bool) → ltb j (i + n) ≡ t → get_or (take i b ++ to_bytes n x ++ drop (i + n) b) j 0 ≡ get_or b j 0
    go true e t f =
        let k : j < i = ltb-true j i e in
        ap (λ r. get_or r j 0) (append_assoc (take i b) (to_bytes n x) (drop (i + n) b)) ∙ get_or-append (take i b) _ 0 j (rw long k) ∙ get_or-take i b j 0 k
    go false e true f = absurd (h (ltb-false j i e) (ltb-true j (i + n) f))
    go false e false f =
        let k : i + n ≤ j = ltb-false j (i + n) f in
        let m : j ≡ i + n + (j - (i + n)) = omega arith in
        ap (λ p. get_or (take i b ++ to_bytes n x ++ drop (i + n) b) p 0) (m ∙ ap (λ p. p + (j - (i + n))) (sym front))
        ∙ get_or-append-add (take i b ++ to_bytes n x) (drop (i + n) b) (j - (i + n)) 0
        ∙ get_or-drop (i + n) b (j - (i + n)) 0
        ∙ ap (λ p. get_or b p 0) (sym m)

-- ---- bytes before and after

pub field-behind : (a b : List ℕ) (i n x : ℕ) → with_field (a ++ b) (length a + i) n x ≡ a ++ with_field b i n x
unfolding with_field
field-behind a b i n x =
    rw (take-append-add a b i, add_assoc (length a) i n, drop-append-add a b (i + n), append_assoc a (take i b) (to_bytes n x), append_assoc a) refl

pub field-before : (b z : List ℕ) (i n x : ℕ) → i + n ≤ length b → with_field (b ++ z) i n x ≡ with_field b i n x ++ z
unfolding with_field
field-before b z i n x l = rw (take-append-le i b z (omega arith), drop-append-le (i + n) b z l) (sym (append_assoc (take i b ++ to_bytes n x) (drop (i + n) b) z))

-- ---- the value of a block's record

-- the node as a block of that plain time
abbrev pub timed : ℕ → Node → Node
timed x n = record { kind = Block (Plain x); limit = n.limit; address = n.address }

pub timed-is : (n : Node) (x : ℕ) → n.kind ≡ Block (Plain x) → timed x n ≡ n
timed-is n x e = λ i. record { kind = sym e i; limit = n.limit; address = n.address }

first-timed : (n : Node) (c x y : ℕ) (z : List ℕ) → with_value (record_bytes (timed x n) c ++ z) 0 y ≡ record_bytes (timed y n) c ++ z
unfolding with_field record_bytes to_bytes kind_byte value_num flag
first-timed n c x y z = refl

pub value-timed : (a : List ℕ) (n : Node) (c i x y : ℕ) (z : List ℕ) → length a ≡ record_length * i
    → with_value (a ++ (record_bytes (timed x n) c ++ z)) i y ≡ a ++ (record_bytes (timed y n) c ++ z)
value-timed a n c i x y z l =
    ap (λ k. with_field (a ++ (record_bytes (timed x n) c ++ z)) (k + 8) 8 y) (sym l) ∙ field-behind a _ 8 8 y ∙ ap (λ r. a ++ r) (first-timed n c x y z)
