-- A tree that is written reads back.
use Rattle.std.specs.Prelude.{◌≡◌, refl, ◌++◌, List, [], ℕ, zero, suc, ◌≤◌, ◌-◌, ◌^◌, ◌<◌, ◌+◌, ◌*◌, ◌%◌, ◌/◌, length, drop}
use Rattle.std.proofs.Common.{ap, append_assoc, append-nil, suc-add, zero-add, add_assoc, arith, length-append, drop_at, drop-drop}
use Rattle.table.specs.Nodes.{Number, Most, Limit, Unlimited, AtMost, Kind, Block, Sequence, Choice, Loop, Node, Plain, Symbol}
use Rattle.table.specs.Bytes.{to_bytes, from_bytes}
use Rattle.table.specs.Numbers.{record_length}
use Rattle.table.specs.Table.{after_ones, child_byte, decode, encode, encodes, first_node, first_ones, flag, forest, forest_by, kind_byte, kind_from, limit_from, limit_num, loop_byte, most_field, most_flags, most_from, num_from, raw, record_bytes, record_count, top, value_num}
use Rattle.table.specs.Trees.{Forest, nil, ◌▸◌, ◌⧺◌, size, Tree, node, records, records_in}
use Rattle.table.proofs.Laws.Bytes.{from-to}

-- ---- forests

pub first-⧺ : (f g : Forest) → first_ones (size f) (f ⧺ g) ≡ f
unfolding first_ones size ◌⧺◌
first-⧺ nil g = refl
first-⧺ (t ▸ f) g = ap (λ h. t ▸ h) (first-⧺ f g)

pub after-⧺ : (f g : Forest) → after_ones (size f) (f ⧺ g) ≡ g
unfolding after_ones size ◌⧺◌
after-⧺ nil g = refl
after-⧺ (t ▸ f) g = after-⧺ f g

pub size-first : (n : ℕ) (f : Forest) → n ≤ size f → size (first_ones n f) ≡ n
unfolding first_ones size
size-first zero f h = refl
size-first (suc n) nil h = omega arith
size-first (suc n) (t ▸ f) h = ap suc (size-first n f (omega arith))

pub size-after : (n : ℕ) (f : Forest) → size (after_ones n f) ≡ size f - n
unfolding after_ones size
size-after zero f = omega arith
size-after (suc n) nil = omega arith
size-after (suc n) (t ▸ f) = rw (size-after n f) (omega arith)

pub encodes-split : (n : ℕ) (f : Forest) → encodes (first_ones n f) ++ encodes (after_ones n f) ≡ encodes f
unfolding first_ones after_ones encodes
encodes-split zero f = refl
encodes-split (suc n) nil = refl
encodes-split (suc n) (t ▸ f) = rw (append_assoc, encodes-split n f)

-- ---- a record

-- what a node's record can hold
abbrev pub WritesNum : Number → Type 0
WritesNum n = raw n < 256 ^ 8

unfoldable pub WritesLimit : Limit → Type 0
WritesLimit Unlimited = Unit {0}
WritesLimit (AtMost k m) = (0 < k) × (most_field m < 256 ^ 4)

unfoldable pub WritesKind : Kind → Type 0
WritesKind (Block v) = WritesNum v
WritesKind Sequence = Unit {0}
WritesKind Choice = Unit {0}
WritesKind (Loop v) = WritesNum v

pub record WritesNode (n : Node) : Type 0 where
  pub kind : WritesKind n.kind
  pub limit : WritesLimit n.limit
  pub address : n.address < 256 ^ 4

num-flag : (n : Number) (x : ℕ) → x ≡ raw n → num_from (flag n) x ≡ n
unfolding num_from flag
num-flag (Plain n) x h = ap Plain h
num-flag (Symbol n) x h = ap Symbol h

pub most-flags : (m : Most) (x : ℕ) → x ≡ most_field m → most_from (most_flags m) x ≡ m
unfolding most_from most_flags
most-flags (Most.Plain n) x h = ap Most.Plain h
most-flags (Most.Symbol s) x h = ap Most.Symbol h
most-flags (Most.Triangular s) x h = ap Most.Triangular h

pub flag_small : (v : Number) → flag v < 2
unfolding flag
flag_small (Plain n) = omega arith
flag_small (Symbol n) = omega arith

pub flag-low : (v : Number) (s : ℕ) → (flag v + 2 * s) % 2 ≡ flag v
flag-low v s = omega (arith, flag_small v)

pub flag-high : (v : Number) (s : ℕ) → (flag v + 2 * s) / 2 ≡ s
flag-high v s = omega (arith, flag_small v)

pub kind-value : (k : Kind) → WritesKind k → (from_bytes (to_bytes 8 (raw (value_num k))) ≡ raw (value_num k)) × (kind_from (kind_byte k) (value_num k) ≡ k)
unfolding WritesKind kind_from kind_byte value_num
kind-value (Block v) h = (from-to 8 (raw v) h, refl)
kind-value Sequence h = (from-to 8 0 (omega arith), refl)
kind-value Choice h = (from-to 8 0 (omega arith), refl)
kind-value (Loop v) h = (from-to 8 (raw v) h, refl)

pub limit-most : (l : Limit) → WritesLimit l → (from_bytes (to_bytes 4 (most_field (limit_num l))) ≡ most_field (limit_num l)) × (limit_from (loop_byte l) (limit_num l) ≡ l)
unfolding WritesLimit limit_from loop_byte limit_num
limit-most Unlimited h = (from-to 4 0 (omega arith), refl)
limit-most (AtMost zero m) h = absurd (omega arith)
limit-most (AtMost (suc k) m) h = (from-to 4 (most_field m) h.1, refl)

head-kind : (k : Kind) (s : ℕ) → WritesKind k → kind_from (kind_byte k) (num_from ((flag (value_num k) + 2 * s) % 2) (from_bytes (to_bytes 8 (raw (value_num k))))) ≡ k
head-kind k s h = rw (flag-low, num-flag _ _ (kind-value k h).0) (kind-value k h).1

head-limit : (v : Number) (l : Limit) → WritesLimit l → limit_from (loop_byte l) (most_from ((flag v + 2 * most_flags (limit_num l)) / 2) (from_bytes (to_bytes 4 (most_field (limit_num l))))) ≡ l
head-limit v l h = rw (flag-high, most-flags _ _ (limit-most l h).0) (limit-most l h).1

pub head_bytes : (n : Node) (c : ℕ) (r : List ℕ) → WritesNode n → first_node (record_bytes n c ++ r) ≡ n
unfolding first_node record_bytes to_bytes
head_bytes n c r h = λ i. record {
  kind = head-kind n.kind (most_flags (limit_num n.limit)) h.kind i;
  limit = head-limit (value_num n.kind) n.limit h.limit i;
  address = from-to 4 n.address h.address i;
}

pub length-bytes : (n : Node) (c : ℕ) → length (record_bytes n c) ≡ record_length
unfolding record_bytes to_bytes
length-bytes n c = refl

pub children-bytes : (n : Node) (c : ℕ) (r : List ℕ) → child_byte (record_bytes n c ++ r) ≡ c
unfolding child_byte record_bytes
children-bytes n c r = refl

pub drop-bytes : (n : Node) (c : ℕ) (r : List ℕ) → drop record_length (record_bytes n c ++ r) ≡ r
drop-bytes n c r = drop_at (record_bytes n c) r record_length (length-bytes n c)

-- ---- a tree read back

unfoldable mutual
  pub Writes : Tree → Type 0
  Writes (node n f) = WritesNode n × WritesAll f

  pub WritesAll : Forest → Type 0
  WritesAll nil = Unit {0}
  WritesAll (t ▸ f) = Writes t × WritesAll f

forest-node : (nd : Node) (f g : Forest) (n : ℕ) (r : List ℕ) → WritesNode nd → forest n r ≡ f ⧺ g → forest (suc n) (record_bytes nd (size f) ++ r) ≡ node nd f ▸ g
unfolding forest_by
forest-node nd f g n r h e = simp (head_bytes, children-bytes, drop-bytes, e, first-⧺, after-⧺, h)

mutual
  unfolding Writes encode records ◌⧺◌

  forest-tree : (t : Tree) → Writes t → (n : ℕ) (r : List ℕ) → forest (records t + n) (encode t ++ r) ≡ t ▸ forest n r
  forest-tree (node nd f) h n r = rw (append_assoc, suc-add) (forest-node nd f (forest n r) (records_in f + n) (encodes f ++ r) h.0 (forest-all f h.1 n r))

  pub forest-all : (f : Forest) → WritesAll f → (n : ℕ) (r : List ℕ) → forest (records_in f + n) (encodes f ++ r) ≡ f ⧺ forest n r
  forest-all nil h n r = rw zero-add refl
  forest-all (t ▸ f) h n r = rw (append_assoc, add_assoc, forest-tree t h.0 (records_in f + n) (encodes f ++ r), forest-all f h.1 n r) refl

mutual
  unfolding encode records

  pub length-encode : (t : Tree) → length (encode t) ≡ record_length * records t
  length-encode (node nd f) = rw (length-append, length-bytes, length-encodes f) (omega arith)

  pub length-encodes : (f : Forest) → length (encodes f) ≡ record_length * records_in f
  length-encodes nil = omega arith
  length-encodes (t ▸ f) = rw (length-append, length-encode t, length-encodes f) (omega arith)

pub whole-forest : (t : Tree) → Writes t → forest (record_count (encode t)) (encode t) ≡ t ▸ nil
unfolding forest_by
whole-forest t h =
    let n : record_count (encode t) ≡ records t + 0 = rw length-encode (omega arith) in
    rw n (rw (← append-nil (encode t)) (forest-tree t h 0 []))

pub decode-encode : (t : Tree) → Writes t → decode (encode t) ≡ t
unfolding decode top
decode-encode t h = ap top (whole-forest t h)

-- what stands behind n records and the tree t
pub drop-tree : (t : Tree) (n : ℕ) (b z : List ℕ) → drop (record_length * n) b ≡ encode t ++ z → drop (record_length * (n + records t)) b ≡ z
drop-tree t n b z e =
    let m : record_length * (n + records t) ≡ record_length * n + record_length * records t = omega arith in
    rw (m, ← drop-drop, e) (drop_at (encode t) z (record_length * records t) (length-encode t))
