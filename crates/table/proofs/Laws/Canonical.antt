-- Records that pass question 2 are written in one way only, so a table of them is what its tree writes.
use Rattle.std.specs.Prelude.{◌≡◌, refl, ◌&&◌, not, List, [], ◌∷◌, ◌++◌, ℕ, zero, suc, ◌+◌, ◌*◌, ◌<◌, ◌≤◌, ◌/◌, ◌%◌, T, eqb, leb, take, drop, length, get_or}
use Rattle.std.proofs.Common.{sym, ap, ◌∙◌, append_assoc, append-nil, arith, eqb→eq, length-drop, take-add, get_or-drop, length-take-le, ne_eqb}
use Rattle.std.proofs.Math.Seq.{take-length}
use Rattle.std.proofs.lemmas.Bool.{lt-leb}
use Rattle.booleans.specs.Laws.{&&-both, both}
use Rattle.table.specs.Numbers.{fill, record_length}
use Rattle.table.specs.Trees.{size, Forest, nil, ◌▸◌}
use Rattle.table.specs.Bytes.{AreBytes, to_bytes, from_bytes}
use Rattle.table.specs.Table.{filler, record_bytes, first_node, child_byte, encodes, first_ones, forest, form_trees, flag, num_from, raw, most_field, most_flags, most_from, kind_byte, value_num, kind_from, loop_byte, limit_num, limit_from, field, each, encode, top, decode, record_count, each_by, forest_by, form_trees_by}
use Rattle.table.specs.Checking.{flags_listed, kind_listed, limit_listed, record_listed}
use Rattle.table.proofs.Laws.Bytes.{to-from}
use Rattle.table.proofs.Laws.RoundTrip.{size-first, size-after, encodes-split}

-- ---- and written back

-- a record that says what it holds in one way only
abbrev pub OneWay : List ℕ → Type 0
OneWay b = record_bytes (first_node b) (child_byte b) ≡ take record_length b

unfoldable pub OneWayAll : ℕ → List ℕ → Type 0
OneWayAll zero b = Unit {0}
OneWayAll (suc n) b = OneWay b × OneWayAll n (drop record_length b)

pub encodes-forest : (n k : ℕ) (b : List ℕ) → OneWayAll n b → T (form_trees n k b) → (size (forest n b) ≡ k) × (encodes (forest n b) ≡ take (record_length * n) b)
unfolding OneWayAll form_trees_by forest_by encodes size
encodes-forest zero k b h t = (sym (eqb→eq k 0 t), refl)
encodes-forest (suc n) zero b h t = absurd t
encodes-forest (suc n) (suc k) b h t =
    let f = forest n (drop record_length b) in
    let c = child_byte b in
    let ih = encodes-forest n (k + c) (drop record_length b) h.1 t in
    let s : size (first_ones c f) ≡ c = size-first c f (omega arith) in
    let a = size-after c f in
    let m : record_length * suc n ≡ record_length + record_length * n = omega arith in
    (omega arith, rw (s, append_assoc, encodes-split c f, ih.1, h.0, m, take-add) refl)

flag-num : (s x : ℕ) → s < 2 → flag (num_from s x) ≡ s
unfolding flag num_from
flag-num zero x h = refl
flag-num (suc zero) x h = refl
flag-num (suc (suc s)) x h = absurd (omega arith)

raw-num : (s x : ℕ) → raw (num_from s x) ≡ x
unfolding num_from
raw-num zero x = refl
raw-num (suc s) x = refl

kind-back : (k c s v : ℕ) → T (kind_listed k c s v) → s < 2
    → (kind_byte (kind_from k (num_from s v)) ≡ k) × (flag (value_num (kind_from k (num_from s v))) ≡ s) × (raw (value_num (kind_from k (num_from s v))) ≡ v)
unfolding kind_byte kind_from value_num flag
kind-back zero c s v t h = (refl, flag-num s v h, raw-num s v)
kind-back (suc zero) c s v t h = let q = &&-both (leb 1 c && eqb s 0) _ t in (refl, sym (eqb→eq s 0 (&&-both (leb 1 c) _ q.0).1), sym (eqb→eq v 0 q.1))
kind-back (suc (suc zero)) c s v t h = let q = &&-both (leb 1 c && eqb s 0) _ t in (refl, sym (eqb→eq s 0 (&&-both (leb 1 c) _ q.0).1), sym (eqb→eq v 0 q.1))
kind-back (suc (suc (suc zero))) c s v t h = (refl, flag-num s v h, raw-num s v)
kind-back (suc (suc (suc (suc k)))) c s v t h =
    absurd (simp (ne_eqb (suc (suc (suc (suc k)))) 0 (omega arith), ne_eqb (suc (suc (suc (suc k)))) 1 (omega arith), ne_eqb (suc (suc (suc (suc k)))) 2 (omega arith), ne_eqb (suc (suc (suc (suc k)))) 3 (omega arith)) at t)

flags-most : (s x : ℕ) → T (flags_listed s) → most_flags (most_from s x) ≡ s
unfolding most_flags most_from
flags-most zero x h = refl
flags-most (suc zero) x h = refl
flags-most (suc (suc zero)) x h = absurd h
flags-most (suc (suc (suc zero))) x h = refl
flags-most (suc (suc (suc (suc s)))) x h = absurd (rw (lt-leb (suc (suc (suc (suc s)))) 3 (omega arith)) at (&&-both (not (eqb (suc (suc (suc (suc s)))) 2)) _ h).1)

field-most : (s x : ℕ) → most_field (most_from s x) ≡ x
unfolding most_from
field-most zero x = refl
field-most (suc zero) x = refl
field-most (suc (suc s)) x = refl

limit-back : (k s m : ℕ) → T (limit_listed k s m) → T (flags_listed s)
    → (loop_byte (limit_from k (most_from s m)) ≡ k) × (most_flags (limit_num (limit_from k (most_from s m))) ≡ s) × (most_field (limit_num (limit_from k (most_from s m))) ≡ m)
unfolding loop_byte limit_from limit_num most_flags
limit-back zero s m t h = let q = &&-both (eqb s 0) (eqb m 0) t in (refl, sym (eqb→eq s 0 q.0), sym (eqb→eq m 0 q.1))
limit-back (suc k) s m t h = (refl, flags-most s m h, field-most s m)

pub bytes_drop : (b : List ℕ) (i : ℕ) → AreBytes b → AreBytes (drop i b)
bytes_drop b i h j = rw get_or-drop (h (i + j))

bytes_take : (n : ℕ) (b : List ℕ) → AreBytes b → AreBytes (take n b)
bytes_take zero b h i = omega arith
bytes_take (suc n) [] h i = omega arith
bytes_take (suc n) (x ∷ xs) h zero = h 0
bytes_take (suc n) (x ∷ xs) h (suc i) = bytes_take n xs (λ j. h (suc j)) i

-- a field written back
pub field_back : (b : List ℕ) (i n : ℕ) → AreBytes b → i + n ≤ length b → to_bytes n (field b i n) ≡ take n (drop i b)
field_back b i n h l =
    let w : length (take n (drop i b)) ≡ n = length-take-le n (drop i b) (rw length-drop (omega arith)) in
    ap (λ k. to_bytes k (from_bytes (take n (drop i b)))) (sym w) ∙ to-from (take n (drop i b)) (bytes_take n _ (bytes_drop b i h))

take-four : (b : List ℕ) → 4 ≤ length b → take 4 b ≡ get_or b 0 0 ∷ get_or b 1 0 ∷ get_or b 2 0 ∷ get_or b 3 0 ∷ []
take-four [] h = absurd (omega arith)
take-four (x ∷ []) h = absurd (omega arith)
take-four (x ∷ y ∷ []) h = absurd (omega arith)
take-four (x ∷ y ∷ z ∷ []) h = absurd (omega arith)
take-four (x ∷ y ∷ z ∷ w ∷ r) h = refl

take-record : (b : List ℕ) → take record_length b ≡ take 4 b ++ take 4 (drop 4 b) ++ take 8 (drop 8 b) ++ take 4 (drop 16 b) ++ take 4 (drop 20 b)
take-record b = take-add 20 4 b ∙ rw (take-add 16 4 b, take-add 8 8 b, take-add 4 4 b) refl

-- what question 2 asks of the first record, taken apart
pub record Listed (b : List ℕ) : Type 0 where
  pub kind : T (kind_listed (get_or b 0 0) (get_or b 2 0) (get_or b 1 0 % 2) (field b 8 8))
  pub limit : T (limit_listed (get_or b 3 0) (get_or b 1 0 / 2) (field b 4 4))
  pub flags : T (flags_listed (get_or b 1 0 / 2))
  pub fill : (get_or b 20 0 ≡ fill) × (get_or b 21 0 ≡ fill) × (get_or b 22 0 ≡ fill) × (get_or b 23 0 ≡ fill)

pub listed-parts : (b : List ℕ) → T (record_listed b) → Listed b
listed-parts b t =
    let S = kind_listed (get_or b 0 0) (get_or b 2 0) (get_or b 1 0 % 2) (field b 8 8) in
    let N = limit_listed (get_or b 3 0) (get_or b 1 0 / 2) (field b 4 4) in
    let F = flags_listed (get_or b 1 0 / 2) in
    let W = eqb (get_or b 20 0) fill in
    let X = eqb (get_or b 21 0) fill in
    let Y = eqb (get_or b 22 0) fill in
    let Z = eqb (get_or b 23 0) fill in
    let (r, u) = &&-both (S && N && F) (W && X && Y && Z) t in
    let (q, f) = &&-both (S && N) F r in
    let (s, n) = &&-both S N q in
    let (wxy, z) = &&-both (W && X && Y) Z u in
    let (wx, y) = &&-both (W && X) Y wxy in
    let (w, x) = &&-both W X wx in
    record { kind = s; limit = n; flags = f; fill = (eqb→eq _ _ w, eqb→eq _ _ x, eqb→eq _ _ y, eqb→eq _ _ z) }

fill-four : (b : List ℕ) → record_length ≤ length b → Listed b → take 4 (drop 20 b) ≡ filler
fill-four b l h =
    let (w, x, y, z) = h.fill in
    take-four (drop 20 b) (rw length-drop (omega arith)) ∙ simp (get_or-drop, w, x, y, z)

pub plain-listed : (b : List ℕ) → AreBytes b → record_length ≤ length b → T (record_listed b) → OneWay b
unfolding record_bytes first_node child_byte
plain-listed b h l t =
    let p = listed-parts b t in
    let k = kind-back (get_or b 0 0) (get_or b 2 0) (get_or b 1 0 % 2) (field b 8 8) p.kind (omega arith) in
    let m = limit-back (get_or b 3 0) (get_or b 1 0 / 2) (field b 4 4) p.limit p.flags in
    let g : get_or b 1 0 % 2 + 2 * (get_or b 1 0 / 2) ≡ get_or b 1 0 = omega arith in
    rw (k.0, k.1, k.2, m.0, m.1, m.2, g, field_back b 4 4 h (omega arith), field_back b 8 8 h (omega arith), field_back b 16 4 h (omega arith), take-record b, take-four b (omega arith), fill-four b l p)

pub plain-all : (n : ℕ) (b : List ℕ) → AreBytes b → record_length * n ≤ length b → T (each record_listed n b) → OneWayAll n b
unfolding OneWayAll each_by
plain-all zero b h l t = tt
plain-all (suc n) b h l t =
    let q = both _ _ t in
    (plain-listed b h (omega arith) q.0, plain-all n (drop record_length b) (bytes_drop b record_length h) (rw length-drop (omega arith)) q.1)

encode-top : (f : Forest) → size f ≡ 1 → encode (top f) ≡ encodes f
unfolding top size encode
encode-top nil e = absurd (omega arith)
encode-top (t ▸ nil) e = sym (append-nil (encode t))
encode-top (t ▸ u ▸ f) e = absurd (omega arith)

pub encode-decode : (b : List ℕ) → AreBytes b → length b % record_length ≡ 0 → T (each record_listed (record_count b) b) → T (form_trees (record_count b) 1 b) → encode (decode b) ≡ b
unfolding decode
encode-decode b h l q t =
    let r = encodes-forest (record_count b) 1 b (plain-all _ b h (omega arith) q) t in
    let w : record_length * (record_count b) ≡ length b = omega arith in
    encode-top _ r.0 ∙ r.1 ∙ rw w (take-length b)
