-- Records counted, found, copied and put one after the other, as the program does it.
use Rattle.std.specs.Prelude.{◌≡◌, Bool, true, false, cond, drop, length, take, MatchOption, None, Option, Some}
use Rattle.std.specs.Fn.{CalledAt}
use Rattle.std.specs.Iterator.{Drains}
use Rattle.std.specs.Iterator.Adapters.{filter_callee, filter_source, filter_steps}
use Rattle.std.specs.List.{filter, range_with_len}
use Rattle.std.specs.declared.iter.Filter.{Filter}
use Rattle.std.specs.declared.ops.Range.{Range}
use Rattle.std.proofs.iter.Yields.{gives_Drains, nat_range_steps}
use Rattle.std.proofs.lemmas.Iterator.{YieldsList-from_range}
use Rattle.std.proofs.lemmas.Iterator.Consumers.{YieldsList-from_filter}
use Rattle.std.proofs.lemmas.List.{length-map}
use denote.Param.Members.{Mut}
use denote.Ref.{Bor}
use Rattle.std.proofs.Math.Path.{refl, ap}
use Rattle.std.proofs.Common.{ap₂, sym, ◌∙◌, add_assoc, suc-add, zero-add, length-append, take-append-drop, drop_at, drop-drop, length-take-le, take-add, take_at}
use mathlib.Core.List.{List, ◌∷◌, ◌++◌, append_assoc}
use Prim.Native.Nat.{ℕ, zero, suc, ◌+◌, ◌*◌, ◌-◌, ◌<◌, ◌≤◌}
use Rattle.std.proofs.Math.Nat.{sub-zero}
use native.Mathlib.Omega.{arith}
use Rattle.table.specs.Numbers.{record_length}
use Rattle.table.specs.Table.{decode, first_node, record_bytes, record_count}
use Rattle.table.specs.Checking.{IsTable}
use Rattle.table.proofs.Laws.Reading.{next-count, next-part, none_left}
use Rattle.table.proofs.Laws.RoundTrip.{length-bytes, length-encode}
use Rattle.table.proofs.Laws.Tables.{count-is}
use Rattle.writing.specs.Records.{Appended, front, node_of, slice}
use Rattle.splice.specs.Nodes.{Block, Limit, Loop, Node, Plain, Unlimited}
use Rattle.splice.specs.Graft.{is_symbol, rename}
use Rattle.splice.specs.Renaming.{renamed_table}
use Rattle.splice.specs.Splice.{Among, NoPlace, Stands, occurs_first, occurrences_in, place_bytes, splice, splice_first, splice_records}
use Rattle.splice.specs.Laws.Sizes.{rename-records}

-- ---- one record

module _ (s : ℕ) (b : List ℕ) (n : Node) (r : Bool) (e : n ≡ first_node b) (f : r ≡ is_symbol s n.kind) where
  kind-is : r ≡ is_symbol s (first_node b).kind
  kind-is = f ∙ ap (λ (m : Node). is_symbol s m.kind) e

  pub occurs-yes : r ≡ true → 1 ≡ occurs_first s b
  unfolding occurs_first
  occurs-yes t = rw (← kind-is, t) refl

  pub occurs-no : r ≡ false → 0 ≡ occurs_first s b
  unfolding occurs_first
  occurs-no t = rw (← kind-is, t) refl

-- it stays, or others stand in its place
first-stays : (s : ℕ) (body b : List ℕ) → occurs_first s b ≡ 0 → splice_first s body b ≡ take record_length b
unfolding occurs_first splice_first
first-stays s body b = go (is_symbol s (first_node b).kind) _
  where
    go : (c : Bool) (x : List ℕ) → ◌≡◌ {A = ℕ} (cond c 1 0) 0 → cond c x (take record_length b) ≡ take record_length b
    go true x e = absurd (omega arith)
    go false x e = refl

first-placed : (s : ℕ) (body b : List ℕ) → occurs_first s b ≡ 1 → splice_first s body b ≡ place_bytes body (first_node b).limit (first_node b).address
unfolding occurs_first splice_first
first-placed s body b = go (is_symbol s (first_node b).kind) _
  where
    go : (c : Bool) (x : List ℕ) → ◌≡◌ {A = ℕ} (cond c 1 0) 1 → cond c x (take record_length b) ≡ x
    go true x e = refl
    go false x e = absurd (omega arith)

-- ---- occurrences counted

pub record Counted (s : ℕ) (b : List ℕ) (count i : ℕ) : Type 0 where
  pub within : i ≤ record_count b
  pub few : count ≤ i
  pub left : count + occurrences_in s (record_count b - i) (drop (record_length * i) b) ≡ occurrences_in s (record_count b) b

pub none-counted : (s : ℕ) (b : List ℕ) → Counted s b 0 0
none-counted s b = record { within = omega arith; few = omega arith; left = rw sub-zero (omega arith) }

occurrences-one : (s n : ℕ) (b : List ℕ) (i : ℕ) → i < n → occurrences_in s (n - i) (drop (record_length * i) b) ≡ occurs_first s (drop (record_length * i) b) + occurrences_in s (n - (i + 1)) (drop (record_length * (i + 1)) b)
unfolding occurrences_in
occurrences-one s n b i h = rw (next-count n i h, ← next-part) refl

pub one-counted : (s : ℕ) (b : List ℕ) (count i x : ℕ) → i < record_count b → Counted s b count i → x ≡ occurs_first s (drop (record_length * i) b) → x ≤ 1 → Counted s b (count + x) (i + 1)
one-counted s b count i x h c e l = record {
  within = omega arith;
  few = omega (arith, c.few);
  left = omega (arith, c.left, occurrences-one s (record_count b) b i h, e);
}

pub all-counted : (s : ℕ) (b : List ℕ) (count i : ℕ) → record_count b ≤ i → Counted s b count i → (count ≡ occurrences_in s (record_count b) b) × (count ≤ record_count b)
unfolding occurrences_in
all-counted s b count i h c = (omega (arith, rw (none_left (record_count b) i h) at c.left), omega (arith, c.few, c.within))

-- at most as many as there are records
occurs-few : (s : ℕ) (b : List ℕ) → occurs_first s b ≤ 1
unfolding occurs_first
occurs-few s b = go (is_symbol s (first_node b).kind)
  where
    go : (c : Bool) → cond c 1 0 ≤ 1
    go true = omega arith
    go false = omega arith

pub occurrences-few : (s n : ℕ) (b : List ℕ) → occurrences_in s n b ≤ n
unfolding occurrences_in
occurrences-few s zero b = omega arith
occurrences-few s (suc n) b = omega (arith, occurs-few s b, occurrences-few s n (drop record_length b))

-- record i is a block with the symbol
abbrev pub is_place : (s : ℕ) (b : List ℕ) (i : ℕ) → Bool
is_place s b i = is_symbol s (first_node (drop (record_length * i) b)).kind

-- what the library's `filter` keeps of the first n numbers
pub numbers-kept : {F : Type 0} {g : Mut F (Bor ℕ × Unit {0}) Bool} (s : Filter (Range ℕ) F) (f : F) (p : ℕ → Bool) (n : ℕ) (xs : List ℕ) → Drains (filter_steps nat_range_steps g) s xs
    → filter_source s ≡ record { start = 0; end = n } → filter_callee s ≡ f → ((x : ℕ) (r : Bool) (q : F) → CalledAt g f x r q → (q ≡ f) × (r ≡ p x)) → length xs ≡ length (filter p (range_with_len 0 n))
numbers-kept {g = g} s f p n xs d e c pure =
    let kept = YieldsList-from_filter g p (YieldsList-from_range 0 n n e (sub-zero n)) c pure in
    sym (length-map xs (λ x. x)) ∙ ap length (gives_Drains (filter_steps nat_range_steps g) (λ x. x) xs _ s kept.runs d)

-- of n records from record i on
pub places-counted : (s : ℕ) (b : List ℕ) (n i : ℕ) → length (filter (is_place s b) (range_with_len i n)) ≡ occurrences_in s n (drop (record_length * i) b)
unfolding occurrences_in occurs_first
places-counted s b zero i = refl
places-counted s b (suc n) i = go (is_place s b i) _ (places-counted s b n (i + 1) ∙ ap (occurrences_in s n) (sym (next-part b i)))
  where
    go : (c : Bool) (xs : List ℕ) {k : ℕ} → length xs ≡ k → length (cond c (i ∷ xs) xs) ≡ cond c 1 0 + k
    go true xs e = ap suc e ∙ omega arith
    go false xs e = e ∙ omega arith

-- ---- records that stay

-- m records and those behind them
behind-part : (m : ℕ) (b : List ℕ) → drop (record_length * m) (drop record_length b) ≡ drop (record_length * suc m) b
behind-part m b =
    let e : record_length * suc m ≡ record_length + record_length * m = omega arith in
    rw (e, drop-drop) refl

occurrences-split : (s m n : ℕ) (b : List ℕ) → occurrences_in s (m + n) b ≡ occurrences_in s m b + occurrences_in s n (drop (record_length * m) b)
unfolding occurrences_in
occurrences-split s zero n b = rw (zero-add, zero-add) refl
occurrences-split s (suc m) n b = rw (suc-add, ← behind-part, add_assoc) (ap (λ k. occurs_first s b + k) (occurrences-split s m n (drop record_length b)))

splice-split : (s : ℕ) (body : List ℕ) (m n : ℕ) (b : List ℕ) → splice s body (m + n) b ≡ splice s body m b ++ splice s body n (drop (record_length * m) b)
unfolding splice
splice-split s body zero n b = rw zero-add refl
splice-split s body (suc m) n b = rw (suc-add, ← behind-part, append_assoc) (ap (λ (x : List ℕ). splice_first s body b ++ x) (splice-split s body m n (drop record_length b)))

splice-none : (s : ℕ) (body : List ℕ) (m : ℕ) (b : List ℕ) → occurrences_in s m b ≡ 0 → splice s body m b ≡ take (record_length * m) b
unfolding splice occurrences_in
splice-none s body zero b e = refl
splice-none s body (suc m) b e =
    let long : record_length * suc m ≡ record_length + record_length * m = omega arith in
    rw (long, take-add) (ap₂ ◌++◌ (first-stays s body b (omega arith)) (splice-none s body m (drop record_length b) (omega arith)))

module _ (s : ℕ) (h : List ℕ) (i r : ℕ) (p : NoPlace s h i r) where
  records-on : record_count h - i ≡ (r - i) + (record_count h - r)
  records-on = omega (arith, p.onward, p.within)

  bytes_on : drop (record_length * (r - i)) (drop (record_length * i) h) ≡ drop (record_length * r) h
  bytes_on =
      let e : record_length * i + record_length * (r - i) ≡ record_length * r = omega (arith, p.onward) in
      drop-drop (record_length * (r - i)) (record_length * i) h ∙ ap (λ k. drop k h) e

  pub counted-on : occurrences_in s (record_count h - i) (drop (record_length * i) h) ≡ occurrences_in s (record_count h - r) (drop (record_length * r) h)
  counted-on = rw (records-on, occurrences-split, p.none, zero-add, bytes_on) refl

  pub spliced-on : (body : List ℕ) → splice s body (record_count h - i) (drop (record_length * i) h) ≡ slice h i (r - i) ++ splice s body (record_count h - r) (drop (record_length * r) h)
  spliced-on body = rw (records-on, splice-split, splice-none s body (r - i) (drop (record_length * i) h) p.none, bytes_on) refl

-- ---- the next place

some-counted : (s n : ℕ) (b : List ℕ) → 0 < occurrences_in s n b → 0 < n
unfolding occurrences_in
some-counted s zero b l = absurd (omega arith)
some-counted s (suc n) b l = omega arith

module _ (s : ℕ) (h : List ℕ) (i : ℕ) (l : 0 < occurrences_in s (record_count h - i) (drop (record_length * i) h)) where
  pub none_passed : NoPlace s h i i
  unfolding occurrences_in
  none_passed =
      let z : i - i ≡ 0 = omega arith in
      record { onward = omega arith; within = omega (arith, some-counted s (record_count h - i) (drop (record_length * i) h) l); none = rw z refl }

  module _ (r : ℕ) (p : NoPlace s h i r) where
    pub some_left : r < record_count h
    some_left = omega (arith, some-counted s (record_count h - r) (drop (record_length * r) h) (rw (counted-on s h i r p) at l))

    pub one-passed : (x : ℕ) → x ≡ occurs_first s (drop (record_length * r) h) → x ≡ 0 → NoPlace s h i (r + 1)
    unfolding occurrences_in
    one-passed x e z =
        let n : r + 1 - i ≡ (r - i) + 1 = omega (arith, p.onward) in
        record {
          onward = omega (arith, p.onward);
          within = omega (arith, some_left);
          none = rw (n, occurrences-split, p.none, bytes_on s h i r p, ← e, z) refl;
        }

-- none of d records from record i on
none-between : (s : ℕ) (h : List ℕ) (d i : ℕ) → ((k : ℕ) → i ≤ k → k < i + d → is_place s h k ≡ false) → occurrences_in s d (drop (record_length * i) h) ≡ 0
unfolding occurrences_in occurs_first
none-between s h zero i n = refl
none-between s h (suc d) i n = rw (n i (omega arith) (omega arith), zero-add, next-part) (none-between s h d (i + 1) (λ k l m. n k (omega arith) (omega arith)))

module _ (s : ℕ) (h : List ℕ) (i : ℕ) where
  pub found : (r : ℕ) → i ≤ r → r < record_count h → is_place s h r ≡ true → ((k : ℕ) → i ≤ k → k < r → is_place s h k ≡ false)
      → NoPlace s h i r × (r < record_count h) × (occurs_first s (drop (record_length * r) h) ≡ 1)
  unfolding occurs_first
  found r l w hit miss =
      (record { onward = l; within = omega arith; none = none-between s h (r - i) i (λ k a b. miss k a (omega arith)) }, w, rw hit refl)

  -- there is one
  pub some-found : 0 < occurrences_in s (record_count h - i) (drop (record_length * i) h) → (o : Option ℕ)
      → MatchOption o ((k : ℕ) → i ≤ k → k < record_count h → is_place s h k ≡ false) (λ r. (i ≤ r) × (r < record_count h) × (is_place s h r ≡ true) × ((k : ℕ) → i ≤ k → k < r → is_place s h k ≡ false))
      → (r : ℕ) × (o ≡ Some r) × NoPlace s h i r × (r < record_count h) × (occurs_first s (drop (record_length * r) h) ≡ 1)
  some-found l None miss = absurd (omega (arith, none-between s h (record_count h - i) i (λ k a b. miss k a (omega arith))))
  some-found l (Some r) (a, b, hit, miss) = let here = found r a b hit miss in (r, refl, here.0, here.1, here.2)

-- ---- what stands in a buffer

pub renamed-long : (b : List ℕ) → IsTable b → length (renamed_table b) ≡ record_length * record_count b
renamed-long b t = length-encode (rename (decode b) 0) ∙ ap (λ n. record_length * n) (rename-records (decode b) 0 ∙ sym (count-is b t))

pub stands_on : (body : List ℕ) (last : Option ℕ) (x y z : List ℕ) → y ≡ x ++ z → Stands body last x → Stands body last y
stands_on body None x y z e s = tt
stands_on body (Some k) x y z e a =
    record { before = a.before; behind = a.behind ++ z; parts = e ∙ rw (a.parts, append_assoc, append_assoc) refl; long = a.long }

module _ (body : List ℕ) (k m at : ℕ) (out : List ℕ) (l : length body ≡ record_length * m) (r : record_length * at ≤ length out) (a : Among body k (front at out)) where
  pub among-before : k + m ≤ at
  among-before =
      let whole : length (front at out) ≡ record_length * k + (record_length * m + length a.behind) = ap length a.parts ∙ rw (length-append, length-append, a.long, l) refl in
      omega (arith, whole, length-take-le (record_length * at) out r)

  pub among-slice : slice out k m ≡ body
  among-slice =
      let e : out ≡ a.before ++ (body ++ (a.behind ++ drop (record_length * at) out)) =
      sym (take-append-drop (record_length * at) out) ∙ ap (λ (x : List ℕ). x ++ drop (record_length * at) out) a.parts ∙ rw (append_assoc, append_assoc) refl in
      ap (λ (x : List ℕ). slice x k m) e ∙ ap (take (record_length * m)) (drop_at a.before _ (record_length * k) a.long) ∙ take_at body _ (record_length * m) l

-- the three parts of what stands in a block's place
pub place-parts : (l : Limit) (a : ℕ) (body : List ℕ) (m at first end r : ℕ) (out o₁ o₂ o₃ : List ℕ)
    → Appended at out 1 (record_bytes (node_of (Loop (Plain 1)) l a) 2) first o₁
    → Appended first o₁ m body end o₂
    → Appended end o₂ 1 (record_bytes (node_of (Block (Plain 0)) Unlimited 0) 0) r o₃
    → Appended at out (m + 2) (place_bytes body l a) r o₃
unfolding place_bytes
place-parts l a body m at first end r out o₁ o₂ o₃ (x₁, y₁) (x₂, y₂) (x₃, y₃) =
    (omega arith, y₃ ∙ rw (y₂, y₁, append_assoc, append_assoc, append_assoc) refl)

placed-stands : (l : Limit) (a : ℕ) (body : List ℕ) (end z : ℕ) (o₁ o₂ : List ℕ) → record_length * end ≤ length o₁ → front z o₂ ≡ front end o₁ ++ place_bytes body l a → Stands body (Some (end + 1)) (front z o₂)
unfolding place_bytes
placed-stands l a body end z o₁ o₂ r e =
    let loop = record_bytes (node_of (Loop (Plain 1)) l a) 2 in
    record {
      before = front end o₁ ++ loop;
      behind = record_bytes (node_of (Block (Plain 0)) Unlimited 0) 0;
      parts = e ∙ rw (append_assoc, append_assoc) refl;
      long = length-append (front end o₁) loop ∙ rw (length-take-le (record_length * end) o₁ r, length-bytes (node_of (Loop (Plain 1)) l a) 2) (omega arith);
    }

-- ---- records put

-- the host's records before record i are put, with what stands in place of the symbol, which is left in so many records
pub record Put (s m : ℕ) (body h out₀ : List ℕ) (left : ℕ) (last : Option ℕ) (at i : ℕ) (out : List ℕ) : Type 0 where
  pub within : i ≤ record_count h
  pub counted : left ≡ occurrences_in s (record_count h - i) (drop (record_length * i) h)
  pub long : at + splice_records s m (record_count h - i) (drop (record_length * i) h) ≡ splice_records s m (record_count h) h
  pub bytes : front at out ++ splice s body (record_count h - i) (drop (record_length * i) h) ≡ splice s body (record_count h) h
  pub stands : Stands body last (front at out)
  pub kept : length out ≡ length out₀

pub none-put : (s m : ℕ) (body h out : List ℕ) (count : ℕ) → count ≡ occurrences_in s (record_count h) h → Put s m body h out count None 0 0 out
none-put s m body h out count e = record {
  within = omega arith;
  counted = rw sub-zero e;
  long = rw sub-zero (omega arith);
  bytes = rw sub-zero refl;
  stands = tt;
  kept = refl;
}

-- a place, and the records before it that stay
module _ (s m : ℕ) (body h out₀ : List ℕ) (left : ℕ) (last : Option ℕ) (at i : ℕ) (out : List ℕ) (p : Put s m body h out₀ left last at i out) where
  module _ (r : ℕ) (q : NoPlace s h i r) (w : r < record_count h) (f : occurs_first s (drop (record_length * r) h) ≡ 1) where
    -- the next part of the host has this place and what follows it
    count-here : occurrences_in s (record_count h - i) (drop (record_length * i) h) ≡ suc (occurrences_in s (record_count h - (r + 1)) (drop (record_length * (r + 1)) h))
    count-here = omega (arith, counted-on s h i r q, occurrences-one s (record_count h) h r w)

    bytes-here : splice s body (record_count h - i) (drop (record_length * i) h)
        ≡ slice h i (r - i) ++ (place_bytes body (first_node (drop (record_length * r) h)).limit (first_node (drop (record_length * r) h)).address ++ splice s body (record_count h - (r + 1)) (drop (record_length * (r + 1)) h))
    unfolding splice
    bytes-here = spliced-on s h i r q body ∙ rw (next-count (record_count h) r w, next-part, first-placed s body (drop (record_length * r) h) f) refl

    -- there is room for them
    pub place-room : record_length * splice_records s m (record_count h) h ≤ length out₀ → record_length * (at + (r - i) + (m + 2)) ≤ length out
    unfolding splice_records
    place-room l = omega (arith, p.long, p.kept, ap (λ k. k * suc m) count-here, q.onward)

    pub one-put : (end z : ℕ) (o₁ o₂ : List ℕ) (n : Node) → n ≡ first_node (drop (record_length * r) h) → length o₁ ≡ length out → length o₂ ≡ length o₁ → record_length * end ≤ length o₁
        → Appended at out (r - i) (slice h i (r - i)) end o₁ → Appended end o₁ (m + 2) (place_bytes body n.limit n.address) z o₂
        → Put s m body h out₀ (left - 1) (Some (end + 1)) z (r + 1) o₂
    unfolding splice_records
    one-put end z o₁ o₂ n e k₁ k₂ l (x₁, y₁) (x₂, y₂) = record {
      within = omega arith;
      counted = omega (arith, p.counted, count-here);
      long = omega (arith, p.long, ap (λ k. k * suc m) count-here, q.onward);
      bytes = rw (y₂, y₁, e, append_assoc, append_assoc, ← bytes-here) p.bytes;
      stands = placed-stands n.limit n.address body end z o₁ o₂ l y₂;
      kept = k₂ ∙ k₁ ∙ p.kept;
    }

  -- there is room for what is left of the host
  pub rest-room : record_length * splice_records s m (record_count h) h ≤ length out₀ → record_length * (at + (record_count h - i)) ≤ length out
  unfolding splice_records
  rest-room l = omega (arith, p.long, p.kept)

  pub all-put : left ≤ 0 → (z : ℕ) (new : List ℕ) → Appended at out (record_count h - i) (slice h i (record_count h - i)) z new
      → (z ≡ splice_records s m (record_count h) h) × (front z new ≡ splice s body (record_count h) h)
  unfolding splice_records
  all-put l z new (x, y) =
      let none : occurrences_in s (record_count h - i) (drop (record_length * i) h) ≡ 0 = omega (arith, p.counted) in
      (omega (arith, p.long, ap (λ k. k * suc m) none), y ∙ rw (← splice-none s body (record_count h - i) (drop (record_length * i) h) none) p.bytes)
