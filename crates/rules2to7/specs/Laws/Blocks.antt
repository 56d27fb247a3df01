-- Rules 6 and 7 on a table's bytes: the walks over a node's children, and what is written in the place of its blocks.
use Rattle.std.specs.Prelude.{◌≡◌, Bool, cond, false, not, true, List, ◌++◌, ℕ, zero, suc, ◌+◌, ◌-◌, ◌*◌, ◌≤◌, ◌<◌, max, leb, drop, length, Some, None}
use Rattle.std.proofs.lemmas.Option.{none-some, same_Some}
use Rattle.std.proofs.Math.Path.{refl, ap}
use Rattle.std.proofs.Common.{ap₂, sym, ◌∙◌, append_assoc, append-nil, arith, leb→le, le→leb}
use Rattle.std.proofs.Math.Option.{Option, some}
use borrow.Author.Tests.{lt-leb, not-false, not-true}
use Rattle.booleans.specs.Laws.{T-is, and-false, both, by_cond, by-conds, is_T}
use Rattle.booleans.specs.Tests.{◌and◌}
use Rattle.table.specs.Numbers.{most_time, record_length}
use Rattle.table.specs.Table.{child_byte, encode, encodes, first_node, record_bytes, record_count}
use Rattle.table.specs.Trees.{Forest, Tree, nil, node, ◌▸◌, ◌⧺◌, records, records_in, size}
use Rattle.table.proofs.Laws.Trees.{some-records}
use Rattle.simplify.specs.Rules.{at_first, bare, bares, largest, leaf, others, rule6, rule7, time_of, total, when}
use Rattle.simplify.specs.Same.{same_kind}
use Rattle.simplify.specs.Steps.{also}
use Rattle.simplify.proofs.Laws.Forests.{size-⧺}
use Rattle.subtrees.specs.Facts.{Sized, extent_at}
use Rattle.subtrees.specs.Children.{any, child_at, offset}
use Rattle.subtrees.specs.declared.Facts.{Facts}
use Rattle.table.specs.Checking.{IsTable}
use Rattle.subtrees.specs.Parts.{subtree, trees_at}
use Rattle.subtrees.specs.Laws.Forests.{encodes-⧺, records-⧺}
use Rattle.table.proofs.Laws.Tables.{length-is}
use Rattle.subtrees.specs.Laws.Parts.{Here, bytes-at, extent-some, here-at, here-is, next_row, node-extent, past-node, records-at, row_of, skip_at, tail_at}
use Rattle.subtrees.specs.Laws.Records.{count_at, node_at}
use Rattle.rules2to7.specs.Blocks.{Parted, Standing, bares_at, kept_records, merged, no_bares, spanning, two_bares, with_child}
use Rattle.rules2to7.specs.Nodes.{Block, Choice, Kind, Node, Plain, Sequence, Unlimited}
use Rattle.writing.specs.Records.{Appended, front, node_of, slice}
use Rattle.rewrite.specs.Bare.{bare_time}
use Rattle.rewrite.specs.Wrote.{Wrote, rule_at}
use Rattle.rewrite.specs.Laws.Records.{none-no, some-yes, subtree-bytes, wrote_none, ⧺-assoc}
use Rattle.rules2to7.specs.declared.Bares.{Bares}

-- ---- a walk over trees in a row, by the extents: the next tree, and the others

some_left : (f : Forest) → 0 < records_in f → 0 < size f
unfolding records_in size
some_left nil l = absurd (omega arith)
some_left (t ▸ f) l = omega arith

pub record Turn (b : List ℕ) (facts : List Facts) (p e : ℕ) (s : Standing b p e) : Type 0 where
  pub onward : Standing b (p + extent_at facts p) e
  pub are : s.trees ≡ subtree b p ▸ onward.trees
  pub inside : p < record_count b
  pub extent : extent_at facts p ≡ records (subtree b p)
  pub some : 0 < extent_at facts p
  pub within : p + extent_at facts p ≤ e
  pub bound : e ≤ record_count b

pub next-tree : (b : List ℕ) (facts : List Facts) → Sized b facts → (p e : ℕ) (s : Standing b p e) → p < e → Turn b facts p e s
unfolding records_in
next-tree b facts x p e s l =
    let z = x.table in
    let n = next_row b facts x p (size s.trees) (row_of b z p s.trees s.later s.row) (some_left s.trees (omega (arith, s.long))) in
    let m : records_in s.trees ≡ records (subtree b p) + records_in n.others.trees = ap records_in n.are in
    record {
      onward = record { trees = n.others.trees; later = n.others.later; row = n.others.row; long = omega (arith, s.long, n.extent) };
      are = n.are;
      inside = n.inside;
      extent = n.extent;
      some = extent-some b facts x p n.inside;
      within = omega (arith, s.long, n.extent);
      bound = omega (arith, s.long, n.inside, records-at b z p, ap records_in s.row, records-⧺ s.trees s.later);
    }

-- at its end nothing is left
pub none_left : (b : List ℕ) (p e : ℕ) (s : Standing b p e) → e ≤ p → s.trees ≡ nil
unfolding records_in
none_left b p e s l = go s.trees s.long
  where
    go : (f : Forest) → p + records_in f ≡ e → f ≡ nil
    go nil q = refl
    go (t ▸ f) q = absurd (omega (arith, some-records t))

-- ---- what a walk finds

pub child-not : (s : Bares) (t : Tree) → None ≡ bare_time t → s ≡ with_child s t
unfolding with_child bare_time
child-not s t e = rw (none-no (bare t) (time_of t) e) refl

pub child-bare : (s : Bares) (t : Tree) (x l : ℕ) → Some x ≡ bare_time t → l ≡ max s.largest x
    → record { count = s.count + 1; total = s.total + x; largest = l } ≡ with_child s t
unfolding with_child bare_time
child-bare s t x l e m = let (b, d) = some-yes (bare t) (time_of t) e in rw (m, b, d) refl

pub kept-none : (t : Tree) (r : Bool) → r ≡ bare t → r ≡ true → 0 ≡ kept_records t
unfolding kept_records
kept-none t r e h = rw (← e, h) refl

pub kept-all : (t : Tree) (r : Bool) (n : ℕ) → r ≡ bare t → r ≡ false → n ≡ records t → n ≡ kept_records t
unfolding kept_records
kept-all t r n e h m = rw (← e, h, m) refl

-- what was found, and what the trees in a row add
bares-are : (a b c x y z : ℕ) → a ≡ x → b ≡ y → c ≡ z → ◌≡◌ {A = Bares} (record { count = a; total = b; largest = c }) (record { count = x; total = y; largest = z })
bares-are a b c x y z p q r = λ i. record { count = p i; total = q i; largest = r i }

unfoldable pub gather : Forest → Bares → Bares
gather nil s = s
gather (t ▸ f) s = gather f (with_child s t)

gather-is : (f : Forest) (s : Bares) → gather f s ≡ record { count = s.count + bares f; total = s.total + total f; largest = max s.largest (largest f) }
unfolding gather bares total largest with_child
gather-is nil s = bares-are _ _ _ _ _ _ (omega arith) (omega arith) (omega arith)
gather-is (t ▸ f) s = go (bare t) (gather-is f)
  where
    go : (b : Bool) → ((z : Bares) → gather f z ≡ record { count = z.count + bares f; total = z.total + total f; largest = max z.largest (largest f) })
        → gather f (cond b (record { count = s.count + 1; total = s.total + time_of t; largest = max s.largest (time_of t) }) s)
        ≡ record { count = s.count + cond b (suc (bares f)) (bares f); total = s.total + cond b (time_of t + total f) (total f); largest = max s.largest (cond b (max (time_of t) (largest f)) (largest f)) }
    go true h = h _ ∙ bares-are _ _ _ _ _ _ (omega arith) (omega arith) (omega arith)
    go false h = h s

-- ---- the walk that finds the blocks

-- up to record p what was found, and what the trees left up to record e add, come to the children's
pub record Gathering (b : List ℕ) (i e p : ℕ) (found : Bares) : Type 0 where
  pub left : Standing b p e
  pub few : found.count < p
  pub low : found.total ≤ most_time * found.count
  pub whole : gather left.trees found ≡ bares_at (trees_at b i)

pub gather-start : (b : List ℕ) (facts : List Facts) → Sized b facts → (i : ℕ) → i < record_count b → Gathering b i (i + extent_at facts i) (i + 1) no_bares
unfolding bares_at
gather-start b facts x i l =
    let w = here-at b x.table i l in
    record {
      left = record { trees = w.kids; later = w.later; row = w.next; long = omega (arith, node-extent b facts x i l w) };
      few = omega arith;
      low = omega arith;
      whole = gather-is w.kids no_bares ∙ bares-are _ _ _ _ _ _ (omega arith) (omega arith) (omega arith) ∙ sym (ap bares_at w.here);
    }

pub gather-turn : (b : List ℕ) (facts : List Facts) → Sized b facts → (i e p : ℕ) (found more : Bares) (g : Gathering b i e p found) → p < e
    → more ≡ with_child found (subtree b p) → more.count ≤ p → more.total ≤ most_time * more.count
    → Gathering b i e (p + extent_at facts p) more
unfolding gather
gather-turn b facts x i e p found more g l m few low =
    let n = next-tree b facts x p e g.left l in record {
      left = n.onward;
      few = omega (arith, n.extent, some-records (subtree b p));
      low = low;
      whole =
          ap (gather n.onward.trees) m
          ∙ sym (ap (λ f. gather f found) n.are) ∙ g.whole;
    }

pub gather-end : (b : List ℕ) (i e p : ℕ) (found : Bares) (g : Gathering b i e p found) → e ≤ p → found ≡ bares_at (trees_at b i)
unfolding gather
gather-end b i e p found g l = sym (ap (λ f. gather f found) (none_left b p e g.left l)) ∙ g.whole

-- ---- the walk that copies the others

kept-bytes : (b : List ℕ) → IsTable b → (p : ℕ) → p < record_count b → (f : Forest)
    → slice b p (kept_records (subtree b p)) ++ encodes (others f) ≡ encodes (others (subtree b p ▸ f))
unfolding kept_records others encodes
kept-bytes b s p l f = go (bare (subtree b p))
  where
    go : (c : Bool) → slice b p (cond c 0 (records (subtree b p))) ++ encodes (others f) ≡ encodes (cond c (others f) (subtree b p ▸ others f))
    go true = refl
    go false = ap (λ x. x ++ encodes (others f)) (subtree-bytes b s p l)

kept-records : (t : Tree) (f : Forest) → kept_records t + records_in (others f) ≡ records_in (others (t ▸ f))
unfolding kept_records others records_in
kept-records t f = go (bare t)
  where
    go : (c : Bool) → cond c 0 (records t) + records_in (others f) ≡ records_in (cond c (others f) (t ▸ others f))
    go true = omega arith
    go false = refl

pub kept-few : (t : Tree) → kept_records t ≤ records t
unfolding kept_records
kept-few t = by_cond (λ n. n ≤ records t) (bare t) _ _ (λ h. omega arith) (λ h. omega arith)

-- the others of the row w are to be written from record at on; those up to record p are, up to record `to`, and those up to record e are left
pub record Copying (b first out : List ℕ) (w : Forest) (at e p to : ℕ) : Type 0 where
  pub left : Standing b p e
  pub long : length out ≡ length first
  pub place : to + records_in (others left.trees) ≡ at + records_in (others w)
  pub bytes : front to out ++ encodes (others left.trees) ≡ front at first ++ encodes (others w)

spanning-is : (f g : Forest) (n : ℕ) → n ≡ records_in f → spanning (f ⧺ g) n ≡ f
unfolding spanning records_in ◌⧺◌
spanning-is nil nil n e = refl
spanning-is nil (t ▸ g) n e = rw e refl
spanning-is (t ▸ f) g zero e = absurd (omega (arith, some-records t))
spanning-is (t ▸ f) g (suc n) e = ap (λ h. t ▸ h) (spanning-is f g (suc n - records t) (omega arith))

pub spans : (b : List ℕ) (p e : ℕ) (s : Standing b p e) → spanning (trees_at b p) (e - p) ≡ s.trees
spans b p e s = rw s.row (spanning-is s.trees s.later (e - p) (omega (arith, s.long)))

pub copy_start : (b out : List ℕ) (start e at : ℕ) → Standing b start e → Copying b out out (spanning (trees_at b start) (e - start)) at e start at
copy_start b out start e at s =
    let w = spans b start e s in record {
      left = s;
      long = refl;
      place = ap (λ f. at + records_in (others f)) (sym w);
      bytes = ap (λ f. front at out ++ encodes (others f)) (sym w);
    }

pub copy-turn : (b : List ℕ) (facts : List Facts) → Sized b facts → (first out more : List ℕ) (w : Forest) (at e p to n r : ℕ) → Copying b first out w at e p to → p < e
    → n ≡ kept_records (subtree b p) → length more ≡ length out → r ≡ to + n → front r more ≡ front to out ++ slice b p n
    → Copying b first more w at e (p + extent_at facts p) r
copy-turn b facts x first out more w at e p to n r c l k m q h =
    let z = next-tree b facts x p e c.left l in
    let f = z.onward.trees in record {
      left = z.onward;
      long = omega (arith, c.long);
      place = omega (arith, c.place, kept-records (subtree b p) f, ap (λ g. records_in (others g)) z.are);
      bytes =
          ap (λ o. o ++ encodes (others f)) (h ∙ ap (λ j. front to out ++ slice b p j) k)
          ∙ append_assoc (front to out) (slice b p (kept_records (subtree b p))) (encodes (others f))
          ∙ ap (λ o. front to out ++ o) (kept-bytes b x.table p z.inside f ∙ sym (ap (λ g. encodes (others g)) z.are))
          ∙ c.bytes;
    }

-- the next ones fit
pub copy-fits : (b : List ℕ) (facts : List Facts) → Sized b facts → (first out : List ℕ) (w : Forest) (at e p to : ℕ) → Copying b first out w at e p to → p < e
    → to + kept_records (subtree b p) ≤ at + records_in (others w)
copy-fits b facts x first out w at e p to c l =
    let z = next-tree b facts x p e c.left l in
    omega (arith, c.place, kept-records (subtree b p) z.onward.trees, ap (λ g. records_in (others g)) z.are)

pub copy-end : (b first out : List ℕ) (w : Forest) (at e p to : ℕ) → Copying b first out w at e p to → e ≤ p
    → Appended at first (records_in (others w)) (encodes (others w)) to out
unfolding others records_in encodes
copy-end b first out w at e p to c l =
    let z = none_left b p e c.left l in
    let m : records_in (others c.left.trees) ≡ 0 = ap (λ f. records_in (others f)) z in
    (omega (arith, c.place), sym (append-nil (front to out)) ∙ sym (ap (λ f. front to out ++ encodes (others f)) z) ∙ c.bytes)

-- ---- one block for the others

-- where the parts of a node stand
pub record Places (b : List ℕ) (facts : List Facts) (i q c : ℕ) (s : Parted b i q c) : Type 0 where
  pub extent : extent_at facts i ≡ suc (records_in s.first + records_in s.second)
  pub inside : i + extent_at facts i ≤ record_count b
  pub long : length b ≡ record_length * record_count b
  pub standing : Standing b q (i + extent_at facts i)
  pub are : standing.trees ≡ s.second
  pub own : first_node (drop (record_length * i) b) ≡ s.own
  pub number : child_byte (drop (record_length * i) b) ≡ size s.first + size s.second
  pub early : slice b (i + 1) (records_in s.first) ≡ encodes s.first
  pub after : record_count b - (i + extent_at facts i) ≡ records_in s.later
  pub late : slice b (i + extent_at facts i) (records_in s.later) ≡ encodes s.later

pub places : (b : List ℕ) (facts : List Facts) → Sized b facts → (i q c : ℕ) → i < record_count b → (s : Parted b i q c) → Places b facts i q c s
places b facts x i q c l s =
    let z = x.table in
    let h = here-is b z i s.own (s.first ⧺ s.second) s.later s.here in
    let k = node-extent b facts x i l h in
    let (g, inside) = past-node b facts x i l h in
    let a : trees_at b (i + 1) ≡ s.first ⧺ (s.second ⧺ s.later) = h.next ∙ ⧺-assoc s.first s.second s.later in
    let n : records_in (s.first ⧺ s.second) ≡ records_in s.first + records_in s.second = records-⧺ _ _ in
    let d : trees_at b q ≡ s.second ⧺ s.later = rw s.place (skip_at b z (i + 1) _ _ a) in
    let after : record_count b - (i + extent_at facts i) ≡ records_in s.later = sym (records-at b z _) ∙ ap records_in g in record {
      extent = omega arith;
      inside = inside;
      long = length-is b z;
      standing = record { trees = s.second; later = s.later; row = d; long = omega (arith, s.place) };
      are = refl;
      own = node_at b i h;
      number = count_at b i h ∙ size-⧺ _ _;
      early = bytes-at b z (i + 1) _ _ a;
      after = after;
      late = ap (slice b (i + extent_at facts i)) (sym after) ∙ tail_at b z (i + extent_at facts i) ∙ ap encodes g;
    }

merged-records : {b : List ℕ} {i q c : ℕ} (x : ℕ) (s : Parted b i q c) → records_in (merged x s) ≡ 1 + records_in s.first + 1 + records_in (others s.second) + records_in s.later
unfolding records records_in leaf
merged-records x s = omega (arith, records-⧺ s.first (leaf x Unlimited ▸ others s.second))

merged-bytes : {b : List ℕ} {i q c : ℕ} (x : ℕ) (s : Parted b i q c) → encodes (merged x s)
    ≡ (((record_bytes s.own (size s.first + suc (size (others s.second))) ++ encodes s.first) ++ record_bytes (node_of (Block (Plain x)) Unlimited 0) 0)
    ++ encodes (others s.second)) ++ encodes s.later
unfolding encode encodes leaf size
merged-bytes x s = rw (size-⧺, encodes-⧺) (simp append_assoc)

pub merge-wrote : (b : List ℕ) (facts : List Facts) → Sized b facts → (i q c : ℕ) → i < record_count b → (s : Parted b i q c)
    → (x m : ℕ) (n : Node) (o₁ o₂ o₃ o₄ o₅ : List ℕ) (r₁ r₂ r₃ r₄ r₅ : ℕ)
    → n ≡ first_node (drop (record_length * i) b) → m ≡ child_byte (drop (record_length * i) b) → m < 256
    → (r₁ ≡ 0 + 1) × (front r₁ o₁ ≡ record_bytes n (m - c + 1))
    → Appended r₁ o₁ (q - i - 1) (slice b (i + 1) (q - i - 1)) r₂ o₂
    → Appended r₂ o₂ 1 (record_bytes (node_of (Block (Plain x)) Unlimited 0) 0) r₃ o₃
    → Appended r₃ o₃ (records_in (others (spanning (trees_at b q) (i + extent_at facts i - q)))) (encodes (others (spanning (trees_at b q) (i + extent_at facts i - q)))) r₄ o₄
    → Appended r₄ o₄ (record_count b - (i + extent_at facts i)) (slice b (i + extent_at facts i) (record_count b - (i + extent_at facts i))) r₅ o₅
    → Wrote (some (merged x s)) (Some r₅) o₅
unfolding Wrote
merge-wrote b facts w i q c l s x m n o₁ o₂ o₃ o₄ o₅ r₁ r₂ r₃ r₄ r₅ d k u e₁ e₂ e₃ e₄ e₅ =
    let p = places b facts w i q c l s in
    let y : spanning (trees_at b q) (i + extent_at facts i - q) ≡ s.second = spans b q _ p.standing ∙ p.are in
    let h : q - i - 1 ≡ records_in s.first = omega (arith, s.place) in
    let z : m - c + 1 ≡ size s.first + suc (size (others s.second)) = omega (arith, p.number, s.number, s.some) in
    let v : records_in (others (spanning (trees_at b q) (i + extent_at facts i - q))) ≡ records_in (others s.second) = ap (λ f. records_in (others f)) y in
    let a₁ : front r₁ o₁ ≡ record_bytes s.own (size s.first + suc (size (others s.second))) = e₁.1 ∙ ap₂ record_bytes (d ∙ p.own) z in
    let a₂ : front r₂ o₂ ≡ record_bytes s.own (size s.first + suc (size (others s.second))) ++ encodes s.first
    = e₂.1 ∙ ap₂ (λ f g. f ++ g) a₁ (ap (slice b (i + 1)) h ∙ p.early) in (
      omega (arith, merged-records x s, p.after, e₁.0, e₂.0, e₃.0, e₄.0, e₅.0),
      e₅.1
          ∙ ap₂ (λ f g. f ++ g)
          (e₄.1 ∙ ap₂ (λ f g. f ++ g) (e₃.1 ∙ ap (λ f. f ++ record_bytes (node_of (Block (Plain x)) Unlimited 0) 0) a₂) (ap (λ f. encodes (others f)) y))
          (ap (slice b (i + extent_at facts i)) p.after ∙ p.late)
          ∙ sym (merged-bytes x s),
    )

-- ---- rules 6 and 7

others-size : (f : Forest) → size (others f) + bares f ≡ size f
unfolding others bares size
others-size nil = refl
others-size (t ▸ f) =
    by-conds (λ g c. size g + c ≡ suc (size f)) (bare t) _ _ _ _
    (λ h. omega (arith, others-size f))
    (λ h. omega (arith, others-size f))

others-records : (f : Forest) → records_in (others f) + bares f ≤ records_in f
unfolding others bares records_in
others-records nil = omega arith
others-records (t ▸ f) =
    by-conds (λ g c. records_in g + c ≤ records t + records_in f) (bare t) _ _ _ _
    (λ h. omega (arith, others-records f, some-records t))
    (λ h. omega (arith, others-records f))

-- what was found of a node of a kind, where there are two or more
module _ (b : List ℕ) (s : IsTable b) (i : ℕ) (l : i < record_count b) (k : Kind) where
  two-is : let w = here-at b s i l in two_bares k (trees_at b i) ≡ cond (same_kind w.own.kind k and leb 2 (bares w.kids)) (Some (bares_at (trees_at b i))) None
  unfolding two_bares
  two-is = let w = here-at b s i l in rw w.here refl

  kind-is : {n : Node} {r : Bool} → n ≡ first_node (drop (record_length * i) b) → r ≡ not (same_kind n.kind k) → r ≡ not (same_kind (here-at b s i l).own.kind k)
  kind-is e d = d ∙ ap (λ n. not (same_kind n.kind k)) (e ∙ node_at b i (here-at b s i l))

  count-is : (found : Bares) → found ≡ bares_at (trees_at b i) → found.count ≡ bares (here-at b s i l).kids
  unfolding bares_at
  count-is found e = ap (λ f. f.count) (e ∙ ap bares_at (here-at b s i l).here)

  pub two-other : {n : Node} {r : Bool} → n ≡ first_node (drop (record_length * i) b) → r ≡ not (same_kind n.kind k) → r ≡ true → None ≡ two_bares k (trees_at b i)
  unfolding ◌and◌
  two-other e d z = rw (two-is, not-true (same_kind (here-at b s i l).own.kind k) (sym (kind-is e d) ∙ z)) refl

  pub two-few : (found : Bares) → found ≡ bares_at (trees_at b i) → found.count < 2 → None ≡ two_bares k (trees_at b i)
  two-few found e m = rw (two-is, ← count-is found e, lt-leb 2 found.count m, and-false) refl

  pub two-both : {n : Node} {r : Bool} (found : Bares) → n ≡ first_node (drop (record_length * i) b) → r ≡ not (same_kind n.kind k) → r ≡ false → found ≡ bares_at (trees_at b i) → 2 ≤ found.count
      → Some found ≡ two_bares k (trees_at b i)
  unfolding ◌and◌
  two-both found e d y h m =
      rw (two-is, not-false (same_kind (here-at b s i l).own.kind k) (sym (kind-is e d) ∙ y), ← count-is found h, T-is (leb 2 found.count) (le→leb 2 found.count m), ← h) refl

  pub two-found : (found : Bares) → Some found ≡ two_bares k (trees_at b i) → (found ≡ bares_at (trees_at b i)) × (2 ≤ found.count)
  two-found found e =
      let w = here-at b s i l in
      let (t, f) = some-yes (same_kind w.own.kind k and leb 2 (bares w.kids)) _ (e ∙ two-is) in
      (f, omega (arith, count-is found f, leb→le 2 (bares w.kids) (both _ _ (is_T _ t)).1))

-- a rule that asks for a kind and for two such blocks
abbrev pub Asks : Kind → (Node → Forest → Option Tree) → (Node → Forest → Tree) → Type 0
Asks k rule made = (n : Node) (f : Forest) → rule n f ≡ when (same_kind n.kind k and leb 2 (bares f)) (made n f)

module _ (k : Kind) (rule : Node → Forest → Option Tree) (made : Node → Forest → Tree) (a : Asks k rule made)
    (b : List ℕ) (s : IsTable b) (i : ℕ) (l : i < record_count b) where
  stands : Here b i
  stands = here-at b s i l

  tested : rule_at rule (trees_at b i) ≡ also (λ t. t ▸ stands.later) (when (same_kind stands.own.kind k and leb 2 (bares stands.kids)) (made stands.own stands.kids))
  unfolding rule_at
  tested = rw (stands.here, a stands.own stands.kids) refl

  pub rule-unfit : (out : List ℕ) → None ≡ two_bares k (trees_at b i) → Wrote (rule_at rule (trees_at b i)) None out
  unfolding also when stands bares_at
  rule-unfit out e =
      wrote_none _ out (tested ∙ rw (none-no (same_kind stands.own.kind k and leb 2 (bares stands.kids)) _ (e ∙ two-is b s i l k)) refl)

  pub rule-other : (r : Bool) (out : List ℕ) → r ≡ same_kind (first_node (drop (record_length * i) b)).kind k → not r ≡ true → Wrote (rule_at rule (trees_at b i)) None out
  rule-other r out e h = rule-unfit out (two-other b s i l k refl (ap not e) h)

  pub rule-few : (found : Bares) (out : List ℕ) → found ≡ bares_at (trees_at b i) → found.count < 2 → Wrote (rule_at rule (trees_at b i)) None out
  rule-few found out e h = rule-unfit out (two-few b s i l k found e h)

  pub rule_fits : (found : Bares) → Some found ≡ two_bares k (trees_at b i) → let w = here-at b s i l in rule_at rule (trees_at b i) ≡ some (made w.own w.kids ▸ w.later)
  unfolding also when stands bares_at
  rule_fits found e =
      tested ∙ rw ((some-yes (same_kind stands.own.kind k and leb 2 (bares stands.kids)) _ (e ∙ two-is b s i l k)).0) refl

-- what was found is of these children
found-is : (b : List ℕ) (i : ℕ) (found : Bares) (w : Here b i) → found ≡ bares_at (trees_at b i)
    → (found.count ≡ bares w.kids) × (found.total ≡ total w.kids) × (found.largest ≡ largest w.kids)
unfolding bares_at
found-is b i found w e =
    let q : found ≡ bares_at (node w.own w.kids ▸ w.later) = e ∙ ap bares_at w.here in
    (ap (λ f. f.count) q, ap (λ f. f.total) q, ap (λ f. f.largest) q)

-- ---- rule 6: the children in one row

pub asks-6 : Asks Sequence rule6 (λ n f. node n (leaf (total f) Unlimited ▸ others f))
unfolding rule6
asks-6 n f = refl

pub all-parted : (b : List ℕ) (s : IsTable b) (i : ℕ) (l : i < record_count b) (found : Bares) → found ≡ bares_at (trees_at b i) → 2 ≤ found.count
    → Parted b i (i + 1) found.count
unfolding ◌⧺◌ records_in
all-parted b s i l found e m =
    let w = here-at b s i l in
    let c = found-is b i found w e in record {
      own = w.own;
      first = nil;
      second = w.kids;
      later = w.later;
      here = w.here;
      place = omega arith;
      some = omega arith;
      number = omega (arith, c.0, others-size w.kids);
      fewer = omega (arith, c.0, others-records w.kids);
    }

pub all-stand : (b : List ℕ) (s : IsTable b) (i : ℕ) (l : i < record_count b) (found : Bares) → Some found ≡ two_bares Sequence (trees_at b i) → Parted b i (i + 1) found.count
all-stand b s i l found d = let (e, m) = two-found b s i l Sequence found d in all-parted b s i l found e m

pub rule6-wrote : (b : List ℕ) (s : IsTable b) (i : ℕ) (l : i < record_count b) (found : Bares) → Some found ≡ two_bares Sequence (trees_at b i)
    → (n : ℕ) (out : List ℕ) → ((p : Parted b i (i + 1) found.count) → Wrote (some (merged found.total p)) (Some n) out) → Wrote (rule_at rule6 (trees_at b i)) (Some n) out
unfolding ◌⧺◌ all-parted
rule6-wrote b s i l found d n out w =
    let (e, m) = two-found b s i l Sequence found d in
    rw (rule_fits Sequence rule6 _ asks-6 b s i l found d, ← (found-is b i found (here-at b s i l) e).1) (w (all-parted b s i l found e m))

-- ---- rule 7: the children in two rows

-- the second from the first unlimited plain block on
record FirstBare (f : Forest) : Type 0 where
  first : Forest
  second : Forest
  split : f ≡ first ⧺ second
  any : any bare f ≡ true
  place : offset bare f ≡ records_in first
  put : (x : ℕ) → at_first x f ≡ first ⧺ (leaf x Unlimited ▸ others second)
  number : size (others second) + bares f ≡ size second
  fewer : records_in (others second) < records_in second

first-bare : (f : Forest) → 1 ≤ bares f → FirstBare f
unfolding bares any offset at_first others ◌⧺◌ records_in
first-bare nil h = absurd (omega arith)
first-bare (t ▸ f) h = go (bare t) refl (first-bare f)
  where
    go : (c : Bool) → bare t ≡ c → (1 ≤ bares f → FirstBare f) → FirstBare (t ▸ f)
    go true e k = record {
      first = nil;
      second = t ▸ f;
      split = refl;
      any = rw e refl;
      place = rw e refl;
      put = λ x. rw e refl;
      number = others-size (t ▸ f);
      fewer = omega (arith, others-records (t ▸ f), h);
    }
    go false e k =
        let p = k (rw e at h) in record {
          first = t ▸ p.first;
          second = p.second;
          split = ap (λ g. t ▸ g) p.split;
          any = rw e p.any;
          place = rw e (ap (λ n. records t + n) p.place);
          put = λ x. rw e (ap (λ g. t ▸ g) (p.put x));
          number = rw e p.number;
          fewer = p.fewer;
        }

pub asks-7 : Asks Choice rule7 (λ n f. node n (at_first (largest f) f))
unfolding rule7
asks-7 n f = refl

module _ (b : List ℕ) (s : IsTable b) (i : ℕ) (l : i < record_count b) (found : Bares) (e : found ≡ bares_at (trees_at b i)) (m : 2 ≤ found.count) where
  abbrev stood : Here b i
  stood = here-at b s i l

  found-here : (found.count ≡ bares stood.kids) × (found.total ≡ total stood.kids) × (found.largest ≡ largest stood.kids)
  found-here = found-is b i found stood e

  from_first : FirstBare stood.kids
  from_first = first-bare stood.kids (omega (arith, found-here.0))

  bare-place : child_at bare i (trees_at b i) ≡ Some (i + 1 + records_in from_first.first)
  unfolding child_at
  bare-place = ap (child_at bare i) stood.here ∙ rw (from_first.any, from_first.place) refl

  -- there is a first one
  pub some-bare : None ≡ child_at bare i (trees_at b i) → ⊥
  some-bare n = none-some _ (n ∙ bare-place)

  pub two-parted : (q : ℕ) → Some q ≡ child_at bare i (trees_at b i) → Parted b i q found.count
  two-parted q j = record {
    own = stood.own;
    first = from_first.first;
    second = from_first.second;
    later = stood.later;
    here = stood.here ∙ ap (λ f. node stood.own f ▸ stood.later) from_first.split;
    place = same_Some _ _ (j ∙ bare-place);
    some = omega arith;
    number = omega (arith, from_first.number, found-here.0);
    fewer = from_first.fewer;
  }

pub rule7-wrote : (b : List ℕ) (s : IsTable b) (i : ℕ) (l : i < record_count b) (found : Bares) → Some found ≡ two_bares Choice (trees_at b i) → (q : ℕ) → Some q ≡ child_at bare i (trees_at b i)
    → (n : ℕ) (out : List ℕ) → ((p : Parted b i q found.count) → Wrote (some (merged found.largest p)) (Some n) out) → Wrote (rule_at rule7 (trees_at b i)) (Some n) out
unfolding two-parted
rule7-wrote b s i l found d q j n out w =
    let (e, m) = two-found b s i l Choice found d in
    rw (rule_fits Choice rule7 _ asks-7 b s i l found d, ← (found-here b s i l found e m).2, (from_first b s i l found e m).put found.largest) (w (two-parted b s i l found e m q j))
