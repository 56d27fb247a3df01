-- What stands at a record of an accepted table.
use Rattle.std.specs.Prelude.{◌≡◌, ℕ, ◌+◌, ◌-◌, ◌*◌, ◌≤◌, ◌<◌, suc, T, length, take}
use Rattle.std.proofs.Math.Path.{refl, ap}
use Rattle.std.proofs.Common.{sym, ◌∙◌, subst, length-drop, take_all, take_at}
use mathlib.Core.List.{List, ◌++◌, append_assoc, append-nil}
use Rattle.std.proofs.Math.Numerals.{add-one}
use native.Mathlib.Omega.{arith}
use Rattle.std.proofs.Math.ListN.{drop}
use Rattle.booleans.specs.Laws.{join-and}
use Rattle.table.specs.Numbers.{record_length}
use Rattle.table.specs.Table.{decode, encode, encodes, record_bytes, record_count, top}
use Rattle.table.specs.Trees.{Forest, Tree, nil, node, ◌▸◌, ◌⧺◌, records, records_in, size}
use Rattle.table.proofs.Laws.RoundTrip.{length-encodes}
use Rattle.table.proofs.Laws.Tables.{count-is, length-is}
use Rattle.table.proofs.Laws.Trees.{some-records}
use Rattle.evaluate.specs.Evaluate.{fits, fits_in, zeros}
use Rattle.subtrees.specs.Nodes.{Node}
use Rattle.table.specs.Checking.{IsTable}
use Rattle.subtrees.specs.Parts.{Simplifiable, subtree, trees_at}
use Rattle.subtrees.specs.Facts.{Sized, Surveyed, extent_at}
use Rattle.subtrees.specs.declared.Facts.{Facts}
use Rattle.subtrees.specs.Laws.Forests.{Sound, SoundIn, below, drop-from, encodes-⧺, from, from-add, from-fits, from_next, from-records, from_row, from-sound, records-⧺, row_back}

-- the node at record i with its children, and what stands after them
pub record Here (b : List ℕ) (i : ℕ) : Type 0 where
  pub own : Node
  pub kids : Forest
  pub later : Forest
  pub here : trees_at b i ≡ node own kids ▸ later
  pub next : trees_at b (i + 1) ≡ kids ⧺ later
  pub sound : Sound (node own kids)
  pub bytes : drop (record_length * i) b ≡ record_bytes own (size kids) ++ encodes (kids ⧺ later)

-- the tree there
pub top-at : (b : List ℕ) (i : ℕ) {t : Tree} {g : Forest} → trees_at b i ≡ t ▸ g → subtree b i ≡ t
unfolding subtree top
top-at b i e = ap top e

pub first-sound : (n : Node) (f g : Forest) → SoundIn (node n f ▸ g) → Sound (node n f)
unfolding SoundIn
first-sound n f g h = h.0

pub row-bytes : (n : Node) (f g : Forest) → encodes (node n f ▸ g) ≡ record_bytes n (size f) ++ encodes (f ⧺ g)
unfolding encode encodes
row-bytes n f g = rw (append_assoc, encodes-⧺) refl

module _ (b : List ℕ) (s : IsTable b) where
  abbrev root : Forest
  root = decode b ▸ nil

  root-bytes : encodes root ≡ b
  unfolding encodes
  root-bytes = append-nil (encode (decode b)) ∙ s.back

  root-records : records_in root ≡ record_count b
  unfolding records_in
  root-records = omega (arith, count-is b s)

  root-sound : SoundIn root
  unfolding SoundIn
  root-sound =
      let a = s.accepted in
      (record { around = 0; fair = record { listed = a.listed; nested = a.nested; named = a.named; weighed = a.weighed }; deep = a.deep }, tt)

  at_from : (i : ℕ) → trees_at b i ≡ from i root
  unfolding trees_at
  at_from i =
      let d : drop (record_length * i) b ≡ encodes (from i root) = ap (drop (record_length * i)) (sym root-bytes) ∙ drop-from i root in
      let n : record_count b - i ≡ records_in (from i root) = omega (arith, from-records i root, root-records) in
      rw (d, n) (row_back (from i root) (from-sound i root root-sound))

  pub back_at : (i : ℕ) → encodes (trees_at b i) ≡ drop (record_length * i) b
  back_at i = rw (at_from i) (sym (drop-from i root) ∙ ap (drop (record_length * i)) root-bytes)

  pub records-at : (i : ℕ) → records_in (trees_at b i) ≡ record_count b - i
  records-at i = rw (at_from i) (omega (arith, from-records i root, root-records))

  pub sound-at : (i : ℕ) → SoundIn (trees_at b i)
  sound-at i = rw (at_from i) (from-sound i root root-sound)

  pub root-at : trees_at b 0 ≡ decode b ▸ nil
  unfolding from
  root-at = at_from 0

  below_at : (i : ℕ) → trees_at b (suc i) ≡ below (trees_at b i)
  below_at i = rw (at_from (suc i), at_from i) (from_next i root)

  -- past the first trees of a row stand the others
  pub skip_at : (i : ℕ) (f g : Forest) → trees_at b i ≡ f ⧺ g → trees_at b (i + records_in f) ≡ g
  skip_at i f g e = rw (at_from (i + records_in f), from-add, ← at_from i, e) (from_row f g)

  -- and their bytes are the trees' own
  pub bytes-at : (i : ℕ) (f g : Forest) → trees_at b i ≡ f ⧺ g → take (record_length * records_in f) (drop (record_length * i) b) ≡ encodes f
  bytes-at i f g e = rw (← back_at i, e, encodes-⧺) (take_at (encodes f) (encodes g) (record_length * records_in f) (length-encodes f))

  -- what stands from record i to the table's end
  pub tail_at : (i : ℕ) → take (record_length * (record_count b - i)) (drop (record_length * i) b) ≡ encodes (trees_at b i)
  tail_at i = take_all (record_length * (record_count b - i)) (drop (record_length * i) b) (rw length-drop (omega (arith, length-is b s))) ∙ sym (back_at i)

  pub next-at : (i : ℕ) (n : Node) (f g : Forest) → trees_at b i ≡ node n f ▸ g → trees_at b (i + 1) ≡ f ⧺ g
  unfolding below
  next-at i n f g e = rw add-one (below_at i ∙ ap below e)

  abbrev pub here-is : (i : ℕ) (n : Node) (f g : Forest) → trees_at b i ≡ node n f ▸ g → Here b i
  here-is i n f g e = record {
    own = n;
    kids = f;
    later = g;
    here = e;
    next = next-at i n f g e;
    sound = first-sound n f g (subst SoundIn e (sound-at i));
    bytes = sym (back_at i) ∙ ap encodes e ∙ row-bytes n f g;
  }

  pub here-at : (i : ℕ) → i < record_count b → Here b i
  here-at i l = go (trees_at b i) refl
    where
      go : (g : Forest) → trees_at b i ≡ g → Here b i
      go nil e = absurd (unfold records_in in omega (arith, records-at i, ap records_in e))
      go (node n f ▸ g) e = here-is i n f g e

-- ---- trees of a row one after the other, as a loop over a node's children reads them

-- `left` trees stand from record p on, and others after them
pub record Row (b : List ℕ) (p left : ℕ) : Type 0 where
  pub trees : Forest
  pub later : Forest
  pub row : trees_at b p ≡ trees ⧺ later
  pub many : size trees ≡ left
  pub last : left ≤ record_count b - p

some-each : (f : Forest) → size f ≤ records_in f
unfolding size records_in
some-each nil = omega arith
some-each (t ▸ f) = omega (arith, some-each f, some-records t)

-- when none is left
pub row-end : {b : List ℕ} {p left : ℕ} (r : Row b p left) → left ≤ 0 → r.trees ≡ nil
unfolding size
row-end {b} {p} {left} r l = go r.trees r.many
  where
    go : (f : Forest) → size f ≡ left → f ≡ nil
    go nil m = refl
    go (t ▸ f) m = absurd (omega arith)

-- the first of them, and the others
pub record First (b : List ℕ) (p left : ℕ) (r : Row b p left) : Type 0 where
  pub tree : Tree
  pub others : Row b (p + records tree) (left - 1)
  pub split : r.trees ≡ tree ▸ others.trees
  pub same : others.later ≡ r.later
  pub here : subtree b p ≡ tree
  pub start : p < record_count b
  pub inside : p + records tree ≤ record_count b

module _ (b : List ℕ) (s : IsTable b) where
  pub row_last : (p : ℕ) (f g : Forest) → trees_at b p ≡ f ⧺ g → size f ≤ record_count b - p
  row_last p f g e = omega (arith, records-at b s p, ap records_in e, records-⧺ f g, some-each f)

  abbrev pub row_of : (p : ℕ) (f g : Forest) → trees_at b p ≡ f ⧺ g → Row b p (size f)
  row_of p f g e = record { trees = f; later = g; row = e; many = refl; last = row_last p f g e }

  -- a node's children
  abbrev pub kids-row : (i : ℕ) (h : Here b i) → Row b (i + 1) (size h.kids)
  kids-row i h = row_of (i + 1) h.kids h.later h.next

  -- past the first tree
  past_first : (p : ℕ) (t : Tree) (g : Forest) → trees_at b p ≡ t ▸ g → (trees_at b (p + records t) ≡ g) × (p + records t ≤ record_count b)
  unfolding ◌⧺◌ records_in
  past_first p t g e =
      let n : p + (records t + 0) ≡ p + records t = omega arith in
      (rw n at (skip_at b s p (t ▸ nil) g e), omega (arith, records-at b s p, ap records_in e, some-records t))

  pub first-row : (p left : ℕ) (r : Row b p left) → 0 < left → First b p left r
  unfolding size ◌⧺◌
  first-row p left r l = go r.trees refl r.row r.many
    where
      go : (f : Forest) → r.trees ≡ f → trees_at b p ≡ f ⧺ r.later → size f ≡ left → First b p left r
      go nil e q m = absurd (omega arith)
      go (t ▸ f) e q m =
          let (past, inside) = past_first p t (f ⧺ r.later) q in
          record {
            tree = t;
            others = record { trees = f; later = r.later; row = past; many = omega arith; last = omega (arith, row_last (p + records t) f r.later past) };
            split = e;
            same = refl;
            here = top-at b p q;
            start = omega (arith, some-records t);
            inside = inside;
          }

-- how many records each subtree has, by the facts that are kept
pub sized : (b : List ℕ) (facts : List Facts) → Surveyed b facts → Sized b facts
sized b facts x = record { table = x.table; room = x.room; each = λ j l. ap (λ f. f.records) (x.each j l) }

-- the same by the facts
pub record Next (b : List ℕ) (facts : List Facts) (p left : ℕ) (r : Row b p left) : Type 0 where
  pub others : Row b (p + extent_at facts p) (left - 1)
  pub are : r.trees ≡ subtree b p ▸ others.trees
  pub same : others.later ≡ r.later
  pub inside : p < record_count b
  pub sized : p < length facts
  pub extent : extent_at facts p ≡ records (subtree b p)
  pub within : p + extent_at facts p ≤ record_count b

pub next_row : (b : List ℕ) (facts : List Facts) → Sized b facts → (p left : ℕ) (r : Row b p left) → 0 < left → Next b facts p left r
next_row b facts x p left r l =
    let f = first-row b x.table p left r l in
    let e : extent_at facts p ≡ records f.tree = x.each p f.start ∙ ap records f.here in
    record {
      others = record { trees = f.others.trees; later = f.others.later; row = rw e f.others.row; many = f.others.many; last = omega (arith, f.others.last) };
      are = f.split ∙ ap (λ t. t ▸ f.others.trees) (sym f.here);
      same = f.same;
      inside = f.start;
      sized = omega (arith, f.start, x.room);
      extent = x.each p f.start;
      within = omega (arith, f.inside);
    }

-- how long the subtree at record i is, and what stands past it
module _ (b : List ℕ) (facts : List Facts) (x : Sized b facts) (i : ℕ) (l : i < record_count b) where
  pub node-extent : (h : Here b i) → extent_at facts i ≡ suc (records_in h.kids)
  unfolding records
  node-extent h = x.each i l ∙ ap records (top-at b i h.here)

  pub past-node : (h : Here b i) → (trees_at b (i + extent_at facts i) ≡ h.later) × (i + extent_at facts i ≤ record_count b)
  past-node h = rw (x.each i l ∙ ap records (top-at b i h.here)) (past_first b x.table i (node h.own h.kids) h.later h.here)

  pub extent-some : 0 < extent_at facts i
  extent-some = omega (arith, x.each i l, some-records (subtree b i))

  pub past-inside : i + extent_at facts i ≤ record_count b
  past-inside = (past-node (here-at b x.table i l)).1

-- question 10 of a table that simplifying works on is question 10 of what stands at each record
pub fits-at : (b : List ℕ) → Simplifiable b → (i : ℕ) → T (fits_in zeros (trees_at b i))
unfolding fits
fits-at b s i = rw (at_from b s.table i) (from-fits zeros i _ (join-and _ _ s.fits tt))
