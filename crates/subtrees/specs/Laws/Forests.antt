-- Trees in a row, as the records of a table have them.
use Rattle.std.specs.Prelude.{◌≡◌, refl, ◌++◌, [], ℕ, ◌+◌, ◌-◌, ◌*◌, ◌≤◌, zero, suc, T, drop}
use Rattle.std.proofs.Common.{ap, ◌∙◌, append_assoc, append-nil, suc-add, zero-add, arith, drop-drop}
use Rattle.table.specs.Numbers.{most_depth, record_length}
use Rattle.table.specs.Questions.{depth, depth_in}
use Rattle.table.specs.Table.{encode, encodes, forest, forest_by}
use Rattle.table.specs.Trees.{Forest, Tree, nil, node, ◌▸◌, ◌⧺◌, records, records_in, rest}
use Rattle.table.proofs.Laws.RoundTrip.{Writes, WritesAll, drop-bytes, forest-all}
use Rattle.table.proofs.Laws.NotRefused.{tree-writes}
use Rattle.booleans.specs.Laws.{both, join-and}
use Rattle.evaluate.specs.Evaluate.{Values, fits, fits_in}
use Rattle.evaluate.proofs.Laws.Evaluator.{Fair, FairIn, fair-below, fair-first, fair-rest}
use Rattle.subtrees.specs.Nodes.{Node, Kind}

-- ---- one row after another

pub encodes-⧺ : (f g : Forest) → encodes (f ⧺ g) ≡ encodes f ++ encodes g
unfolding ◌⧺◌ encodes
encodes-⧺ nil g = refl
encodes-⧺ (t ▸ f) g = rw (encodes-⧺ f g, append_assoc) refl

pub records-⧺ : (f g : Forest) → records_in (f ⧺ g) ≡ records_in f + records_in g
unfolding ◌⧺◌ records_in
records-⧺ nil g = omega arith
records-⧺ (t ▸ f) g = omega (arith, records-⧺ f g)

-- ---- trees of an accepted table: with some number of loops around it, what checking lets pass

pub record Sound (t : Tree) : Type 0 where
  pub around : ℕ
  pub fair : Fair t around
  pub deep : depth t ≤ most_depth

unfoldable pub SoundIn : Forest → Type 0
SoundIn nil = Unit {0}
SoundIn (t ▸ f) = Sound t × SoundIn f

pub sound-⧺ : (f g : Forest) → SoundIn f → SoundIn g → SoundIn (f ⧺ g)
unfolding SoundIn ◌⧺◌
sound-⧺ nil g p q = q
sound-⧺ (t ▸ f) g p q = (p.0, sound-⧺ f g p.1 q)

children-sound : (k : Kind) (f : Forest) (d : ℕ) → FairIn k f d → depth_in f ≤ most_depth → SoundIn f
unfolding SoundIn depth
children-sound k nil d a l = tt
children-sound k (t ▸ f) d a l = (record { around = _; fair = fair-first k t f d a; deep = omega arith }, children-sound (rest k) f d (fair-rest k t f d a) (omega arith))

pub below-sound : (n : Node) (f : Forest) → Sound (node n f) → SoundIn f
unfolding depth
below-sound n f s = children-sound n.kind f s.around (fair-below n f s.around s.fair) (omega (arith, s.deep))

-- ---- without the first record, a row of trees has the first one's children in its place

unfoldable pub below : Forest → Forest
below nil = nil
below (node n f ▸ g) = f ⧺ g

unfoldable pub from : ℕ → Forest → Forest
from zero g = g
from (suc i) g = from i (below g)

pub from_next : (i : ℕ) (g : Forest) → from (suc i) g ≡ below (from i g)
unfolding from
from_next zero g = refl
from_next (suc i) g = from_next i (below g)

pub from-add : (i j : ℕ) (g : Forest) → from (i + j) g ≡ from j (from i g)
unfolding from
from-add zero j g = rw zero-add refl
from-add (suc i) j g = rw suc-add (from-add i j (below g))

pub drop-below : (g : Forest) → drop record_length (encodes g) ≡ encodes (below g)
unfolding encode encodes below
drop-below nil = refl
drop-below (node n f ▸ g) = rw (append_assoc, drop-bytes, encodes-⧺) refl

pub drop-from : (i : ℕ) (g : Forest) → drop (record_length * i) (encodes g) ≡ encodes (from i g)
unfolding from
drop-from zero g = refl
drop-from (suc i) g =
    let m : record_length * suc i ≡ record_length + record_length * i = omega arith in
    rw (m, ← drop-drop, drop-below) (drop-from i (below g))

below-records : (g : Forest) → records_in (below g) ≡ records_in g - 1
unfolding below records records_in
below-records nil = omega arith
below-records (node n f ▸ g) = omega (arith, records-⧺ f g)

pub from-records : (i : ℕ) (g : Forest) → records_in (from i g) ≡ records_in g - i
unfolding from
from-records zero g = omega arith
from-records (suc i) g = omega (arith, from-records i (below g), below-records g)

below_all : (g : Forest) → SoundIn g → SoundIn (below g)
unfolding SoundIn below
below_all nil h = tt
below_all (node n f ▸ g) h = sound-⧺ f g (below-sound n f h.0) h.1

pub from-sound : (i : ℕ) (g : Forest) → SoundIn g → SoundIn (from i g)
unfolding from
from-sound zero g h = h
from-sound (suc i) g h = from-sound i (below g) (below_all g h)

-- question 10 of a row of trees, and of what stands from a later record on
fits-⧺ : (v : Values) (f g : Forest) → T (fits_in v f) → T (fits_in v g) → T (fits_in v (f ⧺ g))
unfolding fits ◌⧺◌
fits-⧺ v nil g p q = q
fits-⧺ v (t ▸ f) g p q = let (a, c) = both _ _ p in join-and _ _ a (fits-⧺ v f g c q)

below-fits : (v : Values) (g : Forest) → T (fits_in v g) → T (fits_in v (below g))
unfolding fits below
below-fits v nil h = tt
below-fits v (node n f ▸ g) h = let (p, q) = both _ _ h in fits-⧺ v f g (both _ _ p).1 q

pub from-fits : (v : Values) (i : ℕ) (g : Forest) → T (fits_in v g) → T (fits_in v (from i g))
unfolding from
from-fits v zero g h = h
from-fits v (suc i) g h = from-fits v i (below g) (below-fits v g h)

-- past as many records as the first trees have stand the others
mutual
  unfolding records records_in ◌⧺◌ from below

  from-tree : (t : Tree) (g : Forest) → from (records t) (t ▸ g) ≡ g
  from-tree (node n f) g = from_row f g

  pub from_row : (f g : Forest) → from (records_in f) (f ⧺ g) ≡ g
  from_row nil g = refl
  from_row (t ▸ f) g = rw (from-add, from-tree t (f ⧺ g)) (from_row f g)

-- ---- a row of trees read back

⧺-nil : (f : Forest) → f ⧺ nil ≡ f
unfolding ◌⧺◌
⧺-nil nil = refl
⧺-nil (t ▸ f) = ap (λ g. t ▸ g) (⧺-nil f)

sound-writes : (g : Forest) → SoundIn g → WritesAll g
unfolding SoundIn Writes
sound-writes nil h = tt
sound-writes (t ▸ g) h = (tree-writes t h.0.fair.listed, sound-writes g h.1)

pub row_back : (g : Forest) → SoundIn g → forest (records_in g) (encodes g) ≡ g
unfolding forest_by
row_back g h =
    let n : records_in g ≡ records_in g + 0 = omega arith in
    rw n (rw (← append-nil (encodes g)) (forest-all g (sound-writes g h) 0 [] ∙ ⧺-nil g))
