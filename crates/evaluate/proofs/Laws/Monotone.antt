-- Every list never rises; larger values give no smaller prefix sums, so question 10 answered at some values is answered at lower ones.
use Rattle.std.specs.Prelude.{◌≡◌, refl, cond, Bool, leb, T}
use Rattle.std.proofs.Math.Bool.{true, false}
use Prim.Native.Nat.{ℕ, ◌≤◌, ◌*◌, ◌-◌, min}
use Rattle.std.proofs.Common.{mul-le-mul_left, mul-le-mul_right, le_trans, leb→le, le→leb, leb-false}
use native.Mathlib.Omega.{arith}
use Rattle.evaluate.specs.Nodes.{Limit, Unlimited, AtMost, Kind, Block, Sequence, Choice, Loop, Number, Plain, Symbol, Most}
use Rattle.booleans.specs.Laws.{by_cond, both, join-and}
use Rattle.table.specs.Numbers.{whole_run}
use Rattle.table.specs.Trees.{Tree, node, Forest, nil, ◌▸◌, rest}
use Rattle.lists.specs.Streams.{Stream, S, const, add, group}
use Rattle.lists.specs.Laws.Sums.{Falls, cap-falls, const-falls, group-falls, add-falls, S-add, S-cap, S-group, S-const, S-mono}
use Rattle.lists.specs.Laws.Merge.{merge-falls}
use Rattle.lists.specs.Laws.MergeLaws.{Under, under-refl, merge-mono}
use Rattle.triangular.proofs.Laws.Rule.{triangular-mono}
use Rattle.evaluate.specs.Evaluate.{Values, amount, limit, rounds, turns, join, start, name, list, before, figure, fits, fits_in, outward, inner, name_in, zeros, allowed}
use Rattle.evaluate.proofs.Laws.Times.{later-mono, once-falls, once-mono}
use Rattle.evaluate.proofs.Laws.Kinds.{by-join, by-start, by_first}

-- ---- lists never rise

pub limit-falls : (v : Values) (l : Limit) (f : Stream) → Falls f → Falls (limit v l f)
unfolding limit
limit-falls v Unlimited f h = h
limit-falls v (AtMost k m) f h = cap-falls (allowed v m) f h

pub rounds-falls : (k n : ℕ) (f : Stream) → Falls f → Falls (rounds k n f)
unfolding rounds
rounds-falls k n f h = by_cond Falls (leb k 1) _ _ (λ e. const-falls _) (λ e. group-falls n f h)

pub turns-falls : (v : Values) (k : Kind) (n : ℕ) (f : Stream) → Falls f → Falls (turns v k n f)
unfolding turns
turns-falls v k n f h = by_first (λ q. Falls (q.turns v n f)) k h (λ m e. rounds-falls n (amount v m) f h)

pub join-falls : (k : Kind) (f g : Stream) → Falls f → Falls g → Falls (join k f g)
join-falls k f g h i = by-join (λ j. Falls (j f g)) k (add-falls f g h i) (merge-falls f g h i)

mutual
  unfolding list

  pub list-falls : (v : Values) (t : Tree) → Falls (list v t)
  list-falls v (node n f) = limit-falls v n.limit _ (before_falls v n.kind f)

  pub before_falls : (v : Values) (k : Kind) (f : Forest) → Falls (before v k f)
  before_falls v k nil = by-start (λ b f. Falls f) v k const-falls once-falls
  before_falls v k (t ▸ f) = join-falls k _ _ (turns-falls v k (name t) _ (list-falls v t)) (before_falls v (rest k) f)

-- ---- larger values

pub first : (f g : Stream) → Under f g → f 0 ≤ g 0
unfolding S
first f g u = omega (arith, u 1)

module _ (v w : Values) (le : (k : ℕ) → v k ≤ w k) where
  amount-mono : (n : Number) → amount v n ≤ amount w n
  unfolding amount
  amount-mono (Plain n) = omega arith
  amount-mono (Symbol k) = le k

  allowed-mono : (m : Most) → allowed v m ≤ allowed w m
  unfolding allowed
  allowed-mono (Most.Plain n) = omega arith
  allowed-mono (Most.Symbol k) = le k
  allowed-mono (Most.Triangular k) = triangular-mono (v k) (w k) (le k)

  limit-mono : (l : Limit) (f g : Stream) → Under f g → Under (limit v l f) (limit w l g)
  unfolding limit
  limit-mono Unlimited f g u P = u P
  limit-mono (AtMost k m) f g u P =
      let h : min (allowed v m) P ≤ min (allowed w m) P = omega (arith, allowed-mono m) in
      omega (arith, S-cap (allowed v m) f P, S-cap (allowed w m) g P, u (min (allowed v m) P), S-mono g _ _ h)

  const_mono : (a b : ℕ) → a ≤ b → Under (const a) (const b)
  const_mono a b l P = omega (arith, S-const a P, S-const b P, mul-le-mul_left P l)

  group-mono : (m n : ℕ) (f g : Stream) → m ≤ n → Under f g → Under (group m f) (group n g)
  group-mono m n f g l u P = omega (arith, S-group m f P, S-group n g P, u (m * P), S-mono g _ _ (mul-le-mul_right P l))

  rounds-mono : (k m n : ℕ) (f g : Stream) → m ≤ n → Under f g → Under (rounds k m f) (rounds k n g)
  unfolding rounds
  rounds-mono k m n f g l u = go (leb k 1)
    where
      go : (b : Bool) → Under (cond b (const (group m f 0)) (group m f)) (cond b (const (group n g 0)) (group n g))
      go true = const_mono _ _ (first _ _ (group-mono m n f g l u))
      go false = group-mono m n f g l u

  turns-mono : (k : Kind) (n : ℕ) (f g : Stream) → Under f g → Under (turns v k n f) (turns w k n g)
  unfolding turns
  turns-mono k n f g u = by_first (λ q. Under (q.turns v n f) (q.turns w n g)) k u (λ m e. rounds-mono n _ _ f g (amount-mono m) u)

  add-mono : (f g f' g' : Stream) → Under f f' → Under g g' → Under (add f g) (add f' g')
  add-mono f g f' g' a b P = omega (arith, S-add f g P, S-add f' g' P, a P, b P)

  join-mono : (k : Kind) (f g f' g' : Stream) → Falls f → Falls g → Falls f' → Falls g' → Under f f' → Under g g' → Under (join k f g) (join k f' g')
  join-mono k f g f' g' a b c d h i = by-join (λ j. Under (j f g) (j f' g')) k (add-mono f g f' g' h i) (merge-mono f g f' g' a b c d h i)

  start-mono : (k : Kind) → Under (start v k) (start w k)
  unfolding start
  start-mono (Block t) = once-mono _ _ _ _ (amount-mono t) (later-mono v w le t)
  start-mono Sequence = under-refl _
  start-mono Choice = under-refl _
  start-mono (Loop n) = under-refl _

  mutual
    unfolding list

    pub list-mono : (t : Tree) → Under (list v t) (list w t)
    list-mono (node n f) = limit-mono n.limit _ _ (before-mono n.kind f)

    pub before-mono : (k : Kind) (f : Forest) → Under (before v k f) (before w k f)
    before-mono k nil = start-mono k
    before-mono k (t ▸ f) =
        join-mono k _ _ _ _
        (turns-falls v k (name t) _ (list-falls v t)) (before_falls v (rest k) f)
        (turns-falls w k (name t) _ (list-falls w t)) (before_falls w (rest k) f)
        (turns-mono k (name t) _ _ (list-mono t)) (before-mono (rest k) f)

  pub figure-mono : (t : Tree) → figure v t ≤ figure w t
  unfolding figure
  figure-mono t = first _ _ (list-mono t)

  mutual
    unfolding fits

    pub fits-mono : (t : Tree) → T (fits w t) → T (fits v t)
    fits-mono (node n f) h =
        let (a, b) = both _ _ h in
        join-and _ _ (le→leb _ _ (le_trans (first _ _ (before-mono n.kind f)) (leb→le _ _ a))) (fits_in-mono f b)

    pub fits_in-mono : (f : Forest) → T (fits_in w f) → T (fits_in v f)
    fits_in-mono nil h = tt
    fits_in-mono (t ▸ f) h = let (a, b) = both _ _ h in join-and _ _ (fits-mono t a) (fits_in-mono f b)

-- so no values give a figure where question 10 says no at zeros
pub fits-zeros : (v : Values) (t : Tree) → T (fits v t) → T (fits zeros t)
fits-zeros v t h = fits-mono zeros v (λ k. omega arith) t h

-- ---- names are at most 255

pub outward-le : (k : ℕ) → outward k ≤ whole_run
unfolding outward
outward-le k = go (leb k 1) (leb whole_run k) refl
  where
    go : (b c : Bool) → leb whole_run k ≡ c → cond b whole_run (cond c whole_run (k - 1)) ≤ whole_run
    go true c e = omega arith
    go false true e = omega arith
    go false false e = let r : k - 1 ≤ whole_run = omega (arith, leb-false whole_run k e) in r

inner-le : (l : Limit) (k : ℕ) → k ≤ whole_run → inner l k ≤ whole_run
unfolding inner
inner-le Unlimited k h = h
inner-le (AtMost j m) k h = omega arith

pub name_in-le : (k : Kind) (f : Forest) → name_in k f ≤ whole_run
unfolding name
name_in-le k nil = omega arith
name_in-le k (t ▸ f) = omega (arith, name_in-le (rest k) f)

pub name-le : (t : Tree) → name t ≤ whole_run
unfolding name
name-le (node n f) = inner-le n.limit _ (name_in-le n.kind f)
