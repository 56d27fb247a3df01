-- The branch of the definition is the child with the largest first member, the earliest on ties.
use Rattle.std.specs.Prelude.{◌≡◌, Bool, true, false, cond, List, ◌∷◌, ℕ, zero, suc, max, ◌<◌, ◌≤◌, T, leb, get_or, length}
use Rattle.std.proofs.Math.Path.{refl}
use Rattle.std.proofs.Common.{arith, leb→le, le-leb, leb-false, leb-true}
use Rattle.booleans.specs.Laws.{both}
use Rattle.table.specs.declared.Kind.{Kind}
use Rattle.table.specs.declared.Kind.TheVariants.{Block, Sequence, Choice, Loop}
use Rattle.table.specs.declared.Limit.{Limit}
use Rattle.table.specs.Questions.{arity, listed}
use Rattle.table.specs.Trees.{Forest, Tree, nil, node, ◌▸◌, rest, size}
use Rattle.lists.specs.Streams.{const, holder, merge, taken}
use Rattle.evaluate.specs.Evaluate.{Values, before, branch, branch_in, figure, holder_in, join, limit, list, start, turns}
use Rattle.quoting.specs.Branches.{BranchOf, Branched, first_members}

-- the number x is number c of xs, larger than those before and as large as any
record Holds (xs : List ℕ) (c x : ℕ) : Type 0 where
  pub is : get_or xs c 0 ≡ x
  pub less : (i : ℕ) → i < c → get_or xs i 0 < x
  pub most : (i : ℕ) → get_or xs i 0 ≤ x

-- one more number in front
one_more : (x y c : ℕ) (xs : List ℕ) → Holds xs c y → Holds (x ∷ xs) (cond (leb y x) 0 (suc c)) (max x y)
one_more x y c xs h = go (leb y x) refl
  where
    most : (i : ℕ) → get_or (x ∷ xs) i 0 ≤ max x y
    most zero = omega arith
    most (suc i) = omega (arith, h.most i)

    less : x < y → (i : ℕ) → i < suc c → get_or (x ∷ xs) i 0 < max x y
    less l zero m = omega arith
    less l (suc i) m = omega (arith, h.less i (omega arith))

    go : (b : Bool) → leb y x ≡ b → Holds (x ∷ xs) (cond b 0 (suc c)) (max x y)
    go true e = let l = leb-true y x e in record { is = omega arith; less = λ i m. absurd (omega arith); most = most }
    go false e = let l = leb-false y x e in record { is = omega (arith, h.is); less = less l; most = most }

holder-holds : (v : Values) (f : Forest) → Holds (first_members v f) (holder_in v f) (before v Choice f 0)
unfolding first_members holder_in holder before join turns merge taken rest start const
holder-holds v nil = record { is = refl; less = λ i l. absurd (omega arith); most = λ i. omega arith }
holder-holds v (t ▸ f) = one_more (list v t 0) (before v Choice f 0) (holder_in v f) (first_members v f) (holder-holds v f)

holder-child : (v : Values) (f : Forest) → 0 < size f → holder_in v f < length (first_members v f)
unfolding first_members holder_in holder size before start const
holder-child v nil l = absurd (omega arith)
holder-child v (t ▸ nil) l = rw (le-leb 0 (list v t 0) (omega arith)) (omega arith)
holder-child v (t ▸ (c ▸ f)) l = go (leb (before v Choice (c ▸ f) 0) (list v t 0)) (holder-child v (c ▸ f) (omega arith))
  where
    go : (b : Bool) {m n : ℕ} → m < n → cond b 0 (suc m) < suc n
    go true l = omega arith
    go false l = omega arith

choice-branched : (v : Values) (l : Limit) (f : Forest) → 0 < size f → Branched v Choice l f (limit v l (before v Choice f) 0) (holder_in v f)
unfolding Branched limit
choice-branched v l f m =
    let h = holder-holds v f in
    (record { child = holder-child v f m; before = λ i o. omega (arith, h.is, h.less i o); after = λ i o. omega (arith, h.is, h.most i) }, λ e. rw e h.is)

pub branch-of : (v : Values) (t : Tree) → T (listed t) → BranchOf v t (figure v t) (branch v t)
unfolding BranchOf listed figure list branch
branch-of v (node n f) h = go n.kind (both _ _ (both _ _ h).0).1
  where
    go : (k : Kind) → T (arity k (size f)) → Branched v k n.limit f (limit v n.limit (before v k f) 0) (branch_in v k f)
    go (Block t) a = unfold Branched branch_in in refl
    go Sequence a = unfold Branched branch_in in refl
    go Choice a = unfold branch_in arity in choice-branched v n.limit f (leb→le 1 (size f) (both _ _ a).0)
    go (Loop m) a = unfold Branched branch_in in refl
