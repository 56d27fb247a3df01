-- The branch as the walk finds it, child by child, is the definition's.
use Rattle.std.specs.Prelude.{◌≡◌, refl, Bool, true, false, cond, ℕ, suc, ◌+◌, ◌<◌, max, leb}
use Rattle.std.proofs.Common.{sym, ◌∙◌, arith, le-leb, leb-false, leb-true}
use Rattle.std.proofs.lemmas.Bool.{lt-leb}
use Rattle.table.specs.Trees.{Tree, Forest, nil, node, ◌▸◌, rest, size}
use Rattle.lists.specs.Streams.{Stream, const, holder, merge, taken}
use Rattle.evaluate.specs.Nodes.{Kind, Block, Sequence, Choice, Loop}
use Rattle.evaluate.specs.Evaluate.{Values, before, branch_in, holder_in, join, list, name, no_branch, start, turns}
use Rattle.evaluate.specs.Evaluator.{next_holder}

-- a child's list, as its parent takes it
abbrev pub child_list : Values → Kind → Tree → Stream
child_list v k t = turns v k (name t) (list v t)

-- which child holds the largest first member after the children f, numbers i and on, where child c holds the first member of the list a of those before
unfoldable pub holder_after : Values → Kind → (c i : ℕ) → Stream → Forest → ℕ
holder_after v k c i a nil = c
holder_after v k c i a (t ▸ f) = holder_after v (rest k) (next_holder k c (a 0) i (child_list v k t 0)) (suc i) (join k a (child_list v k t)) f

-- ---- a choice

-- by the first members: x of the children so far, y of the next one, child i, and z of the others taken together, of which child h holds it
next-holds : (x y z c i h : ℕ) → cond (leb z (max x y)) (cond (leb y x) c i) (suc i + h) ≡ cond (leb (max y z) x) c (i + cond (leb z y) 0 (suc h))
next-holds x y z c i h = go (leb y x) (leb z x) (leb z y) refl refl refl
  where
    go : (p q r : Bool) → leb y x ≡ p → leb z x ≡ q → leb z y ≡ r → cond (leb z (max x y)) (cond p c i) (suc i + h) ≡ cond (leb (max y z) x) c (i + cond r 0 (suc h))
    go true true r p q s =
        let l = leb-true y x p in
        let m = leb-true z x q in
        rw (le-leb z (max x y) (omega arith), le-leb (max y z) x (omega arith)) refl
    go true false true p q s = absurd (omega (arith, leb-true y x p, leb-false z x q, leb-true z y s))
    go true false false p q s =
        let l = leb-true y x p in
        let m = leb-false z x q in
        rw (lt-leb z (max x y) (omega arith), lt-leb (max y z) x (omega arith)) (omega arith)
    go false q true p o s =
        let l = leb-false y x p in
        let m = leb-true z y s in
        rw (le-leb z (max x y) (omega arith), lt-leb (max y z) x (omega arith)) (omega arith)
    go false q false p o s =
        let l = leb-false y x p in
        let m = leb-false z y s in
        rw (lt-leb z (max x y) (omega arith), lt-leb (max y z) x (omega arith)) (omega arith)

-- Those before keep it, unless one of f is larger. A child is taken apart to its node, so that its own limit shows.
choice-after : (v : Values) (c i : ℕ) (a : Stream) (f : Forest) → holder_after v Choice c i a f ≡ cond (leb (before v Choice f 0) (a 0)) c (i + holder_in v f)
unfolding holder_after before start const rest next_holder turns join merge taken holder_in holder
choice-after v c i a nil = rw (le-leb 0 (a 0) (omega arith)) refl
choice-after v c i a (node n g ▸ f) =
    choice-after v (cond (leb (list v (node n g) 0) (a 0)) c i) (suc i) (merge a (list v (node n g))) f ∙ next-holds (a 0) (list v (node n g) 0) (before v Choice f 0) c i (holder_in v f)

-- where every first member is 0, the first child holds it
zero-holder : (v : Values) (f : Forest) → leb (before v Choice f 0) 0 ≡ true → holder_in v f ≡ 0
unfolding holder_in holder before join turns merge taken rest
zero-holder v nil e = refl
zero-holder v (node n g ▸ f) e =
    let l = leb-true (max (list v (node n g) 0) (before v Choice f 0)) 0 e in
    rw (le-leb (before v Choice f 0) (list v (node n g) 0) (omega arith)) refl

choice-branch : (v : Values) (f : Forest) → holder_after v Choice 0 0 (const 0) f ≡ holder_in v f
unfolding const
choice-branch v f = choice-after v 0 0 (const 0) f ∙ go (leb (before v Choice f 0) 0) refl
  where
    go : (b : Bool) → leb (before v Choice f 0) 0 ≡ b → cond b 0 (0 + holder_in v f) ≡ holder_in v f
    go true e = sym (zero-holder v f e)
    go false e = omega arith

-- ---- the others

sequence-after : (v : Values) (i : ℕ) (a : Stream) (f : Forest) → holder_after v Sequence no_branch i a f ≡ no_branch
unfolding holder_after rest next_holder
sequence-after v i a nil = refl
sequence-after v i a (t ▸ f) = sequence-after v (suc i) _ f

-- ---- all kinds

pub branch-after : (v : Values) (k : Kind) (f : Forest) → 0 < size f → holder_after v k 0 0 (const 0) f ≡ branch_in v k f
unfolding holder_after branch_in size rest next_holder
branch-after v k nil l = absurd (omega arith)
branch-after v (Block b) (t ▸ f) l = sequence-after v 1 _ f
branch-after v Sequence (t ▸ f) l = sequence-after v 1 _ f
branch-after v Choice (t ▸ f) l = choice-branch v (t ▸ f)
branch-after v (Loop n) (t ▸ f) l = sequence-after v 1 _ f
