-- No admitted run costs more than the figure.
use Rattle.std.specs.Prelude.{◌≡◌, cond, Bool, length}
use Rattle.std.proofs.Math.Path.{refl, ap, fun_ext}
use Rattle.std.proofs.Common.{sym, ◌∙◌, inl, inr}
use Rattle.std.proofs.Math.Bool.{true, false}
use mathlib.Core.List.{List, [], ◌∷◌, map, ◌++◌}
use Prim.Native.Nat.{ℕ, ◌+◌, zero, suc, ◌*◌, ◌≤◌, ◌<◌, ◌-◌, min, zero-le}
use Rattle.std.proofs.Math.Nat.{le_trans}
use native.Mathlib.Omega.{arith}
use Rattle.std.proofs.Math.Dec.{leb}
use borrow.Author.Tests.{leb-true, leb-false, lt-leb}
use Rattle.runs.specs.Nodes.{Limit, Unlimited, AtMost, Kind, Block, Sequence, Choice, Loop, Number}
use Rattle.table.specs.Numbers.{whole_run}
use Rattle.table.specs.Trees.{Tree, node, Forest, nil, ◌▸◌, rest}
use Rattle.lists.specs.Streams.{Stream, S, group, const}
use Rattle.lists.specs.Laws.Sums.{S-group, S-const, S-mono, S-add, S-cap}
use Rattle.lists.specs.Laws.Merge.{merge-over}
use Rattle.evaluate.specs.Evaluate.{inner, outward, rounds, Values, amount, later, once_then, seen, name, name_in, limit, turns, join, start, list, before, figure, allowed}
use Rattle.runs.specs.Runs.{total, All, Pass, PassIn, Spot, SpotIn, out, seen_limit, limit_at, limit_in, count, count_in, charged, own_charge, charge, charge_in, cost, keeps, here, Admitted, AdmittedIn, Run}
use Rattle.evaluate.proofs.Laws.Times.{later-le, once-sum}
use Rattle.evaluate.proofs.Laws.Monotone.{list-falls, before_falls}
use Rattle.runs.proofs.Laws.PassLists.{total-map, length-map, total-const, total-append, lefts, rights, sides, total-sides, flat, total-flat, length-flat, all-to, all-impl, all-lefts, all-rights, all-flat, total-le, all_both, all-down, total-zero, total-one}

inner-le : (l : Limit) (k : ℕ) → inner l k ≤ k
unfolding inner
inner-le Unlimited k = omega arith
inner-le (AtMost j m) k = omega arith

outward-le : (k j : ℕ) → 1 < k → k ≤ j → outward k ≤ outward j
unfolding outward
outward-le k j l g = rw (lt-leb k 1 l, lt-leb j 1 (omega arith)) (go (leb whole_run k) refl (leb whole_run j) refl)
  where
    go : (b : Bool) → leb whole_run k ≡ b → (c : Bool) → leb whole_run j ≡ c → cond b whole_run (k - 1) ≤ cond c whole_run (j - 1)
    go true p true q = omega arith
    go true p false q = omega (arith, leb-true whole_run k p, leb-false whole_run j q)
    go false p true q = let r : k - 1 ≤ whole_run = omega (arith, leb-false whole_run k p) in r
    go false p false q = let r : k - 1 ≤ j - 1 = omega arith in r

group-first : (n : ℕ) (f : Stream) → group n f 0 ≡ S f n
unfolding S
group-first n f =
    let e : n * 1 ≡ n = omega arith in
    omega (arith, rw e at (S-group n f 1))

-- c is what a list of passes costs together, no more than its parts do
pub record Subadditive {B : Type 0} (c : List B → ℕ) : Type 0 where
  pub none : c [] ≡ 0
  pub parts : (xs ys : List B) → c (xs ++ ys) ≤ c xs + c ys

flat-parts : {B E : Type 0} (c : List B → ℕ) → Subadditive c → (rs : List (List B × E)) → c (flat rs) ≤ total (λ r. c r.0) rs
unfolding flat total
flat-parts c h [] = omega (arith, h.none)
flat-parts c h (r ∷ rs) = omega (arith, h.parts r.0 (flat rs), flat-parts c h rs)

rounds-sound : {B E : Type 0} (k n : ℕ) (f : Stream) (c : List B → ℕ) (rs : List (List B × E)) → Subadditive c → All (λ r. length r.0 ≤ n) rs
    → (leb k 1 ≡ true → All (λ r. c r.0 ≤ S f (length r.0)) rs)
    → (leb k 1 ≡ false → c (flat rs) ≤ S f (length (flat rs)))
    → c (flat rs) ≤ S (rounds k n f) (length rs)
unfolding rounds
rounds-sound k n f c rs t w h₁ h₂ = go (leb k 1) refl
  where
    go : (b : Bool) → leb k 1 ≡ b → c (flat rs) ≤ S (cond b (const (group n f 0)) (group n f)) (length rs)
    go true e =
        rw (S-const, group-first)
        (le_trans (flat-parts c t rs)
        (total-le _ (S f n) rs
        (all-impl _ _ (λ r h. le_trans h.1 (S-mono f _ _ h.0)) rs (all_both _ _ rs w (h₁ e)))))
    go false e =
        omega (arith, h₂ e, S-mono f _ _ (length-flat n rs w), S-group n f (length rs))

-- ---- how often the nodes are passed

abbrev pub counts : (t : Tree) → List (Pass t) → Spot t → ℕ
counts t rs x = total (λ r. count t r x) rs

abbrev pub counts_in : (f : Forest) (k : Kind) → List (PassIn f k) → SpotIn f → ℕ
counts_in f k rs x = total (λ r. count_in f k r x) rs

-- ---- how a list of passes of a node passes what is below it

first-counts : (t : Tree) (f : Forest) (rs : List (PassIn (t ▸ f) Sequence)) → (λ x. counts_in (t ▸ f) Sequence rs (inl x)) ≡ counts t (map (λ r. r.0) rs)
unfolding count
first-counts t f rs = fun_ext (λ x. sym (total-map (λ r. count t r x) (λ (r : PassIn (t ▸ f) Sequence). r.0) rs))

rest-counts : (t : Tree) (f : Forest) (rs : List (PassIn (t ▸ f) Sequence)) → (λ x. counts_in (t ▸ f) Sequence rs (inr x)) ≡ counts_in f Sequence (map (λ r. r.1) rs)
unfolding count
rest-counts t f rs = fun_ext (λ x. sym (total-map (λ r. count_in f Sequence r x) (λ (r : PassIn (t ▸ f) Sequence). r.1) rs))

left-counts : (t : Tree) (f : Forest) (rs : List (PassIn (t ▸ f) Choice)) → (λ x. counts_in (t ▸ f) Choice rs (inl x)) ≡ counts t (lefts rs)
unfolding count
left-counts t f rs = fun_ext (λ x. total-sides (λ r. count_in (t ▸ f) Choice r (inl x)) rs ∙ omega (arith, total-zero (rights rs)))

right-counts : (t : Tree) (f : Forest) (rs : List (PassIn (t ▸ f) Choice)) → (λ x. counts_in (t ▸ f) Choice rs (inr x)) ≡ counts_in f Choice (rights rs)
unfolding count
right-counts t f rs = fun_ext (λ x. total-sides (λ r. count_in (t ▸ f) Choice r (inr x)) rs ∙ omega (arith, total-zero (lefts rs)))

body-counts : (t : Tree) (f : Forest) (n : Number) (rs : List (PassIn (t ▸ f) (Loop n))) → (λ x. counts_in (t ▸ f) (Loop n) rs (inl x)) ≡ counts t (flat rs)
unfolding count
body-counts t f n rs = fun_ext (λ x. sym (total-flat (λ p. count t p x) rs))

exit-counts : (t : Tree) (f : Forest) (n : Number) (rs : List (PassIn (t ▸ f) (Loop n))) → (λ x. counts_in (t ▸ f) (Loop n) rs (inr x)) ≡ counts_in f Sequence (map (λ r. r.1) rs)
unfolding count
exit-counts t f n rs = fun_ext (λ x. sym (total-map (λ r. count_in f Sequence r x) (λ (r : PassIn (t ▸ f) (Loop n)). r.1) rs))

module _ (v : Values) where
  -- ---- what they are charged

  pub charged-sum : (x : Number) (P : ℕ) → charged v x P ≡ S (once_then (amount v x) (later v x)) P
  charged-sum x zero = unfold charged in unfold S in refl
  charged-sum x (suc P) = unfold charged in omega (arith, once-sum (amount v x) (later v x) P)

  -- the first value is charged once for all, so passes together cost no more than apart
  charged-parts : (x : Number) (a b : ℕ) → charged v x (a + b) ≤ charged v x a + charged v x b
  unfolding charged
  charged-parts x zero b = let e : 0 + b ≡ b = omega arith in rw e (omega arith)
  charged-parts x (suc a) zero = let e : suc a + 0 ≡ suc a = omega arith in rw e (omega arith)
  charged-parts x (suc a) (suc b) = let e : suc a + suc b ≡ suc (a + suc b) = omega arith in rw e (omega (arith, later-le v x))

  own-parts : (k : Kind) (a b : ℕ) → own_charge v k (a + b) ≤ own_charge v k a + own_charge v k b
  unfolding own_charge
  own-parts (Block x) a b = charged-parts x a b
  own-parts Sequence a b = omega arith
  own-parts Choice a b = omega arith
  own-parts (Loop n) a b = omega arith

  own-none : (k : Kind) → own_charge v k 0 ≡ 0
  unfolding own_charge charged
  own-none (Block x) = refl
  own-none Sequence = refl
  own-none Choice = refl
  own-none (Loop n) = refl

  mutual
    unfolding charge

    charge-parts : (t : Tree) (c d : Spot t → ℕ) → charge v t (λ x. c x + d x) ≤ charge v t c + charge v t d
    charge-parts (node n f) c d = omega (arith, own-parts n.kind (c (inl tt)) (d (inl tt)), charge_in-parts f (λ x. c (inr x)) (λ x. d (inr x)))

    charge_in-parts : (f : Forest) (c d : SpotIn f → ℕ) → charge_in v f (λ x. c x + d x) ≤ charge_in v f c + charge_in v f d
    charge_in-parts nil c d = omega arith
    charge_in-parts (t ▸ f) c d = omega (arith, charge-parts t (λ x. c (inl x)) (λ x. d (inl x)), charge_in-parts f (λ x. c (inr x)) (λ x. d (inr x)))

  mutual
    unfolding charge

    pub charge-none : (t : Tree) → charge v t (λ x. 0) ≡ 0
    charge-none (node n f) = omega (arith, own-none n.kind, charge_in-none f)

    charge_in-none : (f : Forest) → charge_in v f (λ x. 0) ≡ 0
    charge_in-none nil = refl
    charge_in-none (t ▸ f) = omega (arith, charge-none t, charge_in-none f)

  -- a list of passes of a tree
  pub together : (t : Tree) → Subadditive (λ (rs : List (Pass t)). charge v t (counts t rs))
  unfolding total
  together t = record {
    none = charge-none t;
    parts = λ xs ys.
        let e : counts t (xs ++ ys) ≡ (λ x. counts t xs x + counts t ys x) = fun_ext (λ x. total-append (λ r. count t r x) xs ys) in
        rw e (charge-parts t (counts t xs) (counts t ys));
  }

  -- ---- limits

  -- z passes of a node keep its limit, if that names loop k or one further out
  unfoldable ok : ℕ → Limit → ℕ → Type 0
  ok k Unlimited z = Unit {0}
  ok k (AtMost j m) z = k ≤ j → z ≤ allowed v m

  keeps-ok : (l : Limit) (z : ℕ) → keeps v l z → ok 0 l z
  unfolding keeps ok
  keeps-ok Unlimited z h = tt
  keeps-ok (AtMost j m) z h = λ g. h

  ok-fewer : (k : ℕ) (l : Limit) (y z : ℕ) → y ≤ z → ok k l z → ok k l y
  unfolding ok
  ok-fewer k Unlimited y z h o = tt
  ok-fewer k (AtMost j m) y z h o = λ g. le_trans h (o g)

  ok-outer : (k k' : ℕ) (l : Limit) (z : ℕ) → k ≤ k' → ok k l z → ok k' l z
  unfolding ok
  ok-outer k k' Unlimited z h o = tt
  ok-outer k k' (AtMost j m) z h o = λ g. o (le_trans h g)

  -- into a loop that the body does not name
  ok-into : (k a : ℕ) (l : Limit) (z : ℕ) → a ≤ outward k → leb k 1 ≡ false → ok a (out l) z → ok k l z
  unfolding out ok
  ok-into k a Unlimited z h e o = tt
  ok-into k a (AtMost j m) z h e o = λ g.
      let l : 1 < k = leb-false k 1 e in
      let e₁ : leb j 1 ≡ false = lt-leb j 1 (omega arith) in
      let h₁ : a ≤ outward j = le_trans h (outward-le k j l g) in
      let o₁ : ok a (AtMost (outward j) m) z = rw e₁ at o in
      o₁ h₁

  -- into a loop that it names
  ok-both : (l : Limit) (z : ℕ) → here v l z → ok 0 (out l) z → ok 0 l z
  unfolding out ok here
  ok-both Unlimited z h o = tt
  ok-both (AtMost j m) z h o = λ g. go (leb j 1) refl o
    where
      go : (b : Bool) → leb j 1 ≡ b → ok 0 (cond b Unlimited (AtMost (outward j) m)) z → z ≤ allowed v m
      go true e o = h (leb-true j 1 e)
      go false e o = o (omega arith)

  limit-sound : (l : Limit) (f : Stream) (P k z : ℕ) → ok (inner l k) l P → z ≤ S f P → z ≤ S (limit v l f) P
  unfolding limit inner ok
  limit-sound Unlimited f P k z o h = h
  limit-sound (AtMost j m) f P k z o h =
      let e : min (allowed v m) P ≡ P = omega (arith, o (omega arith)) in
      rw (S-cap, e) h

  own : {A : Type 0} (k : ℕ) (l : Limit) (rs : List A) → ok k l (total (λ r. 1) rs) → ok k l (length rs)
  own k l rs o = ok-fewer k l _ _ (omega (arith, total-const 1 rs)) o

  abbrev Fits : (t : Tree) → ℕ → (Spot t → ℕ) → Type 0
  Fits t k c = (x : Spot t) → ok k (limit_at t x) (c x)

  abbrev FitsIn : (f : Forest) (k : Kind) → ℕ → (SpotIn f → ℕ) → Type 0
  FitsIn f k n c = (x : SpotIn f) → ok n (limit_in f k x) (c x)

  abbrev Good : (t : Tree) → Pass t → Type 0
  Good t r = Admitted v t r × Fits t 0 (count t r)

  abbrev GoodIn : (f : Forest) (k : Kind) → PassIn f k → Type 0
  GoodIn f k r = AdmittedIn v f k r × FitsIn f k 0 (count_in f k r)

  no-passes : (t : Tree) (f : Forest) (y : Number) (rs : List ⊥) (c : ⊥ → SpotIn (t ▸ f) → ℕ) → own_charge v (Block y) (length rs) + charge_in v (t ▸ f) (λ x. total (λ r. c r x) rs) ≡ 0
  unfolding total
  no-passes t f y [] c = omega (arith, own-none (Block y), charge_in-none (t ▸ f))
  no-passes t f y (r ∷ rs) c = absurd r

  mutual
    unfolding list name charge own_charge limit_at turns join seen rest seen_limit start count

    -- passes of a tree, each within its limits, and all within those on the named loop and outward, together cost at most as many members of the list
    sound : (t : Tree) (rs : List (Pass t)) → All (Good t) rs → Fits t (name t) (counts t rs) → charge v t (counts t rs) ≤ S (list v t) (length rs)
    sound (node n f) rs g h =
        limit-sound n.limit _ _ (name_in n.kind f) _ (own _ n.limit rs (h (inl tt)))
        (rw (total-one rs) (sound_in f n.kind rs (all-impl _ _ (λ r q. (q.0, λ x. q.1 (inr x))) rs g) (λ x. ok-outer _ _ _ _ (inner-le n.limit _) (h (inr x)))))

    sound_in : (f : Forest) (k : Kind) (rs : List (PassIn f k)) → All (GoodIn f k) rs → FitsIn f k (name_in k f) (counts_in f k rs)
        → own_charge v k (length rs) + charge_in v f (counts_in f k rs) ≤ S (before v k f) (length rs)
    sound_in nil (Block y) rs g h = omega (arith, charged-sum y (length rs))
    sound_in nil Sequence rs g h = omega arith
    sound_in nil Choice rs g h = omega arith
    sound_in nil (Loop n) rs g h = omega arith
    sound_in (t ▸ f) (Block y) rs g h = omega (arith, no-passes t f y rs (λ r x. count_in (t ▸ f) (Block y) r x))
    sound_in (t ▸ f) Sequence rs g h =
        let a = sound t (map (λ r. r.0) rs) (all-to _ _ _ (λ r q. (q.0.0, λ x. q.1 (inl x))) rs g)
        (λ x. rw (← ap (λ c. c x) (first-counts t f rs)) (ok-outer (min (name t) (name_in Sequence f)) (name t) _ _ (omega arith) (h (inl x)))) in
        let b = sound_in f Sequence (map (λ r. r.1) rs) (all-to _ _ _ (λ r q. (q.0.1, λ x. q.1 (inr x))) rs g)
        (λ x. rw (← ap (λ c. c x) (rest-counts t f rs)) (ok-outer (min (name t) (name_in Sequence f)) (name_in Sequence f) _ _ (omega arith) (h (inr x)))) in
        omega
        (arith, S-add (list v t) (before v Sequence f) (length rs), ap (charge v t) (first-counts t f rs), ap (charge_in v f) (rest-counts t f rs), simp length-map at a, simp length-map at b)
    sound_in (t ▸ f) Choice rs g h =
        let a = sound t (lefts rs) (all-lefts _ _ (λ r q. (q.0, λ x. q.1 (inl x))) rs g)
        (λ x. rw (← ap (λ c. c x) (left-counts t f rs)) (ok-outer (min (name t) (name_in Choice f)) (name t) _ _ (omega arith) (h (inl x)))) in
        let b = sound_in f Choice (rights rs) (all-rights _ _ (λ r q. (q.0, λ x. q.1 (inr x))) rs g)
        (λ x. rw (← ap (λ c. c x) (right-counts t f rs)) (ok-outer (min (name t) (name_in Choice f)) (name_in Choice f) _ _ (omega arith) (h (inr x)))) in
        omega (
          arith,
          a,
          b,
          ap (charge v t) (left-counts t f rs),
          ap (charge_in v f) (right-counts t f rs),
          rw (sides rs) at (merge-over (list v t) (before v Choice f) (list-falls v t) (before_falls v Choice f) (length (lefts rs)) (length (rights rs))),
        )
    sound_in (t ▸ f) (Loop n) rs g h =
        let bodies : (r : PassIn (t ▸ f) (Loop n)) → GoodIn (t ▸ f) (Loop n) r → Fits t 0 (counts t r.0)
        = λ r q x. ok-both (limit_at t x) _ (q.0.1 x) (q.1 (inl x)) in
        let good : (r : PassIn (t ▸ f) (Loop n)) → GoodIn (t ▸ f) (Loop n) r → All (Good t) r.0
        = λ r q.
        all_both _ _ r.0 q.0.2
        (all-down (count t) (λ x z. ok 0 (limit_at t x) z) (λ x y z. ok-fewer 0 (limit_at t x) y z) r.0 (bodies r q)) in
        let i : charge v t (counts t (flat rs)) ≤ S (rounds (name t) (amount v n) (list v t)) (length rs)
        = rounds-sound (name t) (amount v n) (list v t) (λ ps. charge v t (counts t ps)) rs (together t)
        (all-impl (GoodIn (t ▸ f) (Loop n)) _ (λ r q. q.0.0) rs g)
        (λ e. all-impl (GoodIn (t ▸ f) (Loop n)) _ (λ r q. sound t r.0 (good r q) (λ x. ok-outer 0 (name t) _ _ zero-le (bodies r q x))) rs g)
        (λ e. sound t (flat rs) (all-flat _ rs (all-impl (GoodIn (t ▸ f) (Loop n)) _ good rs g))
        (λ x. rw (← ap (λ c. c x) (body-counts t f n rs))
        (ok-into (name t) (min (outward (name t)) (name_in Sequence f)) (limit_at t x) _ (omega arith) e (h (inl x))))) in
        let j = sound_in f Sequence (map (λ r. r.1) rs) (all-to (GoodIn (t ▸ f) (Loop n)) _ _ (λ r q. (q.0.3, λ x. q.1 (inr x))) rs g)
        (λ x. rw (← ap (λ c. c x) (exit-counts t f n rs))
        (ok-outer (min (outward (name t)) (name_in Sequence f)) (name_in Sequence f) _ _ (omega arith) (h (inr x)))) in
        omega
        (arith, S-add (rounds (name t) (amount v n) (list v t)) (before v Sequence f) (length rs), i, ap (charge v t) (body-counts t f n rs), ap (charge_in v f) (exit-counts t f n rs), simp length-map at j)

  -- no admitted run costs more than the figure
  pub covered : (t : Tree) (r : Pass t) → Run v t r → cost v t r ≤ figure v t
  unfolding figure cost S total
  covered t r h =
      let w : Fits t 0 (count t r) = λ x. keeps-ok _ _ (h.whole x) in
      let e : counts t (r ∷ []) ≡ (λ x. count t r x) = fun_ext (λ x. omega arith) in
      omega (arith, ap (charge v t) e, sound t (r ∷ []) ((h.inside, w), tt) (λ x. ok-outer 0 (name t) _ _ zero-le (ok-fewer 0 _ (count t r x + 0) (count t r x) (omega arith) (w x))))
