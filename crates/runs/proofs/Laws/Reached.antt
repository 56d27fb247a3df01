-- Where no node has a limit, some admitted run costs exactly the figure.
use Rattle.std.specs.Prelude.{◌≡◌, refl, ℕ, suc, ◌*◌, ◌≤◌, ◌+◌, T, length}
use Rattle.std.proofs.Math.Path.{ap, ap₂, subst, fun_ext}
use Rattle.std.proofs.Common.{sym, ◌∙◌, arith, leb→le, eqb→eq}
use mathlib.Core.List.{List, [], ◌∷◌, map, ◌++◌}
use Rattle.std.proofs.Math.Logic.{inl, inr}
use Rattle.std.proofs.Math.ListN.{length-append, length-replicate, replicate}
use Rattle.runs.specs.Nodes.{Limit, Unlimited, Kind, Block, Sequence, Choice, Loop, Number, Node}
use Rattle.booleans.specs.Laws.{both}
use Rattle.table.specs.Numbers.{whole_run}
use Rattle.table.specs.Trees.{Tree, node, Forest, nil, ◌▸◌, rest, size}
use Rattle.table.specs.Questions.{arity, listed, listed_in}
use Rattle.lists.specs.Streams.{Stream, S, merge, group}
use Rattle.lists.specs.Laws.Sums.{S-add, S-group, S-const}
use Rattle.lists.specs.Laws.MergeLaws.{is-merge, merge-zero}
use Rattle.evaluate.specs.Evaluate.{rounds, outward, seen, inner, Values, amount, name, name_in, limit, turns, join, start, list, before, figure}
use Rattle.evaluate.specs.Closed.{is_unlimited}
use Rattle.runs.specs.Runs.{limit_free, limit_free_in, out, seen_limit, Spot, SpotIn, limit_at, limit_in, total, All, Pass, PassIn, count, count_in, own_charge, charge, charge_in, cost, keeps, here, Admitted, AdmittedIn, Costs}
use Rattle.evaluate.proofs.Laws.Constant.{unlimited-is}
use Rattle.evaluate.proofs.Laws.Monotone.{list-falls, before_falls}
use Rattle.runs.proofs.Laws.PassLists.{total-map, length-map, total-append, all-to, all_append, total-zero, total-one, all-copies, zip, zip_length, zip-left, zip-right, zip-all, cut, cut-length, cut-total, cut_all}
use Rattle.runs.proofs.Laws.Covered.{counts, counts_in, charged-sum}

-- ---- no limit in sight

seen-free : (k : Kind) (l : Limit) → l ≡ Unlimited → seen_limit k l ≡ Unlimited
unfolding seen_limit out
seen-free (Block x) l e = e
seen-free Sequence l e = e
seen-free Choice l e = e
seen-free (Loop n) l e = rw e refl

mutual
  unfolding limit_free limit_at

  no-limit : (t : Tree) → T (limit_free t) → (x : Spot t) → limit_at t x ≡ Unlimited
  no-limit (node n f) h (inl x) = unlimited-is n.limit (both _ _ h).0
  no-limit (node n f) h (inr x) = no-limit_in f n.kind (both _ _ h).1 x

  no-limit_in : (f : Forest) (k : Kind) → T (limit_free_in f) → (x : SpotIn f) → limit_in f k x ≡ Unlimited
  no-limit_in nil k h x = absurd x
  no-limit_in (t ▸ f) k h (inl x) = seen-free k _ (no-limit t (both _ _ h).0 x)
  no-limit_in (t ▸ f) k h (inr x) = no-limit_in f (rest k) (both _ _ h).1 x

-- ---- so each list names the whole run

seen-run : (k : Kind) → seen k whole_run ≡ whole_run
unfolding seen outward
seen-run (Block x) = refl
seen-run Sequence = refl
seen-run Choice = refl
seen-run (Loop n) = refl

mutual
  unfolding limit_free name inner

  free-run : (t : Tree) → T (limit_free t) → name t ≡ whole_run
  free-run (node n f) h =
      let (a, b) = both _ _ h in
      ap (λ l. inner l (name_in n.kind f)) (unlimited-is n.limit a) ∙ free-run_in n.kind f b

  free-run_in : (k : Kind) (f : Forest) → T (limit_free_in f) → name_in k f ≡ whole_run
  free-run_in k nil h = refl
  free-run_in k (t ▸ f) h =
      let (a, b) = both _ _ h in
      omega (arith, ap (seen k) (free-run t a), seen-run k, free-run_in (rest k) f b)

rounds-run : (k n : ℕ) (f : Stream) → k ≡ whole_run → rounds k n f ≡ group n f
unfolding rounds
rounds-run k n f e = rw e refl

-- ---- a pass can be had of so many children

unfoldable Open : Kind → ℕ → Type 0
Open (Block x) c = c ≡ 0
Open Sequence c = Unit {0}
Open Choice c = 1 ≤ c
Open (Loop n) c = Unit {0}

open_of : (k : Kind) (c : ℕ) → T (arity k c) → Open k c
unfolding Open arity
open_of (Block x) c h = eqb→eq c 0 h
open_of Sequence c h = tt
open_of Choice c h = leb→le 1 c (both _ _ h).0
open_of (Loop n) c h = tt

module _ (v : Values) where
  here-free : (l : Limit) (z : ℕ) → l ≡ Unlimited → here v l z
  unfolding here
  here-free l z e = subst (λ x. here v x z) (sym e) tt

  keeps-free : (l : Limit) (z : ℕ) → l ≡ Unlimited → keeps v l z
  unfolding keeps
  keeps-free l z e = subst (λ x. keeps v x z) (sym e) tt

  -- P passes of t that together cost what its list's first P members come to
  pub record Attained (t : Tree) (P : ℕ) : Type 0 where
    pub passes : List (Pass t)
    pub many : length passes ≡ P
    pub good : All (λ r. Admitted v t r) passes
    pub costs : charge v t (counts t passes) ≡ S (list v t) P

  record AttainedIn (f : Forest) (k : Kind) (P : ℕ) : Type 0 where
    passes : List (PassIn f k)
    many : length passes ≡ P
    good : All (λ r. AdmittedIn v f k r) passes
    costs : own_charge v k P + charge_in v f (counts_in f k passes) ≡ S (before v k f) P

  -- ---- one child more

  sequence-more : (t : Tree) (f : Forest) (P : ℕ) → Attained t P → AttainedIn f Sequence P → AttainedIn (t ▸ f) Sequence P
  sequence-more t f P a b = record {
    passes = zip a.passes b.passes;
    many = zip_length a.passes b.passes long ∙ a.many;
    good = zip-all _ _ _ (λ x y h k. (h, k)) a.passes b.passes a.good b.good;
    costs = spent b.costs;
  }
    where
      long : length a.passes ≡ length b.passes
      long = a.many ∙ sym b.many

      first : (λ x. counts_in (t ▸ f) Sequence (zip a.passes b.passes) (inl x)) ≡ counts t a.passes
      first = unfold count in fun_ext (λ x. zip-left (λ r. count t r x) a.passes b.passes long)

      others : (λ x. counts_in (t ▸ f) Sequence (zip a.passes b.passes) (inr x)) ≡ counts_in f Sequence b.passes
      others = unfold count in fun_ext (λ x. zip-right (λ r. count_in f Sequence r x) a.passes b.passes long)

      spent : own_charge v Sequence P + charge_in v f (counts_in f Sequence b.passes) ≡ S (before v Sequence f) P
          → own_charge v Sequence P + charge_in v (t ▸ f) (counts_in (t ▸ f) Sequence (zip a.passes b.passes)) ≡ S (before v Sequence (t ▸ f)) P
      spent e =
          unfold charge in unfold list in unfold turns in unfold join in unfold rest in
          omega (arith, ap (charge v t) first, ap (charge_in v f) others, a.costs, S-add (list v t) (before v Sequence f) P)

  choice-more : (t : Tree) (f : Forest) (P p q : ℕ) → p + q ≡ P → S (merge (list v t) (before v Choice f)) P ≡ S (list v t) p + S (before v Choice f) q
      → Attained t p → AttainedIn f Choice q → AttainedIn (t ▸ f) Choice P
  unfolding own_charge
  choice-more t f P p q e s a b = record {
    passes = mixed;
    many = length-append (map inl a.passes) (map inr b.passes) ∙ ap₂ (λ x y. x + y) (length-map inl a.passes ∙ a.many) (length-map inr b.passes ∙ b.many) ∙ e;
    good = all_append _ (map inl a.passes) (map inr b.passes) (all-to _ _ inl (λ r h. h) a.passes a.good) (all-to _ _ inr (λ r h. h) b.passes b.good);
    costs = spent b.costs;
  }
    where
      mixed : List (PassIn (t ▸ f) Choice)
      mixed = map inl a.passes ++ map inr b.passes

      sides : (h : PassIn (t ▸ f) Choice → ℕ) → total h mixed ≡ total (λ r. h (inl r)) a.passes + total (λ r. h (inr r)) b.passes
      sides h = total-append h (map inl a.passes) (map inr b.passes) ∙ ap₂ (λ x y. x + y) (total-map h inl a.passes) (total-map h inr b.passes)

      first : (λ x. counts_in (t ▸ f) Choice mixed (inl x)) ≡ counts t a.passes
      first = unfold count in fun_ext (λ x. sides (λ r. count_in (t ▸ f) Choice r (inl x)) ∙ omega (arith, total-zero b.passes))

      others : (λ x. counts_in (t ▸ f) Choice mixed (inr x)) ≡ counts_in f Choice b.passes
      others = unfold count in fun_ext (λ x. sides (λ r. count_in (t ▸ f) Choice r (inr x)) ∙ omega (arith, total-zero a.passes))

      spent : own_charge v Choice q + charge_in v f (counts_in f Choice b.passes) ≡ S (before v Choice f) q
          → own_charge v Choice P + charge_in v (t ▸ f) (counts_in (t ▸ f) Choice mixed) ≡ S (before v Choice (t ▸ f)) P
      spent h =
          unfold charge in unfold list in unfold turns in unfold join in unfold rest in
          omega (arith, ap (charge v t) first, ap (charge_in v f) others, a.costs)

  -- the only child takes all
  choice-one : (t : Tree) (P : ℕ) → Attained t P → AttainedIn (t ▸ nil) Choice P
  choice-one t P a = choice-more t nil P P 0 (omega arith) (spent (list-falls v t)) a none
    where
      spent : ((i : ℕ) → list v t (suc i) ≤ list v t i) → S (merge (list v t) (before v Choice nil)) P ≡ S (list v t) P + S (before v Choice nil) 0
      spent h = unfold list in unfold start in rw (merge-zero (list v t) h, S-const) (omega arith)

      none : AttainedIn nil Choice 0
      none = record { passes = []; many = refl; good = tt; costs = unfold charge in unfold own_charge in unfold list in unfold start in rw S-const (omega arith) }

  -- the body's passes, one pass of the loop taking as many as its bound
  loop-more : (n : Number) (t : Tree) (f : Forest) (P : ℕ) → T (limit_free t) → Attained t (amount v n * P) → AttainedIn f Sequence P → AttainedIn (t ▸ f) (Loop n) P
  unfolding own_charge
  loop-more n t f P h a b = record {
    passes = turn;
    many = zip_length parts b.passes long ∙ cut-length (amount v n) P a.passes;
    good = zip-all _ _ _ (λ x y i j. (i.0, λ z. here-free _ _ (no-limit t h z), i.1, j)) parts b.passes (cut_all (λ r. Admitted v t r) (amount v n) P a.passes a.good) b.good;
    costs = spent b.costs;
  }
    where
      parts : List (List (Pass t))
      parts = cut (amount v n) P a.passes

      turn : List (PassIn (t ▸ f) (Loop n))
      turn = zip parts b.passes

      long : length parts ≡ length b.passes
      long = cut-length (amount v n) P a.passes ∙ sym b.many

      first : (λ x. counts_in (t ▸ f) (Loop n) turn (inl x)) ≡ counts t a.passes
      first = unfold count in fun_ext (λ x. zip-left (λ ps. total (λ r. count t r x) ps) parts b.passes long ∙ cut-total (λ r. count t r x) (amount v n) P a.passes a.many)

      others : (λ x. counts_in (t ▸ f) (Loop n) turn (inr x)) ≡ counts_in f Sequence b.passes
      others = unfold count in fun_ext (λ x. zip-right (λ r. count_in f Sequence r x) parts b.passes long)

      spent : own_charge v Sequence P + charge_in v f (counts_in f Sequence b.passes) ≡ S (before v Sequence f) P
          → own_charge v (Loop n) P + charge_in v (t ▸ f) (counts_in (t ▸ f) (Loop n) turn) ≡ S (before v (Loop n) (t ▸ f)) P
      spent e =
          unfold charge in unfold list in unfold turns in unfold join in unfold rest in
          rw (rounds-run (name t) (amount v n) (list v t) (free-run t h))
          (omega (arith, ap (charge v t) first, ap (charge_in v f) others, a.costs, S-group (amount v n) (list v t) P, S-add (group (amount v n) (list v t)) (before v Sequence f) P))

  -- ---- trees

  whole-more : (n : Node) (f : Forest) (P : ℕ) → T (is_unlimited n.limit) → AttainedIn f n.kind P → Attained (node n f) P
  unfolding charge list limit count
  whole-more n f P h b = record {
    passes = b.passes;
    many = b.many;
    good = b.good;
    costs = rw (once, unlimited-is n.limit h) b.costs;
  }
    where
      once : total (λ r. 1) b.passes ≡ P
      once = total-one b.passes ∙ b.many

  block_more : (x : Number) (P : ℕ) → AttainedIn nil (Block x) P
  unfolding charge own_charge list start
  block_more x P = record { passes = replicate P tt; many = length-replicate P tt; good = all-copies _ P tt tt; costs = omega (arith, charged-sum v x P) }

  mutual
    unfolding limit_free listed Open size charge own_charge list start

    attained : (t : Tree) (P : ℕ) → T (limit_free t) → T (listed t) → Attained t P
    attained (node n f) P h l =
        let (a, b) = both _ _ h in
        let (p, q) = both _ _ l in
        whole-more n f P a (attained_in f n.kind P b q (open_of n.kind (size f) (both _ _ p).1))

    attained_in : (f : Forest) (k : Kind) (P : ℕ) → T (limit_free_in f) → T (listed_in f) → Open k (size f) → AttainedIn f k P
    attained_in nil (Block x) P h l o = block_more x P
    attained_in nil Sequence P h l o = record { passes = replicate P tt; many = length-replicate P tt; good = all-copies _ P tt tt; costs = omega (arith, S-const 0 P) }
    attained_in nil Choice P h l o = absurd (omega arith)
    attained_in nil (Loop n) P h l o = record { passes = replicate P tt; many = length-replicate P tt; good = all-copies _ P tt tt; costs = omega (arith, S-const 0 P) }
    attained_in (t ▸ f) (Block x) P h l o = absurd (omega arith)
    attained_in (t ▸ f) Sequence P h l o =
        let (a, b) = both _ _ h in
        let (p, q) = both _ _ l in
        sequence-more t f P (attained t P a p) (attained_in f Sequence P b q tt)
    attained_in (t ▸ nil) Choice P h l o =
        let (a, b) = both _ _ h in
        let (p, q) = both _ _ l in
        choice-one t P (attained t P a p)
    attained_in (t ▸ u ▸ f) Choice P h l o =
        let (a, b) = both _ _ h in
        let (p, q) = both _ _ l in
        let (i, j, e, s) = (is-merge _ _ (list-falls v t) (before_falls v Choice (u ▸ f))).met P in
        choice-more t (u ▸ f) P i j e s (attained t i a p) (attained_in (u ▸ f) Choice j b q (omega arith))
    attained_in (t ▸ f) (Loop n) P h l o =
        let (a, b) = both _ _ h in
        let (p, q) = both _ _ l in
        loop-more n t f P a (attained t (amount v n * P) a p) (attained_in f Sequence P b q tt)

  -- one pass is a run
  one-pass : (t : Tree) (r : Pass t) → T (limit_free t) → Admitted v t r → charge v t (counts t (r ∷ [])) ≡ S (list v t) 1 → Costs v t (figure v t)
  unfolding figure cost S total
  one-pass t r h g c =
      let e : counts t (r ∷ []) ≡ (λ x. count t r x) = fun_ext (λ x. omega arith) in
      record {
        pass = r;
        run = record { inside = g; whole = λ x. keeps-free _ _ (no-limit t h x) };
        costs = omega (arith, ap (charge v t) e);
      }

  first-pass : (t : Tree) → T (limit_free t) → Attained t 1 → Costs v t (figure v t)
  first-pass t h a = go a.passes a.many a.good a.costs
    where
      go : (rs : List (Pass t)) → length rs ≡ 1 → All (λ r. Admitted v t r) rs → charge v t (counts t rs) ≡ S (list v t) 1 → Costs v t (figure v t)
      go [] m g c = absurd (omega arith)
      go (r ∷ []) m g c = one-pass t r h g.0 c
      go (r ∷ s ∷ rs) m g c = absurd (omega arith)

  pub reached : (t : Tree) → T (limit_free t) → T (listed t) → Costs v t (figure v t)
  reached t h l = first-pass t h (attained t 1 h l)
