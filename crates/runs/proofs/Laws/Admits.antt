-- A test of a pass that computes: where it says yes, the pass is an admitted run.
use Rattle.std.specs.Prelude.{◌≡◌, Bool, cond, List, [], ◌∷◌, ℕ, ◌≤◌, leb, length}
use Rattle.std.proofs.Math.Bool.{true, false}
use Rattle.std.proofs.Common.{inl, inr, arith, le→leb}
use Rattle.std.proofs.Math.Dec.{T, leb→le}
use Rattle.booleans.specs.Tests.{◌and◌}
use Rattle.booleans.specs.Laws.{both}
use Rattle.table.specs.Trees.{Tree, node, Forest, nil, ◌▸◌}
use Rattle.runs.specs.Nodes.{Limit, Unlimited, AtMost, Kind, Block, Sequence, Choice, Loop}
use Rattle.evaluate.specs.Evaluate.{Values, amount, allowed}
use Rattle.runs.specs.Runs.{total, All, Pass, PassIn, Spot, SpotIn, limit_at, count, cost, keeps, here, Admitted, AdmittedIn, Costs}

-- every node passes a test
unfoldable mutual
  pub every_spot : (t : Tree) → (Spot t → Bool) → Bool
  every_spot (node n f) p = p (inl tt) and every_spot_in f (λ x. p (inr x))

  pub every_spot_in : (f : Forest) → (SpotIn f → Bool) → Bool
  every_spot_in nil p = true
  every_spot_in (t ▸ f) p = every_spot t (λ x. p (inl x)) and every_spot_in f (λ x. p (inr x))

mutual
  unfolding every_spot

  pub at-node : (t : Tree) (p : Spot t → Bool) → T (every_spot t p) → (x : Spot t) → T (p x)
  at-node (node n f) p h (inl x) = (both _ _ h).0
  at-node (node n f) p h (inr x) = at-node_in f (λ y. p (inr y)) (both _ _ h).1 x

  pub at-node_in : (f : Forest) (p : SpotIn f → Bool) → T (every_spot_in f p) → (x : SpotIn f) → T (p x)
  at-node_in nil p h x = absurd x
  at-node_in (t ▸ f) p h (inl x) = at-node t (λ y. p (inl y)) (both _ _ h).0 x
  at-node_in (t ▸ f) p h (inr x) = at-node_in f (λ y. p (inr y)) (both _ _ h).1 x

unfoldable pub every : {A : Type 0} → (A → Bool) → List A → Bool
every p [] = true
every p (x ∷ xs) = p x and every p xs

pub every-all : {A : Type 0} (p : A → Bool) (P : A → Type 0) → ((x : A) → T (p x) → P x) → (xs : List A) → T (every p xs) → All P xs
unfolding every
every-all p P f [] h = tt
every-all p P f (x ∷ xs) h = (f x (both _ _ h).0, every-all p P f xs (both _ _ h).1)

module _ (v : Values) where
  -- z passes keep a limit on the whole run, and one on the loop at hand
  unfoldable pub keeps_limit : Limit → ℕ → Bool
  keeps_limit Unlimited z = true
  keeps_limit (AtMost k m) z = leb z (allowed v m)

  unfoldable pub keeps_here : Limit → ℕ → Bool
  keeps_here Unlimited z = true
  keeps_here (AtMost k m) z = cond (leb k 1) (leb z (allowed v m)) true

  pub keeps-limit : (l : Limit) (z : ℕ) → T (keeps_limit l z) → keeps v l z
  unfolding keeps_limit keeps
  keeps-limit Unlimited z h = tt
  keeps-limit (AtMost k m) z h = leb→le z (allowed v m) h

  pub keeps-here : (l : Limit) (z : ℕ) → T (keeps_here l z) → here v l z
  unfolding keeps_here here
  keeps-here Unlimited z h = tt
  keeps-here (AtMost k m) z h = λ g. go (leb k 1) (le→leb k 1 g) h
    where
      go : (b : Bool) → T b → T (cond b (leb z (allowed v m)) true) → z ≤ allowed v m
      go true g h = leb→le z (allowed v m) h
      go false g h = absurd g

  unfoldable mutual
    pub admits : (t : Tree) → Pass t → Bool
    admits (node n f) r = admits_in f n.kind r

    pub admits_in : (f : Forest) (k : Kind) → PassIn f k → Bool
    admits_in nil k r = true
    admits_in (t ▸ f) (Block x) r = absurd r
    admits_in (t ▸ f) Sequence r = admits t r.0 and admits_in f Sequence r.1
    admits_in (t ▸ f) Choice (inl r) = admits t r
    admits_in (t ▸ f) Choice (inr r) = admits_in f Choice r
    admits_in (t ▸ f) (Loop n) r =
        leb (length r.0) (amount v n)
        and (every_spot t (λ x. keeps_here (limit_at t x) (total (λ p. count t p x) r.0))
        and (every (λ p. admits t p) r.0 and admits_in f Sequence r.1))

  mutual
    unfolding admits

    pub admits-is : (t : Tree) (r : Pass t) → T (admits t r) → Admitted v t r
    admits-is (node n f) r h = admits-is_in f n.kind r h

    pub admits-is_in : (f : Forest) (k : Kind) (r : PassIn f k) → T (admits_in f k r) → AdmittedIn v f k r
    admits-is_in nil k r h = tt
    admits-is_in (t ▸ f) (Block x) r h = absurd r
    admits-is_in (t ▸ f) Sequence r h = (admits-is t r.0 (both _ _ h).0, admits-is_in f Sequence r.1 (both _ _ h).1)
    admits-is_in (t ▸ f) Choice (inl r) h = admits-is t r h
    admits-is_in (t ▸ f) Choice (inr r) h = admits-is_in f Choice r h
    admits-is_in (t ▸ f) (Loop n) r h =
        let (a, h₁) = both _ _ h in
        let (b, h₂) = both _ _ h₁ in
        let (c, d) = both _ _ h₂ in (
          omega (arith, leb→le (length r.0) (amount v n) a),
          λ x. keeps-here (limit_at t x) _ (at-node t _ b x),
          every-all _ _ (λ p q. admits-is t p q) r.0 c,
          admits-is_in f Sequence r.1 d,
        )

  -- this pass is an admitted run
  unfoldable pub is_run : (t : Tree) → Pass t → Bool
  is_run t r = admits t r and every_spot t (λ x. keeps_limit (limit_at t x) (count t r x))

  pub run-costs : (t : Tree) (r : Pass t) (x : ℕ) → T (is_run t r) → cost v t r ≡ x → Costs v t x
  unfolding is_run
  run-costs t r x h e = record {
    pass = r;
    run = record { inside = admits-is t r (both _ _ h).0; whole = λ x. keeps-limit (limit_at t x) _ (at-node t _ (both _ _ h).1 x) };
    costs = e;
  }
