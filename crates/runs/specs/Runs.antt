-- Document 01, "Runs": passes of a tree, what they cost, and which are admitted.
use Rattle.std.specs.Prelude.{◌≡◌, cond, Bool, true, List, [], ◌∷◌, ◌⊎◌, ℕ, zero, suc, ◌+◌, ◌*◌, ◌≤◌, leb, length}
use Rattle.std.proofs.Common.{inl, inr}
use Rattle.runs.specs.Nodes.{Kind, Block, Sequence, Choice, Loop, Limit, Unlimited, AtMost, Number}
use Rattle.booleans.specs.Tests.{◌and◌}
use Rattle.table.specs.Trees.{Tree, node, Forest, nil, ◌▸◌, rest}
use Rattle.evaluate.specs.Evaluate.{outward, Values, allowed, amount, later}
use Rattle.evaluate.specs.Closed.{is_unlimited}

-- a pass of a sequence is one pass of each child in order; of a choice, one pass of one child; of a loop, some of the body, then one of the exit
abbrev mutual
  pub Pass : Tree → Type 0
  Pass (node n f) = PassIn f n.kind

  pub PassIn : Forest → Kind → Type 0
  PassIn nil (Block x) = Unit {0}
  PassIn nil Sequence = Unit {0}
  PassIn nil Choice = ⊥
  PassIn nil (Loop n) = Unit {0}
  PassIn (t ▸ f) (Block x) = ⊥
  PassIn (t ▸ f) Sequence = Pass t × PassIn f Sequence
  PassIn (t ▸ f) Choice = Pass t ⊎ PassIn f Choice
  PassIn (t ▸ f) (Loop n) = List (Pass t) × PassIn f Sequence

-- a number of each, summed
unfoldable pub total {ℓ} : {A : Type ℓ} → (A → ℕ) → List A → ℕ
total f [] = 0
total f (x ∷ xs) = f x + total f xs

abbrev pub All {ℓ} : {A : Type ℓ} → (A → Type 0) → List A → Type 0
All P [] = Unit {0}
All P (x ∷ xs) = P x × All P xs

-- the nodes of a tree
abbrev mutual
  pub Spot : Tree → Type 0
  Spot (node n f) = Unit {0} ⊎ SpotIn f

  pub SpotIn : Forest → Type 0
  SpotIn nil = ⊥
  SpotIn (t ▸ f) = Spot t ⊎ SpotIn f

-- a limit in the body of a loop, seen from outside: one that names that loop is out of sight
unfoldable pub out : Limit → Limit
out Unlimited = Unlimited
out (AtMost k m) = cond (leb k 1) Unlimited (AtMost (outward k) m)

unfoldable pub seen_limit : Kind → Limit → Limit
seen_limit (Block x) l = l
seen_limit Sequence l = l
seen_limit Choice l = l
seen_limit (Loop n) l = out l

-- the limit on a node, its loop counted from the tree's top
unfoldable mutual
  pub limit_at : (t : Tree) → Spot t → Limit
  limit_at (node n f) (inl x) = n.limit
  limit_at (node n f) (inr x) = limit_in f n.kind x

  pub limit_in : (f : Forest) → Kind → SpotIn f → Limit
  limit_in nil k x = absurd x
  limit_in (t ▸ f) k (inl x) = seen_limit k (limit_at t x)
  limit_in (t ▸ f) k (inr x) = limit_in f (rest k) x

-- how often a pass passes a node
unfoldable mutual
  pub count : (t : Tree) → Pass t → Spot t → ℕ
  count (node n f) r (inl x) = 1
  count (node n f) r (inr x) = count_in f n.kind r x

  pub count_in : (f : Forest) (k : Kind) → PassIn f k → SpotIn f → ℕ
  count_in nil k r x = absurd x
  count_in (t ▸ f) (Block y) r x = absurd r
  count_in (t ▸ f) Sequence r (inl x) = count t r.0 x
  count_in (t ▸ f) Sequence r (inr x) = count_in f Sequence r.1 x
  count_in (t ▸ f) Choice (inl r) (inl x) = count t r x
  count_in (t ▸ f) Choice (inl r) (inr x) = 0
  count_in (t ▸ f) Choice (inr r) (inl x) = 0
  count_in (t ▸ f) Choice (inr r) (inr x) = count_in f Choice r x
  count_in (t ▸ f) (Loop n) r (inl x) = total (λ p. count t p x) r.0
  count_in (t ▸ f) (Loop n) r (inr x) = count_in f Sequence r.1 x

module _ (v : Values) where
  -- what z passes of a block cost in a run (document 02, CR 7): the first value for the first of them, the later one for each other
  unfoldable pub charged : Number → ℕ → ℕ
  charged x zero = 0
  charged x (suc z) = amount v x + z * later v x

  -- z passes of a node, apart from what is below it: only a block has a time
  unfoldable pub own_charge : Kind → ℕ → ℕ
  own_charge (Block x) z = charged x z
  own_charge Sequence z = 0
  own_charge Choice z = 0
  own_charge (Loop n) z = 0

  -- what a run costs in which node x is passed c x times; costs add
  unfoldable mutual
    pub charge : (t : Tree) → (Spot t → ℕ) → ℕ
    charge (node n f) c = own_charge n.kind (c (inl tt)) + charge_in f (λ x. c (inr x))

    pub charge_in : (f : Forest) → (SpotIn f → ℕ) → ℕ
    charge_in nil c = 0
    charge_in (t ▸ f) c = charge t (λ x. c (inl x)) + charge_in f (λ x. c (inr x))

  -- The cost of a run, by how often it passes each block. proofs/Laws/InOrder shows that its passes cost this one after the other.
  unfoldable pub cost : (t : Tree) → Pass t → ℕ
  cost t r = charge t (λ x. count t r x)

  -- z passes of a node keep its limit
  unfoldable pub keeps : Limit → ℕ → Type 0
  keeps Unlimited z = Unit {0}
  keeps (AtMost k m) z = z ≤ allowed v m

  -- z passes of a node in one pass of the loop whose body this limit is seen from keep it, if it names that loop
  unfoldable pub here : Limit → ℕ → Type 0
  here Unlimited z = Unit {0}
  here (AtMost k m) z = k ≤ 1 → z ≤ allowed v m

  -- each pass of each loop within a pass makes at most its bound of passes of the body, and keeps the limits that name it
  abbrev mutual
    pub Admitted : (t : Tree) → Pass t → Type 0
    Admitted (node n f) r = AdmittedIn f n.kind r

    pub AdmittedIn : (f : Forest) (k : Kind) → PassIn f k → Type 0
    AdmittedIn nil k r = Unit {0}
    AdmittedIn (t ▸ f) (Block x) r = absurd r
    AdmittedIn (t ▸ f) Sequence r = Admitted t r.0 × AdmittedIn f Sequence r.1
    AdmittedIn (t ▸ f) Choice (inl r) = Admitted t r
    AdmittedIn (t ▸ f) Choice (inr r) = AdmittedIn f Choice r
    AdmittedIn (t ▸ f) (Loop n) r =
        (length r.0 ≤ amount v n) × ((x : Spot t) → here (limit_at t x) (total (λ p. count t p x) r.0)) × All (λ p. Admitted t p) r.0 × AdmittedIn f Sequence r.1

  -- an admitted run: one pass of the root, which keeps the limits that are still in sight there, those on the whole run
  pub record Run (t : Tree) (r : Pass t) : Type 0 where
    pub inside : Admitted t r
    pub whole : (x : Spot t) → keeps (limit_at t x) (count t r x)

  -- some admitted run costs exactly x
  pub record Costs (t : Tree) (x : ℕ) : Type 0 where
    pub pass : Pass t
    pub run : Run t pass
    pub costs : cost t pass ≡ x

-- no limit in the tree
unfoldable mutual
  pub limit_free : Tree → Bool
  limit_free (node n f) = is_unlimited n.limit and limit_free_in f

  pub limit_free_in : Forest → Bool
  limit_free_in nil = true
  limit_free_in (t ▸ f) = limit_free t and limit_free_in f
