-- Tests of sameness say what they test: two trees are the same exactly where their bytes are, once their addresses are 0.
use Rattle.std.specs.Prelude.{◌≡◌, refl, ℕ, T}
use Rattle.std.proofs.Common.{ap, sym, ap₂, ◌∙◌, subst, eqb→eq}
use Rattle.std.proofs.Math.Dec.{eqb_refl}
use Rattle.booleans.specs.Laws.{both, join-and}
use Rattle.booleans.specs.Tests.{◌and◌}
use Rattle.table.specs.Trees.{Forest, nil, ◌▸◌, node, Tree, unaddressed, unaddressed_in}
use Rattle.table.specs.Questions.{listed}
use Rattle.table.specs.Table.{encode, decode, most_field, most_flags, most_from}
use Rattle.table.proofs.Laws.Addresses.{listed-unaddressed}
use Rattle.table.proofs.Laws.NotRefused.{reads-back}
use Rattle.table.proofs.Laws.RoundTrip.{most-flags}
use Rattle.evaluate.specs.Evaluate.{Values, list, name}
use Rattle.evaluate.proofs.Laws.Addresses.{list-unaddressed, name-unaddressed}
use Rattle.simplify.specs.Nodes.{Number, Plain, Symbol, Most, Limit, Unlimited, AtMost, Kind, Block, Sequence, Choice, Loop, Node}
use Rattle.simplify.specs.Same.{same_number, same_most, same_limit, same_kind, same, same_in}

pub number_is : (m n : Number) → T (same_number m n) → m ≡ n
unfolding same_number
number_is (Plain m) (Plain n) h = ap Plain (eqb→eq m n h)
number_is (Plain m) (Symbol n) h = absurd h
number_is (Symbol m) (Plain n) h = absurd h
number_is (Symbol m) (Symbol n) h = ap Symbol (eqb→eq m n h)

pub most-is : (m n : Most) → T (same_most m n) → m ≡ n
unfolding same_most
most-is m n h =
    let (a, b) = both _ _ h in
    sym (most-flags m _ refl) ∙ ap₂ most_from (eqb→eq _ _ a) (eqb→eq _ _ b) ∙ most-flags n _ refl

pub limit_is : (l r : Limit) → T (same_limit l r) → l ≡ r
unfolding same_limit
limit_is Unlimited Unlimited h = refl
limit_is Unlimited (AtMost j n) h = absurd h
limit_is (AtMost k m) Unlimited h = absurd h
limit_is (AtMost k m) (AtMost j n) h = let (a, b) = both _ _ h in ap₂ AtMost (eqb→eq k j a) (most-is m n b)

pub kind-is : (j k : Kind) → T (same_kind j k) → j ≡ k
unfolding same_kind
kind-is (Block m) (Block n) h = ap Block (number_is m n h)
kind-is (Block m) Sequence h = absurd h
kind-is (Block m) Choice h = absurd h
kind-is (Block m) (Loop n) h = absurd h
kind-is Sequence (Block n) h = absurd h
kind-is Sequence Sequence h = refl
kind-is Sequence Choice h = absurd h
kind-is Sequence (Loop n) h = absurd h
kind-is Choice (Block n) h = absurd h
kind-is Choice Sequence h = absurd h
kind-is Choice Choice h = refl
kind-is Choice (Loop n) h = absurd h
kind-is (Loop m) (Block n) h = absurd h
kind-is (Loop m) Sequence h = absurd h
kind-is (Loop m) Choice h = absurd h
kind-is (Loop m) (Loop n) h = ap Loop (number_is m n h)

abbrev pub at : Kind → Limit → ℕ → Node
at k l a = record { kind = k; limit = l; address = a }

pub node-is : (n : Node) (k : Kind) (l : Limit) → n.kind ≡ k → n.limit ≡ l → n ≡ at k l n.address
node-is n k l p q = ap₂ (λ x y. at x y n.address) p q

mutual
  unfolding same unaddressed

  pub same-is : (t u : Tree) → T (same t u) → unaddressed t ≡ unaddressed u
  same-is (node n f) (node m g) h =
      let (p, c) = both _ _ h in
      let (a, b) = both _ _ p in
      ap₂ node (ap₂ (λ x y. at x y 0) (kind-is _ _ a) (limit_is _ _ b)) (same_in-is f g c)

  same_in-is : (f g : Forest) → T (same_in f g) → unaddressed_in f ≡ unaddressed_in g
  same_in-is nil nil h = refl
  same_in-is nil (u ▸ g) h = absurd h
  same_in-is (t ▸ f) nil h = absurd h
  same_in-is (t ▸ f) (u ▸ g) h = let (a, b) = both _ _ h in ap₂ ◌▸◌ (same-is t u a) (same_in-is f g b)

-- ---- and back

self-number : (m : Number) → T (same_number m m)
unfolding same_number
self-number (Plain n) = eqb_refl n
self-number (Symbol s) = eqb_refl s

self-most : (m : Most) → T (same_most m m)
unfolding same_most
self-most m = join-and _ _ (eqb_refl (most_flags m)) (eqb_refl (most_field m))

self-limit : (l : Limit) → T (same_limit l l)
unfolding same_limit
self-limit Unlimited = tt
self-limit (AtMost k m) = join-and _ _ (eqb_refl k) (self-most m)

self-kind : (k : Kind) → T (same_kind k k)
unfolding same_kind
self-kind (Block t) = self-number t
self-kind Sequence = tt
self-kind Choice = tt
self-kind (Loop n) = self-number n

mutual
  unfolding same

  pub self : (t : Tree) → T (same t t)
  self (node n f) = join-and _ _ (join-and _ _ (self-kind n.kind) (self-limit n.limit)) (self_in f)

  self_in : (f : Forest) → T (same_in f f)
  self_in nil = tt
  self_in (t ▸ f) = join-and _ _ (self t) (self_in f)

mutual
  unfolding same unaddressed

  same-unaddressed : (t u : Tree) → same (unaddressed t) (unaddressed u) ≡ same t u
  same-unaddressed (node n f) (node m g) = ap (λ x. same_kind n.kind m.kind and same_limit n.limit m.limit and x) (same_in-unaddressed f g)

  same_in-unaddressed : (f g : Forest) → same_in (unaddressed_in f) (unaddressed_in g) ≡ same_in f g
  same_in-unaddressed nil nil = refl
  same_in-unaddressed nil (u ▸ g) = refl
  same_in-unaddressed (t ▸ f) nil = refl
  same_in-unaddressed (t ▸ f) (u ▸ g) = ap₂ ◌and◌ (same-unaddressed t u) (same_in-unaddressed f g)

pub bytes_same : (t u : Tree) → T (listed t) → T (listed u) → encode (unaddressed t) ≡ encode (unaddressed u) → T (same t u)
bytes_same t u l m e =
    let is : unaddressed t ≡ unaddressed u = sym (reads-back _ (listed-unaddressed t l)) ∙ ap decode e ∙ reads-back _ (listed-unaddressed u m) in
    subst T (same-unaddressed t u) (subst (λ w. T (same (unaddressed t) w)) is (self (unaddressed t)))

-- ---- what evaluation says of them is the same

pub same-name : (t u : Tree) → T (same t u) → name t ≡ name u
same-name t u h = sym (name-unaddressed t) ∙ ap name (same-is t u h) ∙ name-unaddressed u

pub same-list : (v : Values) (t u : Tree) → T (same t u) → list v t ≡ list v u
same-list v t u h = sym (list-unaddressed v t) ∙ ap (list v) (same-is t u h) ∙ list-unaddressed v u
