-- A tree with other numbers has the same shape, so questions 4 to 7 say of it what they say of the tree.
use Rattle.std.specs.Prelude.{◌≡◌, Bool, cond, T}
use Rattle.std.proofs.Math.Path.{refl, ap}
use Rattle.std.proofs.Common.{ap₂, sym, subst, arith}
use Prim.Native.Nat.{ℕ, suc, max, ◌+◌, ◌^◌}
use Rattle.booleans.specs.Tests.{◌and◌}
use Rattle.booleans.specs.Laws.{both, join-and}
use Rattle.table.specs.Questions.{Accepted, arity, depth, depth_in, kind_in_range, limit_in_range, listed, listed_in, loops, loops_in, name_ok, named, named_in, paired_block, paired_share, share, weight, weight_in}
use Rattle.table.specs.Trees.{Forest, Tree, around, nil, node, records, records_in, rest, size, ◌▸◌}
use Rattle.filling.specs.Nodes.{AtMost, Block, Choice, Kind, Limit, Loop, Most, Node, Number, Sequence, Unlimited}
use Rattle.filling.specs.Fill.{on_forest, on_kind, on_limit, on_node, on_tree}

-- ---- what holds of every node of a tree, with its record's number

unfoldable mutual
  pub EachNode : (P : ℕ → Node → Type 0) → ℕ → Tree → Type 0
  EachNode P i (node n f) = P i n × EachIn P (suc i) f

  pub EachIn : (P : ℕ → Node → Type 0) → ℕ → Forest → Type 0
  EachIn P i nil = Unit {0}
  EachIn P i (t ▸ f) = EachNode P i t × EachIn P (i + records t) f

-- ---- one node

module _ (p : Number → Number) where
  pub rest-on : (k : Kind) → rest (on_kind p k) ≡ on_kind p (rest k)
  unfolding rest on_kind
  rest-on (Block t) = refl
  rest-on Sequence = refl
  rest-on Choice = refl
  rest-on (Loop n) = refl

  around-on : (k : Kind) (d : ℕ) → around (on_kind p k) d ≡ around k d
  unfolding around on_kind
  around-on (Block t) d = refl
  around-on Sequence d = refl
  around-on Choice d = refl
  around-on (Loop n) d = refl

  arity-on : (k : Kind) (c : ℕ) → arity (on_kind p k) c ≡ arity k c
  unfolding arity on_kind
  arity-on (Block t) c = refl
  arity-on Sequence c = refl
  arity-on Choice c = refl
  arity-on (Loop n) c = refl

module _ (p : Most → Most) where
  name_ok-on : (l : Limit) (d : ℕ) → name_ok (on_limit p l) d ≡ name_ok l d
  unfolding name_ok on_limit
  name_ok-on Unlimited d = refl
  name_ok-on (AtMost k m) d = refl

  share-on : (l : Limit) (d : ℕ) → share (on_limit p l) d ≡ share l d
  unfolding share on_limit
  share-on Unlimited d = refl
  share-on (AtMost k m) d = refl

-- ---- a tree

module _ (g : ℕ → Number → Number) (h : ℕ → Most → Most) where
  pub size-on : (i : ℕ) (f : Forest) → size (on_forest g h i f) ≡ size f
  unfolding size on_tree
  size-on i nil = refl
  size-on i (t ▸ f) = ap suc (size-on (i + records t) f)

  mutual
    unfolding on_tree records

    pub records-on : (i : ℕ) (t : Tree) → records (on_tree g h i t) ≡ records t
    records-on i (node n f) = ap suc (records_in-on (suc i) f)

    records_in-on : (i : ℕ) (f : Forest) → records_in (on_forest g h i f) ≡ records_in f
    records_in-on i nil = refl
    records_in-on i (t ▸ f) = ap₂ ◌+◌ (records-on i t) (records_in-on (i + records t) f)

  mutual
    unfolding on_tree depth

    depth-on : (i : ℕ) (t : Tree) → depth (on_tree g h i t) ≡ depth t
    depth-on i (node n f) = ap suc (depth_in-on (suc i) f)

    depth_in-on : (i : ℕ) (f : Forest) → depth_in (on_forest g h i f) ≡ depth_in f
    depth_in-on i nil = refl
    depth_in-on i (t ▸ f) = ap₂ max (depth-on i t) (depth_in-on (i + records t) f)

  mutual
    unfolding on_tree loops

    loops-on : (i : ℕ) (t : Tree) (d : ℕ) → loops (on_tree g h i t) d ≡ loops t d
    loops-on i (node n f) d = ap (max d) (loops_in-on (g i) (suc i) n.kind f d)

    loops_in-on : (p : Number → Number) (i : ℕ) (k : Kind) (f : Forest) (d : ℕ) → loops_in (on_kind p k) (on_forest g h i f) d ≡ loops_in k f d
    loops_in-on p i k nil d = refl
    loops_in-on p i k (t ▸ f) d = rw (around-on p k d, rest-on p k) (ap₂ max (loops-on i t (around k d)) (loops_in-on p (i + records t) (rest k) f d))

  mutual
    unfolding on_tree named

    named-on : (i : ℕ) (t : Tree) (d : ℕ) → named (on_tree g h i t) d ≡ named t d
    named-on i (node n f) d = ap₂ ◌and◌ (name_ok-on (h i) n.limit d) (named_in-on (g i) (suc i) n.kind f d)

    named_in-on : (p : Number → Number) (i : ℕ) (k : Kind) (f : Forest) (d : ℕ) → named_in (on_kind p k) (on_forest g h i f) d ≡ named_in k f d
    named_in-on p i k nil d = refl
    named_in-on p i k (t ▸ f) d = rw (around-on p k d, rest-on p k) (ap₂ ◌and◌ (named-on i t (around k d)) (named_in-on p (i + records t) (rest k) f d))

  -- the new numbers of a node are in range, and it is a block of a paired symbol if it was one
  pub record Ranged (i : ℕ) (n : Node) : Type 0 where
    pub kind : T (kind_in_range (on_kind (g i) n.kind))
    pub limit : T (limit_in_range (on_limit (h i) n.limit))
    pub paired : paired_block (on_kind (g i) n.kind) ≡ paired_block n.kind

  mutual
    unfolding on_tree weight paired_share EachNode

    weight-on : (i : ℕ) (t : Tree) (d : ℕ) → EachNode Ranged i t → weight (on_tree g h i t) d ≡ weight t d
    weight-on i (node n f) d e =
        ap₂ ◌+◌ (ap₂ (λ x (b : Bool). x + cond b (2 ^ d) 0) (share-on (h i) n.limit d) e.0.paired) (weight_in-on (g i) (suc i) n.kind f d e.1)

    weight_in-on : (p : Number → Number) (i : ℕ) (k : Kind) (f : Forest) (d : ℕ) → EachIn Ranged i f → weight_in (on_kind p k) (on_forest g h i f) d ≡ weight_in k f d
    weight_in-on p i k nil d e = refl
    weight_in-on p i k (t ▸ f) d e = rw (around-on p k d, rest-on p k) (ap₂ ◌+◌ (weight-on i t (around k d) e.0) (weight_in-on p (i + records t) (rest k) f d e.1))

  mutual
    unfolding on_tree listed EachNode

    pub listed-on : (i : ℕ) (t : Tree) → T (listed t) → EachNode Ranged i t → T (listed (on_tree g h i t))
    listed-on i (node n f) l e =
        let (p, c) = both _ _ l in
        let (q, a) = both _ _ p in
        let b : T (arity (on_kind (g i) n.kind) (size (on_forest g h (suc i) f))) = rw (arity-on (g i) n.kind (size (on_forest g h (suc i) f)), size-on (suc i) f) a in
        join-and _ _ (join-and _ _ (join-and _ _ (join-and _ _ (both _ _ (both _ _ q).0).0 e.0.kind) e.0.limit) b) (listed_in-on (suc i) f c e.1)

    listed_in-on : (i : ℕ) (f : Forest) → T (listed_in f) → EachIn Ranged i f → T (listed_in (on_forest g h i f))
    listed_in-on i nil l e = tt
    listed_in-on i (t ▸ f) l e = let (a, b) = both _ _ l in join-and _ _ (listed-on i t a e.0) (listed_in-on (i + records t) f b e.1)

  -- questions 1 to 7 of the tree with the new numbers
  pub accepted-on : (t : Tree) → Accepted t → EachNode Ranged 0 t → Accepted (on_tree g h 0 t)
  accepted-on t a e = record {
    short = omega (arith, records-on 0 t, a.short);
    listed = listed-on 0 t a.listed e;
    deep = omega (arith, depth-on 0 t, a.deep);
    nested = omega (arith, loops-on 0 t 0, a.nested);
    named = subst T (sym (named-on 0 t 0)) a.named;
    weighed = omega (arith, weight-on 0 t 0 e, a.weighed);
  }

-- ---- numbers left as they are

pub kind-same : (k : Kind) → on_kind (λ m. m) k ≡ k
unfolding on_kind
kind-same (Block t) = refl
kind-same Sequence = refl
kind-same Choice = refl
kind-same (Loop n) = refl

pub limit-same : (l : Limit) → on_limit (λ m. m) l ≡ l
unfolding on_limit
limit-same Unlimited = refl
limit-same (AtMost k m) = refl

mutual
  unfolding on_tree

  pub tree-same : (i : ℕ) (t : Tree) → on_tree (λ j m. m) (λ j m. m) i t ≡ t
  tree-same i (node n f) =
      ap₂ node (λ k. record { kind = kind-same n.kind k; limit = limit-same n.limit k; address = n.address }) (forest-same (suc i) f)

  forest-same : (i : ℕ) (f : Forest) → on_forest (λ j m. m) (λ j m. m) i f ≡ f
  forest-same i nil = refl
  forest-same i (t ▸ f) = ap₂ ◌▸◌ (tree-same i t) (forest-same (i + records t) f)

-- ---- numbers put another way, and back

module _ (g g' : ℕ → Number → Number) (h h' : ℕ → Most → Most) where
  abbrev pub Alike : ℕ → Node → Type 0
  Alike i n = on_node (g i) (h i) n ≡ on_node (g' i) (h' i) n

  mutual
    unfolding on_tree EachNode

    pub alike-on : (i : ℕ) (t : Tree) → EachNode Alike i t → on_tree g h i t ≡ on_tree g' h' i t
    alike-on i (node n f) e = ap₂ node e.0 (alike_in-on (suc i) f e.1)

    alike_in-on : (i : ℕ) (f : Forest) → EachIn Alike i f → on_forest g h i f ≡ on_forest g' h' i f
    alike_in-on i nil e = refl
    alike_in-on i (t ▸ f) e = ap₂ ◌▸◌ (alike-on i t e.0) (alike_in-on (i + records t) f e.1)

module _ (g g' : ℕ → Number → Number) (h h' : ℕ → Most → Most) where
  abbrev pub Back : ℕ → Node → Type 0
  Back i n = on_node (g' i) (h' i) (on_node (g i) (h i) n) ≡ n

  mutual
    unfolding on_tree EachNode

    pub back_on : (i : ℕ) (t : Tree) → EachNode Back i t → on_tree g' h' i (on_tree g h i t) ≡ t
    back_on i (node n f) e = ap₂ node e.0 (back_in-on (suc i) f e.1)

    back_in-on : (i : ℕ) (f : Forest) → EachIn Back i f → on_forest g' h' i (on_forest g h i f) ≡ f
    back_in-on i nil e = refl
    back_in-on i (t ▸ f) e = rw (records-on g h i t) (ap₂ ◌▸◌ (back_on i t e.0) (back_in-on (i + records t) f e.1))

-- ---- what holds of every node in range holds of every node of a listed tree

module _ (P : ℕ → Node → Type 0) (w : (i : ℕ) (n : Node) → T (kind_in_range n.kind) → T (limit_in_range n.limit) → P i n) where
  mutual
    unfolding listed EachNode

    pub each-listed : (i : ℕ) (t : Tree) → T (listed t) → EachNode P i t
    each-listed i (node n f) l =
        let (p, c) = both _ _ l in
        let (q, a) = both _ _ p in
        let (x, y) = both _ _ q in
        (w i n (both _ _ x).1 y, each_in-listed (suc i) f c)

    each_in-listed : (i : ℕ) (f : Forest) → T (listed_in f) → EachIn P i f
    each_in-listed i nil l = tt
    each_in-listed i (t ▸ f) l = let (a, b) = both _ _ l in (each-listed i t a, each_in-listed (i + records t) f b)

-- of every node with its new numbers
module _ (g : ℕ → Number → Number) (h : ℕ → Most → Most) (P : ℕ → Node → Type 0) where
  mutual
    unfolding on_tree EachNode

    pub each_on : (i : ℕ) (t : Tree) → EachNode (λ j n. P j (on_node (g j) (h j) n)) i t → EachNode P i (on_tree g h i t)
    each_on i (node n f) e = (e.0, each_in-on (suc i) f e.1)

    each_in-on : (i : ℕ) (f : Forest) → EachIn (λ j n. P j (on_node (g j) (h j) n)) i f → EachIn P i (on_forest g h i f)
    each_in-on i nil e = tt
    each_in-on i (t ▸ f) e = rw (records-on g h i t) (each_on i t e.0, each_in-on (i + records t) f e.1)
