-- The evaluator's walk of a table finds the list of its tree where question 10 says yes, and elsewhere that it says no.
use Rattle.std.specs.Prelude.{◌≡◌, true, T, leb, drop, length}
use Rattle.std.proofs.Math.Path.{refl}
use Rattle.std.proofs.Common.{sym, ap, ◌∙◌, le_trans, arith, leb→le, le→leb, length-append, le-leb}
use mathlib.Core.List.{List, ◌++◌, [], append_assoc, append-nil}
use Prim.Native.Nat.{ℕ, ◌≤◌, ◌+◌, ◌*◌, suc, zero, ◌<◌}
use Rattle.booleans.specs.Laws.{both, T-is, is_T, join-and, same_test}
use Rattle.table.specs.Bytes.{AreBytes}
use Rattle.table.specs.Checking.{refusal}
use Rattle.table.specs.Numbers.{most_loops, most_weight, record_length, whole_run, most_count, most_depth, first_time_symbol}
use Rattle.table.specs.Questions.{listed, loops, named, weight, paired_share, kind_in_range, listed_in, loops_in, named_in, weight_in, depth, depth_in}
use Rattle.table.specs.Table.{encode, record_bytes, encodes, decode}
use Rattle.table.specs.Trees.{Tree, Forest, node, ◌▸◌, around, rest, records, nil, size, every_node}
use Rattle.table.proofs.Laws.Accepted.{is-table}
use Rattle.table.proofs.Laws.NotRefused.{tree-writes}
use Rattle.table.proofs.Laws.RoundTrip.{WritesNode, head_bytes, children-bytes, drop-bytes, length-bytes, Writes, drop-tree}
use Rattle.lists.specs.Pairs.{top}
use Rattle.lists.specs.Streams.{Stream, const}
use Rattle.lists.specs.Laws.Pairs.{top-is}
use Rattle.evaluate.specs.Nodes.{Kind, Node}
use Rattle.evaluate.specs.Evaluate.{Values, before, branch, name, list, figure, fits, start}
use Rattle.evaluate.specs.Evaluator.{Agree, alike, and_then, limited, evaluate_below, evaluate_node, Found, evaluate_more, none_yet}
use Rattle.evaluate.specs.ListPairs.{list_pairs}
use Rattle.evaluate.proofs.Laws.Children.{More, SoFar, rest-start, from-none, no_more, none-yet, below-finds, next_more}
use Rattle.evaluate.proofs.Laws.Found.{Holds, Finds, known-finds, same-finds, then-finds, limited-holds}
use Rattle.evaluate.proofs.Laws.ListPairs.{pairs-are}
use Rattle.evaluate.proofs.Laws.PairCount.{bound, bound_in}
use Rattle.evaluate.proofs.Laws.Weight.{bound-weight, bound_in-weight, rest-share}
use Rattle.evaluate.proofs.Laws.Kinds.{by-rest}
use Rattle.table.specs.Limits.{every_limit_in, every_most}

-- ---- with d loops around, what checking lets pass: a tree, and children of a node of kind k

pub record Fair (t : Tree) (d : ℕ) : Type 0 where
  pub listed : T (listed t)
  pub nested : loops t d ≤ most_loops
  pub named : T (named t d)
  pub weighed : weight t d ≤ most_weight

pub record FairIn (k : Kind) (f : Forest) (d : ℕ) : Type 0 where
  pub ranged : T (kind_in_range k)
  pub listed : T (listed_in f)
  pub nested : loops_in k f d ≤ most_loops
  pub named : T (named_in k f d)
  pub weighed : paired_share k d + weight_in k f d ≤ most_weight

pub fair-below : (n : Node) (f : Forest) (d : ℕ) → Fair (node n f) d → FairIn n.kind f d
unfolding listed loops named weight
fair-below n f d a =
    let (p, l) = both _ _ a.listed in
    record { ranged = (both _ _ (both _ _ (both _ _ p).0).0).1; listed = l; nested = omega (arith, a.nested); named = (both _ _ a.named).1; weighed = omega (arith, a.weighed) }

pub fair-first : (k : Kind) (t : Tree) (f : Forest) (d : ℕ) → FairIn k (t ▸ f) d → Fair t (around k d)
unfolding listed loops named weight
fair-first k t f d a = record { listed = (both _ _ a.listed).0; nested = omega (arith, a.nested); named = (both _ _ a.named).0; weighed = omega (arith, a.weighed) }

pub rest-ranged : (k : Kind) → T (kind_in_range (rest k))
unfolding kind_in_range
rest-ranged k = by-rest (λ j. T (kind_in_range j)) k tt tt

pub fair-rest : (k : Kind) (t : Tree) (f : Forest) (d : ℕ) → FairIn k (t ▸ f) d → FairIn (rest k) f d
unfolding listed loops named weight
fair-rest k t f d a = record { ranged = rest-ranged k; listed = (both _ _ a.listed).1; nested = omega (arith, a.nested); named = (both _ _ a.named).1; weighed = omega (arith, a.weighed, rest-share k d) }

-- ---- the table of a tree

-- a node's record, and what follows it
evaluate-record : (v : Values) (n : Node) (c : ℕ) (r : List ℕ) (h : ℕ) → WritesNode n
    → evaluate_node v (suc h) (record_bytes n c ++ r) ≡ and_then (evaluate_below v (evaluate_node v h) n.kind c r) (limited v n.limit)
unfolding evaluate_node
evaluate-record v n c r h w =
    let long : leb record_length (length (record_bytes n c ++ r)) ≡ true = le-leb record_length (length (record_bytes n c ++ r)) (rw (length-append, length-bytes) (omega arith)) in
    simp (head_bytes, children-bytes, drop-bytes, long, w)

-- ---- the walk

-- what the walk e of the tree t answers: question 10 and, where it says yes, the list, its pairs, its first member and the branch
pub record Evaluated (v : Values) (t : Tree) (e : Found) : Type 0 where
  pub holds : T (fits v t) → Holds e (list v t) (bound t) (name t) (records t) (branch v t)
  pub pairs : T (fits v t) → e.pairs ≡ list_pairs v t
  pub figure : T (fits v t) → top e.pairs ≡ figure v t
  pub branch : T (fits v t) → e.branch ≡ branch v t
  pub fits : e.fits ≡ fits v t

finds-evaluated : (v : Values) (t : Tree) (e : Found) → Finds (T (fits v t)) e (list v t) (bound t) (name t) (records t) (branch v t) → Evaluated v t e
unfolding figure
finds-evaluated v t e h = record {
  holds = h.holds;
  pairs = λ i. pairs-are v t e.pairs (h.holds i).are;
  figure = λ i. top-is (h.holds i).are;
  branch = λ i. (h.holds i).branch;
  fits = same_test e.fits (fits v t) (λ i. h.only (T-is _ i)) (λ i. is_T _ (h.holds i).fits);
}

module _ (u v : Values) (agree : Agree u v) (ranged : (k : ℕ) → k < first_time_symbol → v k ≤ most_count) where
  -- by what is found of the children, whatever the fuel
  node-finds : (n : Node) (f : Forest) (d h : ℕ) (b z : List ℕ) → b ≡ encode (node n f) ++ z → Fair (node n f) d → T (every_most (alike u v) (node n f)) → depth (node n f) ≤ h
      → ((i : ℕ) → depth_in f ≤ i → start v n.kind ≡ const 0
      → More v (const 0) 0 whole_run 0 0 0 n.kind f (evaluate_more u (evaluate_node u i) n.kind 0 (size f) (encodes f ++ z) none_yet))
      → Finds (T (fits v (node n f))) (evaluate_node u h b) (list v (node n f)) (bound (node n f)) (name (node n f)) (records (node n f)) (branch v (node n f))
  unfolding encode depth fits list bound name records branch listed Writes every_node
  node-finds n f d zero b z e a y l q = absurd (omega arith)
  node-finds n f d (suc h) b z e a y l q =
      let (p, o) = both _ _ a.listed in
      let (p₁, p₂) = both _ _ p in
      rw (e, append_assoc, evaluate-record u n (size f) (encodes f ++ z) h (tree-writes (node n f) a.listed).0)
      (same-finds
      (λ x. join-and _ _ (le→leb _ _ x.0.0) x.0.1)
      (λ x. let (x₁, x₂) = both _ _ x in ((leb→le _ _ x₁, x₂), tt))
      refl (omega arith) refl refl refl
      (then-finds {q = Unit {0}} (below-finds u v agree n.kind f (evaluate_node u h) (encodes f ++ z) (both _ _ (both _ _ p₁).0).1 p₂ (q h (omega arith))) (λ x w.
      known-finds tt (limited-holds u v agree ranged n.limit _ _ _ _ _ _ w (both _ _ p₁).1 (both _ _ y).0 (le_trans (bound-weight (node n f) d a.nested a.named) a.weighed)))))

  mutual
    unfolding depth encode evaluate_more size bound_in every_node

    pub tree_finds : (t : Tree) (d h : ℕ) (b z : List ℕ) → b ≡ encode t ++ z → Fair t d → T (every_most (alike u v) t) → depth t ≤ h
        → Finds (T (fits v t)) (evaluate_node u h b) (list v t) (bound t) (name t) (records t) (branch v t)
    tree_finds (node n f) d h b z e a y l =
        let c = fair-below n f d a in
        node-finds n f d h b z e a y l (λ i o q. forest-finds f n.kind d i (encodes f ++ z) z (const 0) 0 whole_run 0 0 0 _ refl c (both _ _ y).1 o q none-yet
        (omega (arith, bound_in-weight n.kind f d c.nested c.named, c.weighed)))

    pub forest-finds : (f : Forest) (k : Kind) (d h : ℕ) (b z : List ℕ) (a : Stream) (w j m p i : ℕ) (s : Found) → drop (record_length * m) b ≡ encodes f ++ z → FairIn k f d → T (every_limit_in (λ k m. alike u v m) f) → depth_in f ≤ h
        → start v k ≡ const 0 → SoFar s a w j m p → w + bound_in k f ≤ most_weight → More v a w j m p i k f (evaluate_more u (evaluate_node u h) k i (size f) b s)
    forest-finds nil k d h b z a w j m p i s e c y l o g x = no_more v k a w j m p i s o g
    forest-finds (t ▸ f) k d h b z a w j m p i s e c y l o g x =
        let q = e ∙ append_assoc (encode t) (encodes f) z in
        next_more u v agree ranged k t f (evaluate_node u h) b a w j m p i s g c.ranged x
        (tree_finds t (around k d) h _ (encodes f ++ z) (ap (λ n. drop (record_length * n) b) g.holds.records ∙ q) (fair-first k t f d c) (both _ _ y).0 (omega arith))
        (λ r n. forest-finds f (rest k) d h b z _ _ _ _ _ _ r (drop-tree t m b (encodes f ++ z) q) (fair-rest k t f d c) (both _ _ y).1 (omega arith) (rest-start v k) n (omega arith))

  -- a node's children, before its own limit, where question 10 says yes
  pub children-found : (n : Node) (f : Forest) (d h : ℕ) (b z : List ℕ) → b ≡ encodes f ++ z → Fair (node n f) d → T (every_most (alike u v) (node n f)) → depth_in f ≤ h → start v n.kind ≡ const 0 → T (fits v (node n f))
      → let e = evaluate_more u (evaluate_node u h) n.kind 0 (size f) b none_yet in (e.fits ≡ true) × (top e.pairs ≡ before v n.kind f 0)
  unfolding fits every_node
  children-found n f d h b z e a r l o q =
      let c = fair-below n f d a in
      let (x, y) = both _ _ q in
      let m = from-none v n.kind f _ refl
      (forest-finds f n.kind d h b z (const 0) 0 whole_run 0 0 0 _ e c (both _ _ r).1 l o none-yet (omega (arith, bound_in-weight n.kind f d c.nested c.named, c.weighed))) in
      let w = m.holds (leb→le _ _ x, y) in
      (w.fits, top-is w.are)

  pub evaluated : (t : Tree) (d h : ℕ) (b z : List ℕ) → b ≡ encode t ++ z → Fair t d → T (every_most (alike u v) t) → depth t ≤ h → Evaluated v t (evaluate_node u h b)
  evaluated t d h b z e a y l = finds-evaluated v t _ (tree_finds t d h b z e a y l)

  -- of a table that checking does not refuse
  pub evaluated-table : (b : List ℕ) → AreBytes b → refusal b ≡ 0 → T (every_most (alike u v) (decode b)) → Evaluated v (decode b) (evaluate_node u most_depth b)
  evaluated-table b h e y =
      let t = is-table b h e in
      let a = t.accepted in
      evaluated (decode b) 0 most_depth b [] (sym (append-nil (encode (decode b)) ∙ t.back))
      (record { listed = a.listed; nested = a.nested; named = a.named; weighed = a.weighed }) y a.deep
