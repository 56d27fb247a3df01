-- What the walk finds of the table of a listed tree, and so what it answers to questions 5 to 7; and the walk's cases, as the program meets them.
use Rattle.std.specs.Prelude.{◌≡◌, Bool, Option, None, Some, is_some, option_map, ◌&&◌, cond, ◌||◌, List, ◌++◌, [], leb, T, eqb, length, take, drop}
use Rattle.std.proofs.Math.Path.{refl}
use Rattle.std.proofs.Common.{◌∙◌, sym, subst, ap, append_assoc, append-nil, zero-add, add-zero, add_assoc, arith, eqb→eq, length-append, length-drop}
use Rattle.std.proofs.Math.Bool.{true, false, and-true, and_assoc}
use Rattle.std.proofs.lemmas.Option.{none-some, same_Some}
use Prim.Native.Nat.{ℕ, max, ◌-◌, ◌^◌, suc, ◌+◌, zero, ◌*◌, ◌%◌, ◌<◌, ◌≤◌}
use Rattle.std.proofs.Math.Numerals.{sub-one}
use Rattle.std.proofs.Math.Dec.{leb-suc-zero, leb-suc-suc, leb-zero}
use borrow.Author.Tests.{le-leb, lt-leb, leb-true, leb-false}
use Rattle.booleans.specs.Laws.{both, and_is}
use Rattle.booleans.specs.Tests.{◌and◌}
use Rattle.table.specs.Nodes.{Kind, Block, Sequence, Choice, Loop, Limit, Unlimited, AtMost, Node}
use Rattle.table.specs.Bytes.{AreBytes}
use Rattle.table.specs.Checking.{question5, question6, question7, question1, question2, question3, question4}
use Rattle.table.specs.Numbers.{whole_run, most_loops, record_length, most_weight, most_depth}
use Rattle.table.specs.Questions.{most_in_range, limit_in_range, share, named, weight, named_in, weight_in, depth, loops, depth_in, loops_in, name_ok, listed, listed_in}
use Rattle.table.specs.Survey.{listed_share, unfit, with_parent, survey_node, survey_children, empty, with_next, survey_more, Small, node_share}
use Rattle.table.specs.Table.{record_bytes, encode, encodes, decode, record_count, first_node, child_byte}
use Rattle.table.specs.Trees.{rest, around, Tree, records, Forest, records_in, node, size, nil, ◌▸◌}
use Rattle.table.specs.declared.Survey.{Survey}
use Rattle.table.proofs.Laws.Accepted.{forest-listed, decode-listed}
use Rattle.table.proofs.Laws.Canonical.{encode-decode}
use Rattle.table.proofs.Laws.NotRefused.{tree-writes}
use Rattle.table.proofs.Laws.Reading.{part-from}
use Rattle.table.proofs.Laws.RoundTrip.{WritesNode, head_bytes, children-bytes, drop-bytes, length-bytes, Writes, drop-tree}

-- ---- tests

and-four : (a b c d : Bool) → ((a and b) and (c and d)) ≡ ((a and c) and (b and d))
unfolding ◌and◌
and-four true b true d = refl
and-four true true false d = refl
and-four true false false d = refl
and-four false b c d = refl

cond-and : (a b : Bool) (x y : Option Survey) → cond a (cond b x y) y ≡ cond (a and b) x y
unfolding ◌and◌
cond-and true b x y = refl
cond-and false b x y = refl

leb-max : (a b n : ℕ) → leb (max a b) n ≡ (leb a n and leb b n)
leb-max a b n = go (leb a n) (leb b n) refl refl
  where
    go : (p q : Bool) → leb a n ≡ p → leb b n ≡ q → leb (max a b) n ≡ (p and q)
    go true true e f = unfold ◌and◌ in le-leb (max a b) n (omega (arith, leb-true))
    go true false e f = unfold ◌and◌ in lt-leb (max a b) n (omega (arith, leb-true, leb-false))
    go false q e f = unfold ◌and◌ in lt-leb (max a b) n (omega (arith, leb-false))

-- ---- a node by itself

pub around-rest : (k : Kind) (d : ℕ) → around (rest k) d ≡ d
unfolding around rest
around-rest (Block v) d = refl
around-rest Sequence d = refl
around-rest Choice d = refl
around-rest (Loop v) d = refl

-- a limit that question 2 lets pass adds its share
share-is : (l : Limit) (d : ℕ) → T (limit_in_range l) → listed_share l d ≡ share l d
unfolding limit_in_range listed_share share
share-is Unlimited d h = refl
share-is (AtMost k m) d h = go (leb 1 k) (leb k most_loops) (eqb k whole_run) (2 ^ d) (2 ^ (k - 1)) (both _ (most_in_range m) h).0
  where
    go : (a b c : Bool) (x y : ℕ) → T ((a and b) || c) → cond c x (cond (a && b) y 0) ≡ cond c x y
    go a b true x y h = refl
    go true true false x y h = refl
    go true false false x y h = absurd (unfold ◌and◌ in h)
    go false b false x y h = absurd (unfold ◌and◌ in h)

-- a node's record, and what follows it
survey-record : (n : Node) (c : ℕ) (r : List ℕ) (h d : ℕ) → WritesNode n
    → survey_node (suc h) d (record_bytes n c ++ r) ≡ cond (leb d most_loops) (option_map (with_parent n d) (survey_children h (around n.kind d) d c r)) unfit
unfolding survey_node
survey-record n c r h d w =
    let long : leb record_length (length (record_bytes n c ++ r)) ≡ true = le-leb record_length (length (record_bytes n c ++ r)) (rw (length-append, length-bytes) (omega arith)) in
    simp (head_bytes, children-bytes, drop-bytes, long, w)

-- ---- a tree

-- what the walk finds of a tree that fits, and of the children of a node of kind k
abbrev pub survey_of : Tree → ℕ → Survey
survey_of t d = record { records = records t; named = named t d; weight = weight t d }

abbrev pub survey_in : Kind → Forest → ℕ → Survey
survey_in k f d = record { records = records_in f; named = named_in k f d; weight = weight_in k f d }

-- question 5 with h for the depth and d loops around
abbrev pub fitting : Tree → (h d : ℕ) → Bool
fitting t h d = leb (depth t) h and leb (loops t d) most_loops

abbrev pub fitting_in : Kind → Forest → (h d : ℕ) → Bool
fitting_in k f h d = leb (depth_in f) h and leb (loops_in k f d) most_loops

parent_is : (n : Node) (f : Forest) (d : ℕ) → T (limit_in_range n.limit) → with_parent n d (with_next empty (survey_in n.kind f d)) ≡ survey_of (node n f) d
unfolding records named weight
parent_is n f d h =
    let more : 0 + records_in f + 1 ≡ suc (records_in f) = omega arith in
    rw (more, zero-add, share-is n.limit d h, and_is (name_ok n.limit d) (named_in n.kind f d)) refl

-- a node fits where its children do and there are not too many loops around it
parent-fits : (a b c : Bool) (l : Node) (d : ℕ) (s u : Survey) → with_parent l d s ≡ u → cond b (option_map (with_parent l d) (cond (a and c) (Some s) unfit)) unfit ≡ cond (a and (b and c)) (Some u) unfit
unfolding ◌and◌
parent-fits true true true l d s u e = ap Some e
parent-fits true true false l d s u e = refl
parent-fits true false c l d s u e = refl
parent-fits false true c l d s u e = refl
parent-fits false false c l d s u e = refl

node-surveyed : (n : Node) (f : Forest) (z : List ℕ) (h d : ℕ) → WritesNode n → T (limit_in_range n.limit)
    → ((j : ℕ) → survey_children j (around n.kind d) d (size f) (encodes f ++ z) ≡ cond (fitting_in n.kind f j d) (Some (with_next empty (survey_in n.kind f d))) unfit)
    → survey_node h d (encode (node n f) ++ z) ≡ cond (fitting (node n f) h d) (Some (survey_of (node n f) d)) unfit
unfolding encode depth loops survey_node ◌and◌
node-surveyed n f z zero d w l e = rw leb-suc-zero refl
node-surveyed n f z (suc h) d w l e =
    rw (append_assoc, survey-record n (size f) (encodes f ++ z) h d w, e h, leb-suc-suc, leb-max)
    (parent-fits (leb (depth_in f) h) (leb d most_loops) (leb (loops_in n.kind f d) most_loops) n d _ _ (parent_is n f d l))

next-none : (k : Kind) (s : Survey) (h d : ℕ) → Some s ≡ cond (fitting_in k nil h d) (Some (with_next s (survey_in k nil d))) unfit
unfolding records depth loops named weight ◌and◌
next-none k s h d = rw (leb-zero h, add-zero s.records, add-zero s.weight, and-true) refl

next-is : (s : Survey) (k : Kind) (t : Tree) (f : Forest) (d : ℕ) → with_next (with_next s (survey_of t (around k d))) (survey_in (rest k) f d) ≡ with_next s (survey_in k (t ▸ f) d)
unfolding records named weight
next-is s k t f d = rw (← and_is, and_assoc, add_assoc s.records, add_assoc s.weight)

-- a tree that fits is joined, any other ends the walk
more-next : (f : ℕ → List ℕ → Option Survey) (first others n : ℕ) (b : List ℕ) (s u : Survey) (p : Bool)
    → f first (drop (record_length * s.records) b) ≡ cond p (Some u) unfit
    → survey_more f first others (suc n) b s ≡ cond p (survey_more f others others n b (with_next s u)) unfit
unfolding survey_more
more-next f first others n b s u true e = rw e refl
more-next f first others n b s u false e = rw e refl

next-surveyed : (t : Tree) (f : Forest) (k : Kind) (h d : ℕ) (b : List ℕ) (s : Survey)
    → survey_node h (around k d) (drop (record_length * s.records) b) ≡ cond (fitting t h (around k d)) (Some (survey_of t (around k d))) unfit
    → survey_more (survey_node h) (around (rest k) d) d (size f) b (with_next s (survey_of t (around k d)))
    ≡ cond (fitting_in (rest k) f h d) (Some (with_next (with_next s (survey_of t (around k d))) (survey_in (rest k) f d))) unfit
    → survey_more (survey_node h) (around k d) d (size (t ▸ f)) b s ≡ cond (fitting_in k (t ▸ f) h d) (Some (with_next s (survey_in k (t ▸ f) d))) unfit
unfolding size depth loops
next-surveyed t f k h d b s e g =
    let joined = more-next (survey_node h) (around k d) d (size f) b s (survey_of t (around k d)) (fitting t h (around k d)) e in
    rw (joined, rw around-rest at g, cond-and, next-is s k t f d, leb-max (depth t), leb-max (loops t (around k d)), and-four (leb (depth t) h) (leb (depth_in f) h)) refl

-- The walk of a listed tree's table finds what question 5 asks and, where it says yes, the records, question 6's answer and question 7's sum.
mutual
  unfolding listed Writes encode size survey_more

  pub tree-surveyed : (t : Tree) → T (listed t) → (h d : ℕ) (z : List ℕ) → survey_node h d (encode t ++ z) ≡ cond (fitting t h d) (Some (survey_of t d)) unfit
  tree-surveyed (node n f) l h d z =
      let (p, c) = both _ _ l in
      node-surveyed n f z h d (tree-writes (node n f) l).0 (both _ _ (both _ _ p).0).1 (λ j. forest-surveyed f c n.kind j d (encodes f ++ z) z empty refl)

  forest-surveyed : (f : Forest) → T (listed_in f) → (k : Kind) (h d : ℕ) (b z : List ℕ) (s : Survey) → drop (record_length * s.records) b ≡ encodes f ++ z
      → survey_more (survey_node h) (around k d) d (size f) b s ≡ cond (fitting_in k f h d) (Some (with_next s (survey_in k f d))) unfit
  forest-surveyed nil l k h d b z s e = next-none k s h d
  forest-surveyed (t ▸ f) l k h d b z s e =
      let (x, y) = both _ _ l in
      let q = e ∙ append_assoc (encode t) (encodes f) z in
      next-surveyed t f k h d b s (rw q (tree-surveyed t x h (around k d) (encodes f ++ z)))
      (forest-surveyed f y (rest k) h d b z (with_next s (survey_of t (around k d))) (drop-tree t s.records b (encodes f ++ z) q))

-- ---- questions 5 to 7

-- what the survey of a table b answers; questions 6 and 7 are put only where 5 says yes, and so there is one
pub record Answers (b : List ℕ) (found : Option Survey) : Type 0 where
  pub five : question5 b ≡ is_some found
  pub six : (s : Survey) → found ≡ Some s → question6 b ≡ s.named
  pub seven : (s : Survey) → found ≡ Some s → question7 b ≡ leb s.weight most_weight

by-fitting : (b : List ℕ) (p : Bool) → question5 b ≡ p → Answers b (cond p (Some (survey_of (decode b) 0)) unfit)
unfolding question6 question7
by-fitting b true e = record {
  five = e;
  six = λ s h. ap (λ v. v.named) (same_Some (survey_of (decode b) 0) s h);
  seven = λ s h. ap (λ v. leb v.weight most_weight) (same_Some (survey_of (decode b) 0) s h);
}
by-fitting b false e = record { five = e; six = λ s h. absurd (none-some s h); seven = λ s h. absurd (none-some s h) }

-- Where questions 1 to 4 say yes, the walk answers 5 to 7.
pub answers : (b : List ℕ) → AreBytes b → T (question1 b) → T (question2 b) → T (question3 b) → T (question4 b) → Answers b (survey_node most_depth 0 b)
unfolding question1 question2 question3 question4 question5
answers b h q1 q2 q3 q4 =
    let w = eqb→eq (length b % record_length) 0 (both _ _ (both _ _ q1).0).0 in
    let f = forest-listed (record_count b) 1 b h q2 q3 q4 in
    let l = decode-listed b f.1 f.0 in
    let e : encode (decode b) ++ [] ≡ b = append-nil (encode (decode b)) ∙ encode-decode b h w q2 q4 in
    subst (Answers b) (sym (tree-surveyed (decode b) l most_depth 0 []) ∙ ap (survey_node most_depth 0) e) (by-fitting b (question5 b) refl)

-- ---- the cases of the definitions, as the program meets them

pub node-deep : (h d : ℕ) (b : List ℕ) → h ≡ 0 → unfit ≡ survey_node h d b
unfolding survey_node
node-deep h d b e = rw e refl

pub node-short : (h d : ℕ) (b : List ℕ) → length b < record_length → unfit ≡ survey_node h d b
unfolding survey_node
node-short zero d b l = refl
node-short (suc h) d b l = rw (lt-leb record_length (length b) l) refl

pub node-looped : (h d : ℕ) (b : List ℕ) → record_length ≤ length b → most_loops < d → unfit ≡ survey_node h d b
unfolding survey_node
node-looped zero d b l m = refl
node-looped (suc h) d b l m = rw (le-leb record_length (length b) l, lt-leb d most_loops m) refl

-- a node n with c children, which the walk finds behind its record, with k loops around the first
pub node-read : (h d k c : ℕ) (b : List ℕ) (n : Node) (found : Option Survey) → (h ≡ 0 → ⊥) → record_length ≤ length b → d ≤ most_loops
    → n ≡ first_node b → k ≡ around n.kind d → c ≡ child_byte b → found ≡ survey_children (h - 1) k d c (take (length b - record_length) (drop record_length b))
    → option_map (with_parent n d) found ≡ survey_node h d b
unfolding survey_node
node-read zero d k c b n found f l m en ek ec e = absurd (f refl)
node-read (suc h) d k c b n found f l m en ek ec e = rw (le-leb record_length (length b) l, le-leb d most_loops m, e, ek, ec, en, part-from, sub-one (suc h)) refl

pub more-done : (f : ℕ → List ℕ → Option Survey) (first others n : ℕ) (b : List ℕ) (s : Survey) → n ≡ 0 → Some s ≡ survey_more f first others n b s
unfolding survey_more
more-done f first others n b s e = rw e refl

-- the next tree
module _ (f : ℕ → List ℕ → Option Survey) (first others : ℕ) (b : List ℕ) (s : Survey) where
  pub more-unfit : (n : ℕ) → 0 < n → None ≡ f first (drop (record_length * s.records) b) → unfit ≡ survey_more f first others n b s
  unfolding survey_more
  more-unfit zero p e = absurd (omega arith)
  more-unfit (suc n) p e = rw (← e) refl

  -- with its survey c, and then m others
  pub more-fits : (n m : ℕ) (c : Survey) → n ≡ m + 1 → Some c ≡ f first (drop (record_length * s.records) b)
      → survey_more f others others m b (with_next s c) ≡ survey_more f first others n b s
  unfolding survey_more
  more-fits n m c p e =
      let q : n ≡ suc m = omega (arith, p) in
      rw (q, ← e) refl

pub small-next : (b : List ℕ) (s c : Survey) → Small b s → Small (drop (record_length * s.records) b) c → Small b (with_next s c)
small-next b s c p q = record { short = omega (arith, length-drop (record_length * s.records) b, p.short, q.short); light = omega (arith, p.light, q.light) }

pub small-parent : (b : List ℕ) (s r : Survey) → record_length ≤ length b → Small (drop record_length b) s → r.records ≤ s.records + 1 → r.weight ≤ node_share * r.records → Small b r
small-parent b s r l p m w = record { short = omega (arith, length-drop record_length b, p.short); light = w }
