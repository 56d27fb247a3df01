-- Rule 8 by records and bytes.
use Rattle.std.specs.Prelude.{◌≡◌, Bool, true, false, not, cond, ◌&&◌, ◌||◌, List, [], ◌++◌, eqb, leb, ltb, drop, length, is_some, Some, None}
use Rattle.std.specs.declared.option.Option.{Option as Maybe}
use Rattle.std.proofs.Math.Path.{refl, ap, sym, subst}
use Rattle.std.proofs.Common.{◌∙◌, append_assoc, append-nil, arith, leb→le}
use Rattle.std.proofs.Math.Option.{none, some}
use Prim.Native.Nat.{ℕ, suc, ◌+◌, ◌*◌, ◌-◌, ◌<◌, ◌≤◌}
use Rattle.std.proofs.Math.Dec.{T}
use borrow.Author.Tests.{eq-eqb, le-leb, lt-leb, ltb-false, ltb-true, ne_eqb, not-false, not-true}
use Rattle.booleans.specs.Laws.{T-is, and-false, and_is, both, is_T, join-and}
use Rattle.booleans.specs.Tests.{◌and◌}
use Rattle.evaluate.specs.Closed.{closed, is_unlimited}
use Rattle.simplify.specs.Rules.{address_of, all_pairs, children, first_of, firsts, head_of, is_pair, limit_of, rule8, second_of, shared_out, shares, tail_of, when}
use Rattle.simplify.specs.Same.{same, same_kind}
use Rattle.simplify.specs.Steps.{also}
use Rattle.table.specs.Numbers.{record_length}
use Rattle.table.specs.Table.{child_byte, encode, encodes, first_node, record_bytes, record_count}
use Rattle.table.specs.Trees.{Forest, Tree, nil, node, ◌▸◌, ◌⧺◌, records, records_in, size}
use Rattle.table.proofs.Laws.RoundTrip.{first-⧺}
use Rattle.subtrees.specs.Facts.{Sized, Surveyed, extent_at, fact_at, reach}
use Rattle.subtrees.specs.Children.{any, child_at}
use Rattle.subtrees.specs.declared.Facts.{Facts}
use Rattle.table.specs.Checking.{IsTable}
use Rattle.subtrees.specs.Parts.{subtree, trees_at}
use Rattle.subtrees.specs.Laws.Facts.{closed_at}
use Rattle.table.proofs.Laws.Tables.{length-is}
use Rattle.subtrees.specs.Laws.Parts.{Here, Next, Row, here-at, kids-row, next_row, node-extent, past-inside, past-node, records-at, row-end, row_last, tail_at, top-at}
use Rattle.subtrees.specs.Laws.Records.{count_at, node_at}
use Rattle.table.specs.declared.Limit.{Limit}
use Rattle.table.specs.declared.Limit.TheVariants.{Unlimited}
use Rattle.table.specs.declared.Kind.TheVariants.{Sequence, Choice}
use Rattle.table.specs.declared.Node.{Node}
use Rattle.rules8and9.specs.Sharing.{PairsAt, RoomFor, RowAppended, firsts_at, pairs, shared_at, sharing, top_bytes}
use Rattle.writing.specs.Records.{front, node_of, slice}
use Rattle.rewrite.specs.Wrote.{Wrote, rule_at}
use Rattle.rewrite.specs.Laws.Records.{none-no, some-yes, subtree-bytes, subtree-sound, two_at, unfit-at, wrote_as, zero_is}

-- ---- pairs

and_no : (x : Bool) → (x && false) ≡ false
and_no true = refl
and_no false = refl

pair_is : (n : Node) (f : Forest) → (same_kind n.kind Sequence && is_unlimited n.limit && eqb (size f) 2) ≡ is_pair (node n f)
unfolding is_pair size
pair_is n nil = and_no (same_kind n.kind Sequence && is_unlimited n.limit)
pair_is n (a ▸ nil) = and_no (same_kind n.kind Sequence && is_unlimited n.limit)
pair_is n (a ▸ x ▸ nil) = and_yes (same_kind n.kind Sequence && is_unlimited n.limit) ∙ and_is (same_kind n.kind Sequence) (is_unlimited n.limit)
  where
    and_yes : (x : Bool) → (x && true) ≡ x
    and_yes true = refl
    and_yes false = refl
pair_is n (a ▸ x ▸ y ▸ f) = rw (ne_eqb (suc (suc (suc (size f)))) 2 (λ e. omega arith)) (and_no (same_kind n.kind Sequence && is_unlimited n.limit))

pub pair-test : (b : List ℕ) (p : ℕ) → IsTable b → p < record_count b → {n : Node} {x y : Bool} {c : ℕ} → n ≡ first_node (drop (record_length * p) b) → x ≡ same_kind n.kind Sequence
    → y ≡ is_unlimited n.limit → c ≡ child_byte (drop (record_length * p) b) → (x && y && eqb c 2) ≡ is_pair (subtree b p)
pair-test b p s l e d u k =
    let h = here-at b s p l in
    rw (d, u, e ∙ node_at b p h, k ∙ count_at b p h, top-at b p h.here) (pair_is h.own h.kids)

pair_size : (n : Node) (f : Forest) → T (is_pair (node n f)) → size f ≡ 2
unfolding is_pair size
pair_size n nil h = absurd h
pair_size n (a ▸ nil) h = absurd h
pair_size n (a ▸ x ▸ nil) h = refl
pair_size n (a ▸ x ▸ y ▸ f) h = absurd h

-- where a pair's two children stand
pub record PairAt (b : List ℕ) (facts : List Facts) (p : ℕ) : Type 0 where
  pub inside : p + 1 < record_count b
  pub sized : p + 1 < length facts
  pub extent : extent_at facts (p + 1) ≡ records (subtree b (p + 1))
  pub first : subtree b (p + 1) ≡ first_of (subtree b p)
  pub place : p + 1 + extent_at facts (p + 1) < record_count b
  pub second : subtree b (p + 1 + extent_at facts (p + 1)) ≡ second_of (subtree b p)

module _ (b : List ℕ) (facts : List Facts) (s : Sized b facts) (p : ℕ) (l : p < record_count b) where
  pub pair-at : is_pair (subtree b p) ≡ true → PairAt b facts p
  unfolding first_of second_of head_of tail_of children
  pair-at e =
      let h = here-at b s.table p l in
      let t = top-at b p h.here in
      let w = two_at b facts s p h (pair_size h.own h.kids (is_T _ (ap is_pair (sym t) ∙ e))) in
      let are = t ∙ ap (node h.own) w.are in
      record { inside = w.inside; sized = w.sized; extent = w.extent; first = sym (ap first_of are); place = w.place; second = sym (ap second_of are) }

pub no-pair : (r : Bool) (x t : Tree) → r ≡ is_pair t → r ≡ false → false ≡ sharing x t
unfolding sharing ◌and◌
no-pair r x t e n = rw (← e, n) refl

pub pair_same : (r q : Bool) (x t u : Tree) → q ≡ is_pair t → q ≡ true → u ≡ second_of t → r ≡ same u x → r ≡ sharing x t
unfolding sharing ◌and◌
pair_same r q x t u e n w h = rw (← e, n, ← w) h

-- ---- children one after another

-- the trees from record p on are left to be looked at, of the children of the node at record i
pub record Shared (b : List ℕ) (i x p left : ℕ) : Type 0 where
  pub row : Row b p left
  pub still : all_pairs (subtree b x) (children (subtree b i)) ≡ all_pairs (subtree b x) row.trees

pub shared_start : (b : List ℕ) → IsTable b → (i x c : ℕ) → i < record_count b → c ≡ child_byte (drop (record_length * i) b) → Shared b i x (i + 1) c
unfolding children
shared_start b s i x c l e =
    let h = here-at b s i l in
    rw (e ∙ count_at b i h) (record { row = kids-row b s i h; still = ap (λ t. all_pairs (subtree b x) (children t)) (top-at b i h.here) })

module _ (b : List ℕ) (facts : List Facts) (s : Sized b facts) (i x p left : ℕ) (h : Shared b i x p left) (l : 0 < left) where
  pub shared-turn : Next b facts p left h.row
  shared-turn = next_row b facts s p left h.row l

  shared-split : all_pairs (subtree b x) (children (subtree b i)) ≡ (sharing (subtree b x) (subtree b p) and all_pairs (subtree b x) shared-turn.others.trees)
  unfolding all_pairs sharing
  shared-split = h.still ∙ ap (all_pairs (subtree b x)) shared-turn.are

  pub shared-next : (r : Bool) → r ≡ sharing (subtree b x) (subtree b p) → not r ≡ false → Shared b i x (p + extent_at facts p) (left - 1)
  unfolding ◌and◌
  shared-next r e n = record { row = shared-turn.others; still = shared-split ∙ rw (← e, not-false r n) refl }

  pub shared-not : (r : Bool) → r ≡ sharing (subtree b x) (subtree b p) → not r ≡ true → false ≡ all_pairs (subtree b x) (children (subtree b i))
  unfolding ◌and◌
  shared-not r e n = sym (shared-split ∙ rw (← e, not-true r n) refl)

pub shared-all : (b : List ℕ) (i x p left : ℕ) → Shared b i x p left → left ≤ 0 → true ≡ all_pairs (subtree b x) (children (subtree b i))
unfolding all_pairs
shared-all b i x p left h l = sym (h.still ∙ rw (row-end h.row l) refl)

-- ---- all children share, where none is found that does not

other-than : (x : Tree) (f : Forest) → any (λ t. not (sharing x t)) f ≡ not (all_pairs x f)
unfolding any all_pairs sharing
other-than x nil = refl
other-than x (t ▸ f) = go (is_pair t and same (second_of t) x) (all_pairs x f) (other-than x f)
  where
    go : (p q : Bool) {r : Bool} → r ≡ not q → (not p || r) ≡ not (p and q)
    go true q e = unfold ◌and◌ in e
    go false q e = unfold ◌and◌ in refl

some-found : (t : Bool) (n : ℕ) → is_some {T = ℕ} (cond t (Some n) None) ≡ t
some-found true n = refl
some-found false n = refl

not-not : (t : Bool) → not (not t) ≡ t
not-not true = refl
not-not false = refl

pub all-by : (b : List ℕ) → IsTable b → (i x : ℕ) → i < record_count b → {o : Maybe ℕ} {r : Bool} → o ≡ child_at (λ t. not (sharing (subtree b x) t)) i (trees_at b i) → is_some o ≡ not r
    → r ≡ all_pairs (subtree b x) (children (subtree b i))
unfolding child_at children
all-by b s i x l {r = r} e k =
    let h = here-at b s i l in
    let q = λ (t : Tree). not (sharing (subtree b x) t) in
    sym (not-not r)
    ∙ ap not (sym k ∙ ap is_some (e ∙ ap (child_at q i) h.here) ∙ some-found (any q h.kids) _ ∙ other-than (subtree b x) h.kids)
    ∙ not-not (all_pairs (subtree b x) h.kids) ∙ sym (ap (λ t. all_pairs (subtree b x) (children t)) (top-at b i h.here))

-- ---- where rule 8 fits

no-fit : (x : Bool) (n : ℕ) (c d : Bool) → (not x || ltb n 2) ≡ true → (x and (leb 2 n and c and d)) ≡ false
unfolding ◌and◌
no-fit true n c d e = rw (lt-leb 2 n (ltb-true n 2 e)) refl
no-fit false n c d e = refl

some_fit : (x : Bool) (n : ℕ) → (not x || ltb n 2) ≡ false → (x ≡ true) × (2 ≤ n)
some_fit true n e = (refl, ltb-false n 2 e)
some_fit false n e = absurd (subst T e tt)

-- the test of the first record: not a choice, or of fewer than two children
abbrev pub other : List ℕ → ℕ → Bool
other b i = let p = drop (record_length * i) b in not (same_kind (first_node p).kind Choice) || ltb (child_byte p) 2

pub other-read : (b : List ℕ) (i : ℕ) {n : Node} {x : Bool} {c : ℕ} → n ≡ first_node (drop (record_length * i) b) → x ≡ not (same_kind n.kind Choice) → c ≡ child_byte (drop (record_length * i) b)
    → (x || ltb c 2) ≡ other b i
other-read b i e d k = rw (d, e, k) refl

other-is : (b : List ℕ) (i : ℕ) (h : Here b i) → other b i ≡ (not (same_kind h.own.kind Choice) || ltb (size h.kids) 2)
other-is b i h = rw (node_at b i h, count_at b i h) refl

other-shared : (i : ℕ) (n : Node) (f g : Forest) → (not (same_kind n.kind Choice) || ltb (size f) 2) ≡ true → None ≡ shared_at i (node n f ▸ g)
unfolding shared_at shares
other-shared i n f g e = rw (no-fit (same_kind n.kind Choice) (size f) (closed (second_of (head_of f)) 0) (all_pairs (second_of (head_of f)) f) e) refl

pub no-choice : (b : List ℕ) → IsTable b → (i : ℕ) → i < record_count b → other b i ≡ true → None ≡ shared_at i (trees_at b i)
no-choice b s i l e =
    let h = here-at b s i l in
    rw h.here (other-shared i h.own h.kids h.later (sym (other-is b i h) ∙ e))

-- a choice of at least two children, of which the first stands at record i + 1
pub record ChoiceAt (b : List ℕ) (i : ℕ) : Type 0 where
  pub others : Forest
  pub inside : i + 1 < record_count b
  pub are : children (subtree b i) ≡ subtree b (i + 1) ▸ others
  pub shared : shared_at i (trees_at b i) ≡ cond (closed (second_of (subtree b (i + 1))) 0 and all_pairs (second_of (subtree b (i + 1))) (children (subtree b i)))
      (Some (i + 2 + records (first_of (subtree b (i + 1))))) None

choice-shared : (i : ℕ) (n : Node) (t : Tree) (f g : Forest) → same_kind n.kind Choice ≡ true → leb 2 (size (t ▸ f)) ≡ true
    → shared_at i (node n (t ▸ f) ▸ g) ≡ cond (closed (second_of t) 0 and all_pairs (second_of t) (t ▸ f)) (Some (i + 2 + records (first_of t))) None
unfolding shared_at shares head_of ◌and◌
choice-shared i n t f g k l = rw (k, l) refl

pub choice-at : (b : List ℕ) (facts : List Facts) → Sized b facts → (i : ℕ) → i < record_count b → other b i ≡ false → ChoiceAt b i
unfolding children
choice-at b facts s i l e =
    let h = here-at b s.table i l in
    let (k, two) = some_fit (same_kind h.own.kind Choice) (size h.kids) (sym (other-is b i h) ∙ e) in
    let n = next_row b facts s (i + 1) (size h.kids) (kids-row b s.table i h) (omega arith) in
    let others = n.others.trees in
    let kids : children (subtree b i) ≡ h.kids = ap children (top-at b i h.here) in
    let many : leb 2 (size (subtree b (i + 1) ▸ others)) ≡ true = ap (λ f. leb 2 (size f)) (sym n.are) ∙ le-leb 2 (size h.kids) two in
    record {
      others = others;
      inside = n.inside;
      are = kids ∙ n.are;
      shared = ap (shared_at i) (h.here ∙ ap (λ f. node h.own f ▸ h.later) n.are) ∙ choice-shared i h.own (subtree b (i + 1)) others h.later k many
          ∙ ap (λ f. cond (closed (second_of (subtree b (i + 1))) 0 and all_pairs (second_of (subtree b (i + 1))) f) (Some (i + 2 + records (first_of (subtree b (i + 1))))) None) (sym (kids ∙ n.are));
    }

first-other : (x t : Tree) (f : Forest) → is_pair t ≡ false → all_pairs x (t ▸ f) ≡ false
unfolding all_pairs ◌and◌
first-other x t f e = rw e refl

pub first-no-pair : {b : List ℕ} {i : ℕ} (x : ChoiceAt b i) (r : Bool) → r ≡ is_pair (subtree b (i + 1)) → r ≡ false → None ≡ shared_at i (trees_at b i)
first-no-pair {b} {i} x r e n =
    let t = subtree b (i + 1) in
    let first = first-other (second_of t) t x.others (sym e ∙ n) in
    let none : all_pairs (second_of t) (children (subtree b i)) ≡ false = ap (all_pairs (second_of t)) x.are ∙ first in
    sym (x.shared ∙ rw (none, and-false (closed (second_of t) 0)) refl)

-- by what is kept of the second child
module _ (b : List ℕ) (facts : List Facts) (s : Surveyed b facts) (i : ℕ) (x : ChoiceAt b i) (w : PairAt b facts (i + 1)) where
  abbrev pub second : ℕ
  second = i + 1 + 1 + extent_at facts (i + 1 + 1)

  shared-by : shared_at i (trees_at b i) ≡ cond (eqb ((fact_at facts second).reach) 0 and all_pairs (subtree b second) (children (subtree b i))) (Some second) None
  shared-by =
      let t = subtree b (i + 1) in
      let r : (fact_at facts second).reach ≡ reach (subtree b second) = ap (λ f. f.reach) (s.each second w.place) in
      let whole = subtree-sound b s.table second w.place in
      let c : closed (subtree b second) 0 ≡ eqb ((fact_at facts second).reach) 0 = closed_at (subtree b second) whole ∙ sym (zero_is (reach (subtree b second))) ∙ ap (λ n. eqb n 0) (sym r) in
      let p : i + 2 + records (first_of t) ≡ second = omega (arith, w.extent, ap records w.first) in
      x.shared ∙ rw (← w.second, c, p) refl

  pub second-open : ((fact_at facts second).reach ≡ 0 → ⊥) → None ≡ shared_at i (trees_at b i)
  unfolding ◌and◌
  second-open e = sym (shared-by ∙ rw (ne_eqb ((fact_at facts second).reach) 0 e) refl)

  second-by : (r : Bool) → (fact_at facts second).reach ≡ 0 → r ≡ all_pairs (subtree b second) (children (subtree b i)) → cond {A = Maybe ℕ} r (Some second) None ≡ shared_at i (trees_at b i)
  unfolding ◌and◌
  second-by r e f = sym (shared-by ∙ rw (eq-eqb ((fact_at facts second).reach) 0 e, ← f) refl)

  pub second-shared : (r : Bool) → (fact_at facts second).reach ≡ 0 → r ≡ all_pairs (subtree b second) (children (subtree b i)) → r ≡ true → Some second ≡ shared_at i (trees_at b i)
  second-shared r e f t = ap (λ x. cond {A = Maybe ℕ} x (Some second) None) (sym t) ∙ second-by r e f

  pub second-other : (r : Bool) → (fact_at facts second).reach ≡ 0 → r ≡ all_pairs (subtree b second) (children (subtree b i)) → r ≡ false → None ≡ shared_at i (trees_at b i)
  second-other r e f t = ap (λ x. cond {A = Maybe ℕ} x (Some second) None) (sym t) ∙ second-by r e f

-- ---- the first children copied

pub record Copying (b : List ℕ) (p n at : ℕ) (o : List ℕ) (q m to : ℕ) (out : List ℕ) : Type 0 where
  pub row : Row b q m
  pub pairs : T (pairs row.trees)
  pub long : length out ≡ length o
  pub room : record_length * (to + records_in (firsts row.trees)) ≤ length out
  pub total : to + records_in (firsts row.trees) ≡ at + records_in (firsts_at b p n)
  pub bytes : front to out ++ encodes (firsts row.trees) ≡ front at o ++ encodes (firsts_at b p n)

firsts-are : (b : List ℕ) (p n : ℕ) (f g : Forest) → trees_at b p ≡ f ⧺ g → size f ≡ n → firsts_at b p n ≡ firsts f
firsts-are b p n f g e c = rw (e, ← c, first-⧺ f g) refl

pub copying-none : (b : List ℕ) → IsTable b → (p n at : ℕ) (o : List ℕ) → PairsAt b p n → RoomFor at (firsts_at b p n) o → Copying b p n at o p n at o
copying-none b s p n at o h l =
    let e = firsts-are b p n h.row h.later h.stand h.count in
    record {
      row = record { trees = h.row; later = h.later; row = h.stand; many = h.count; last = omega (arith, row_last b s p h.row h.later h.stand, h.count) };
      pairs = h.pairs;
      long = refl;
      room = rw (← e) l;
      total = ap (λ f. at + records_in f) (sym e);
      bytes = ap (λ f. front at o ++ encodes f) (sym e);
    }

-- the pair at record q, its children, and where the next one stands
pub record TurnAt (b : List ℕ) (facts : List Facts) (q m : ℕ) (row : Row b q m) : Type 0 where
  pub next : Next b facts q m row
  pub pair : PairAt b facts q
  pub rest : T (pairs next.others.trees)

first-pair : (t : Tree) (f : Forest) → T (pairs (t ▸ f)) → T (is_pair t) × T (pairs f)
unfolding pairs
first-pair t f h = both _ _ h

module _ (b : List ℕ) (facts : List Facts) (s : Sized b facts) (p n at : ℕ) (o : List ℕ) (q m to : ℕ) (out : List ℕ) (h : Copying b p n at o q m to out) (l : 0 < m) where
  pub copying-turn : TurnAt b facts q m h.row
  copying-turn =
      let w = next_row b facts s q m h.row l in
      let (x, y) = first-pair (subtree b q) w.others.trees (subst (λ f. T (pairs f)) w.are h.pairs) in
      record { next = w; pair = pair-at b facts s q w.inside (T-is _ x); rest = y }

  abbrev left : Forest
  left = firsts copying-turn.next.others.trees

  firsts-row : firsts h.row.trees ≡ subtree b (q + 1) ▸ left
  unfolding firsts
  firsts-row = ap firsts copying-turn.next.are ∙ ap (λ t. t ▸ left) (sym copying-turn.pair.first)

  firsts-records : records_in (firsts h.row.trees) ≡ extent_at facts (q + 1) + records_in left
  unfolding records_in
  firsts-records = ap records_in firsts-row ∙ ap (λ k. k + records_in left) (sym copying-turn.pair.extent)

  firsts-bytes : encodes (firsts h.row.trees) ≡ slice b (q + 1) (extent_at facts (q + 1)) ++ encodes left
  unfolding encodes
  firsts-bytes =
      let w = copying-turn.pair in
      let e : slice b (q + 1) (extent_at facts (q + 1)) ≡ encode (subtree b (q + 1)) = ap (slice b (q + 1)) w.extent ∙ subtree-bytes b s.table (q + 1) w.inside in
      ap encodes firsts-row ∙ ap (λ k. k ++ encodes left) (sym e)

  pub copying-room : (record_length * (q + 1 + extent_at facts (q + 1)) ≤ length b) × (record_length * (to + extent_at facts (q + 1)) ≤ length out)
  copying-room = omega (arith, copying-turn.pair.place, length-is b s.table, h.room, firsts-records)

  pub copying-next : (r : ℕ) (new : List ℕ) → length new ≡ length out → r ≡ to + extent_at facts (q + 1) → front r new ≡ front to out ++ slice b (q + 1) (extent_at facts (q + 1))
      → (fewer : ℕ) → fewer ≡ m - 1
      → Copying b p n at o (q + extent_at facts q) fewer r new
  copying-next r new same e w fewer d = rw d (record {
    row = copying-turn.next.others;
    pairs = copying-turn.rest;
    long = same ∙ h.long;
    room = omega (arith, h.room, firsts-records);
    total = omega (arith, h.total, firsts-records);
    bytes = ap (λ k. k ++ encodes left) w ∙ append_assoc (front to out) _ _ ∙ ap (λ k. front to out ++ k) (sym firsts-bytes) ∙ h.bytes;
  })

pub copying-all : (b : List ℕ) (p n at : ℕ) (o : List ℕ) (q m to : ℕ) (out : List ℕ) → Copying b p n at o q m to out → m ≤ 0
    → RowAppended at o (firsts_at b p n) to out
unfolding firsts records_in encodes
copying-all b p n at o q m to out h l =
    let e = row-end h.row l in
    let z : records_in (firsts h.row.trees) ≡ 0 = ap (λ f. records_in (firsts f)) e in
    let y : encodes (firsts h.row.trees) ≡ [] = ap (λ f. encodes (firsts f)) e in
    (omega (arith, h.total), sym (append-nil (front to out)) ∙ ap (λ k. front to out ++ k) (sym y) ∙ h.bytes)

-- ---- the two records on top

pub tops-written : (b : List ℕ) → IsTable b → (i : ℕ) → i < record_count b → (n : Node) (c r q : ℕ) (new out : List ℕ) → n ≡ first_node (drop (record_length * i) b) → c ≡ child_byte (drop (record_length * i) b)
    → r ≡ 0 + 1 → front r new ≡ record_bytes (node_of Sequence n.limit n.address) 2
    → q ≡ r + 1 → front q out ≡ front r new ++ record_bytes (node_of Choice Unlimited 0) c
    → (q ≡ 2) × (front q out ≡ top_bytes (subtree b i))
unfolding limit_of address_of children
tops-written b s i l n c r q new out m k e f g w =
    let h = here-at b s i l in
    let own : n ≡ h.own = m ∙ node_at b i h in
    (omega arith, w ∙ rw (f, own, k ∙ count_at b i h, top-at b i h.here) refl)

-- ---- the whole rewrite

firsts-size : (f : Forest) → size (firsts f) ≡ size f
unfolding firsts size
firsts-size nil = refl
firsts-size (t ▸ f) = ap suc (firsts-size f)

all-are-pairs : (x : Tree) (f : Forest) → T (all_pairs x f) → T (pairs f)
unfolding all_pairs pairs
all-are-pairs x nil h = tt
all-are-pairs x (t ▸ f) h = let (p, q) = both _ _ h in join-and _ _ (both _ _ p).0 (all-are-pairs x f q)

pair-records : (t : Tree) → T (is_pair t) → records t ≡ suc (records (first_of t) + records (second_of t))
unfolding is_pair records records_in first_of second_of head_of tail_of children
pair-records (node n nil) h = absurd h
pair-records (node n (a ▸ nil)) h = absurd h
pair-records (node n (a ▸ x ▸ nil)) h = omega arith
pair-records (node n (a ▸ x ▸ y ▸ f)) h = absurd h

fewer-records : (f : Forest) → T (pairs f) → size f + records_in (firsts f) ≤ records_in f
unfolding pairs size records_in firsts
fewer-records nil h = omega arith
fewer-records (t ▸ f) h = let (p, q) = both _ _ h in omega (arith, pair-records t p, fewer-records f q)

shared-records : (f : Forest) → T (pairs f) → 2 ≤ size f → 2 + records_in (firsts f) + records (second_of (head_of f)) ≤ records_in f
unfolding pairs size records_in firsts head_of
shared-records nil h l = absurd (omega arith)
shared-records (t ▸ f) h l = let (p, q) = both _ _ h in omega (arith, pair-records t p, fewer-records f q)

-- rule 8 fits the node at record i, and x is the record of the shared child
pub record FitsAt (b : List ℕ) (facts : List Facts) (i x : ℕ) : Type 0 where
  pub table : IsTable b
  pub at : i < record_count b
  pub own : Node
  pub kids : Forest
  pub later : Forest
  pub node : subtree b i ≡ node own kids
  pub next : trees_at b (i + 1) ≡ kids ⧺ later
  pub becomes : rule_at rule8 (trees_at b i) ≡ some (shared_out own.limit own.address kids ▸ later)
  pub pairs : T (pairs kids)
  pub inside : x < record_count b
  pub sized : x < length facts
  pub size : extent_at facts x ≡ records (second_of (head_of kids))
  pub stand : subtree b x ≡ second_of (head_of kids)
  pub inner : x + extent_at facts x ≤ record_count b
  pub within : i + extent_at facts i ≤ record_count b
  pub from : trees_at b (i + extent_at facts i) ≡ later
  pub small : 2 + records_in (firsts kids) + extent_at facts x + (record_count b - (i + extent_at facts i)) ≤ record_count b

abbrev fit : Node → Forest → Bool
fit n f = same_kind n.kind Choice and shares f

fit_is : (b : List ℕ) (i : ℕ) (h : Here b i) → shared_at i (trees_at b i) ≡ cond (fit h.own h.kids) (Some (i + 2 + records (first_of (head_of h.kids)))) None
unfolding shared_at
fit_is b i h = ap (shared_at i) h.here

fit_none : (n : Node) (f : Forest) → fit n f ≡ false → rule8 n f ≡ none
unfolding rule8 when
fit_none n f e = rw e refl

pub no_sharing : (b : List ℕ) → IsTable b → (i : ℕ) (out : List ℕ) → i < record_count b → None ≡ shared_at i (trees_at b i) → Wrote (rule_at rule8 (trees_at b i)) None out
no_sharing b s i out l e =
    let h = here-at b s i l in
    unfit-at b s i l rule8 out (fit_none h.own h.kids (none-no (fit h.own h.kids) _ (e ∙ fit_is b i h)))

fit-becomes : (n : Node) (f g : Forest) → fit n f ≡ true → rule_at rule8 (node n f ▸ g) ≡ some (shared_out n.limit n.address f ▸ g)
unfolding rule_at rule8 when also
fit-becomes n f g e = rw e refl

fit_parts : (n : Node) (f : Forest) → fit n f ≡ true → (2 ≤ size f) × T (all_pairs (second_of (head_of f)) f)
unfolding shares
fit_parts n f e =
    let (k, s) = both (same_kind n.kind Choice) (shares f) (is_T _ e) in
    let (p, q) = both _ _ s in
    (leb→le 2 (size f) (both _ _ p).0, q)

module _ (b : List ℕ) (facts : List Facts) (s : Sized b facts) (i x : ℕ) (l : i < record_count b) where
  sim : IsTable b
  sim = s.table

  fits-from : (h : Here b i) → fit h.own h.kids ≡ true → x ≡ i + 2 + records (first_of (head_of h.kids)) → Next b facts (i + 1) (size h.kids) (kids-row b sim i h) → FitsAt b facts i x
  unfolding head_of records_in ◌⧺◌ records size
  fits-from h e p n =
      let t = subtree b (i + 1) in
      let (two, all) = fit_parts h.own h.kids e in
      let ps : T (pairs h.kids) = all-are-pairs _ h.kids all in
      let ps₁ : T (pairs (t ▸ n.others.trees)) = subst (λ f. T (pairs f)) n.are ps in
      let (one, rest) = first-pair t n.others.trees ps₁ in
      let w = pair-at b facts s (i + 1) n.inside (T-is _ one) in
      let head : head_of h.kids ≡ t = ap head_of n.are in
      let place : i + 1 + 1 + extent_at facts (i + 1 + 1) ≡ x = omega (arith, w.extent, ap records (w.first ∙ ap first_of (sym head))) in
      let inside : x < record_count b = rw (← place) w.place in
      let stand : subtree b x ≡ second_of (head_of h.kids) = ap (subtree b) (sym place) ∙ w.second ∙ ap second_of (sym head) in
      let whole : subtree b i ≡ node h.own h.kids = top-at b i h.here in
      let long = node-extent b facts s i l h in
      let (past, within) = past-node b facts s i l h in
      let count = records-at b sim i in
      let all : records_in (trees_at b i) ≡ suc (records_in h.kids) + records_in h.later = ap records_in h.here in
      let size : extent_at facts x ≡ records (second_of (head_of h.kids)) = s.each x inside ∙ ap records stand in
      let few : 2 + records_in (firsts h.kids) + records (second_of (head_of h.kids)) ≤ records_in h.kids = shared-records h.kids ps two in
      record {
        table = sim;
        at = l;
        own = h.own;
        kids = h.kids;
        later = h.later;
        node = whole;
        next = h.next;
        becomes = ap (rule_at rule8) h.here ∙ fit-becomes h.own h.kids h.later e;
        pairs = ps;
        inside = inside;
        sized = omega (arith, s.room);
        size = size;
        stand = stand;
        inner = past-inside b facts s x inside;
        within = within;
        from = past;
        small = omega arith;
      }

  pub fits-at : Some x ≡ shared_at i (trees_at b i) → FitsAt b facts i x
  fits-at e =
      let h = here-at b sim i l in
      let (f, p) = some-yes (fit h.own h.kids) _ (e ∙ fit_is b i h) in
      fits-from h f p (next_row b facts s (i + 1) (size h.kids) (kids-row b sim i h) (omega (arith, (fit_parts h.own h.kids f).0)))

module _ {b : List ℕ} {facts : List Facts} {i x : ℕ} (w : FitsAt b facts i x) (c : ℕ) (e : c ≡ child_byte (drop (record_length * i) b)) where
  count-is : size w.kids ≡ c
  unfolding children
  count-is =
      let h = here-at b w.table i w.at in
      ap (λ t. size (children t)) (sym w.node ∙ top-at b i h.here) ∙ sym (e ∙ count_at b i h)

  pub fits-pairs : PairsAt b (i + 1) c
  fits-pairs = record { row = w.kids; later = w.later; stand = w.next; count = count-is; pairs = w.pairs }

  pub fits-firsts : firsts_at b (i + 1) c ≡ firsts w.kids
  fits-firsts = firsts-are b (i + 1) c w.kids w.later w.next count-is

shared-bytes : (l : Limit) (a : ℕ) (f g : Forest)
    → encodes (shared_out l a f ▸ g) ≡ record_bytes (node_of Sequence l a) 2 ++ (record_bytes (node_of Choice Unlimited 0) (size f) ++ (encodes (firsts f) ++ (encode (second_of (head_of f)) ++ encodes g)))
unfolding shared_out encode encodes size
shared-bytes l a f g = rw (firsts-size f) (simp (append_assoc, append-nil))

shared-count : (l : Limit) (a : ℕ) (f g : Forest) → records_in (shared_out l a f ▸ g) ≡ 2 + records_in (firsts f) + records (second_of (head_of f)) + records_in g
unfolding shared_out records records_in
shared-count l a f g = omega arith

pub sharing-written : {b : List ℕ} {facts : List Facts} {i x : ℕ} (w : FitsAt b facts i x) (c : ℕ) → c ≡ child_byte (drop (record_length * i) b) → (p q r z : ℕ) (o₁ o₂ o₃ out : List ℕ)
    → p ≡ 2 → front p o₁ ≡ top_bytes (subtree b i)
    → q ≡ p + records_in (firsts_at b (i + 1) c) → front q o₂ ≡ front p o₁ ++ encodes (firsts_at b (i + 1) c)
    → r ≡ q + extent_at facts x → front r o₃ ≡ front q o₂ ++ slice b x (extent_at facts x)
    → let from = i + extent_at facts i in z ≡ r + (record_count b - from) → front z out ≡ front r o₃ ++ slice b from (record_count b - from)
    → Wrote (rule_at rule8 (trees_at b i)) (Some z) out
unfolding Wrote limit_of address_of children
sharing-written {b} {facts} {i} {x} w c e p q r z o₁ o₂ o₃ out a₁ b₁ a₂ b₂ a₃ b₃ a₄ b₄ =
    let s = w.table in
    let n = record_count b - (i + extent_at facts i) in
    let f = w.kids in
    let g = w.later in
    let l = w.own.limit in
    let a = w.own.address in
    let first : firsts_at b (i + 1) c ≡ firsts f = fits-firsts w c e in
    let second : slice b x (extent_at facts x) ≡ encode (second_of (head_of f)) = rw (w.size, ← w.stand) (subtree-bytes b s x w.inside) in
    let last : slice b (i + extent_at facts i) n ≡ encodes g = tail_at b s (i + extent_at facts i) ∙ ap encodes w.from in
    let tops : top_bytes (subtree b i) ≡ record_bytes (node_of Sequence l a) 2 ++ record_bytes (node_of Choice Unlimited 0) (size f) = ap top_bytes w.node in
    let left : records_in g ≡ n = ap records_in (sym w.from) ∙ records-at b s (i + extent_at facts i) in
    wrote_as (Some z) out w.becomes (
      omega (arith, shared-count l a f g, ap records_in first, w.size),
      b₄ ∙ rw (b₃, b₂, b₁, first, second, last, tops, shared-bytes l a f g) (simp append_assoc),
    )
