-- The pass over a table that finds the facts of every record, from the last to the first.
use Rattle.std.specs.Prelude.{◌≡◌, Bool, true, ◌&&◌, List, ℕ, ◌+◌, ◌*◌, ◌-◌, ◌<◌, ◌≤◌, max, zero, suc, T, eqb, ltb, drop, set}
use Rattle.std.proofs.Math.Path.{refl, ap, sym}
use Rattle.std.proofs.Common.{cond, subst, ◌∙◌, add-one, ltb-false, ltb-true, ne_eqb}
use Rattle.std.proofs.Math.Bool.{false}
use native.Mathlib.Omega.{arith}
use Rattle.std.proofs.Math.ListN.{length}
use Rattle.std.proofs.Math.Seq.{get_or-set_other, get_or-set_same}
use Rattle.booleans.specs.Laws.{and_is, both}
use Rattle.booleans.specs.Tests.{◌and◌}
use Rattle.table.specs.Numbers.{most_records, record_length}
use Rattle.table.specs.Table.{child_byte, first_node, flag, flagless, limit_num, loop_byte, record_bytes, record_count, value_num, most_flags}
use Rattle.table.specs.Questions.{limit_in_range, listed}
use Rattle.table.specs.Trees.{Forest, Tree, node, ◌▸◌, records, records_in}
use Rattle.evaluate.specs.Closed.{is_plain, plain_kind, plain_limit, symbol_free, symbol_free_in, plain_most}
use Rattle.evaluate.specs.Evaluate.{inner, name, name_in}
use Rattle.subtrees.specs.Nodes.{AtMost, Block, Choice, Kind, Limit, Loop, Node, Number, Plain, Sequence, Symbol, Unlimited, Most}
use Rattle.subtrees.specs.Facts.{Known, Moved, Outdated, Own, OwnBefore, SameFacts, Surveyed, Unchanged, below_at, below_of, child_in, extent_at, fact_at, facts_of, is_loop, limited_name, no_child, paired_reach, reach, reach_below, reach_in, symbols, symbols_in}
use Rattle.subtrees.specs.declared.Facts.{Facts}
use Rattle.table.specs.Checking.{IsTable}
use Rattle.subtrees.specs.Parts.{subtree, trees_at}
use Rattle.subtrees.specs.declared.Below.{Below}
use Rattle.subtrees.specs.Laws.Facts.{all-children, limit-byte, more_children}
use Rattle.table.proofs.Laws.Tables.{few-records}
use Rattle.subtrees.specs.Laws.Parts.{First, Here, Row, first-row, here-at, kids-row, records-at, row-end, top-at}
use Rattle.subtrees.specs.Laws.Records.{count_at, node_at}

first-records : (n : Node) (f g : Forest) → records_in (node n f ▸ g) ≡ suc (records_in f + records_in g)
unfolding records records_in
first-records n f g = omega arith

-- ---- a node's children

-- the children left, after those found, come to all
pub record Walk (b : List ℕ) (i : ℕ) (all found : Below) (body : Bool) (left p : ℕ) : Type 0 where
  pub row : Row b p left
  pub sum : more_children body found row.trees ≡ all
  pub few : found.records + records_in row.trees ≤ most_records
  pub near : i < p

module _ (b : List ℕ) (s : IsTable b) where
  pub walk_start : (i c : ℕ) (body : Bool) (n : Node) → i < record_count b → n ≡ first_node (drop (record_length * i) b) → body ≡ is_loop n.kind → c ≡ child_byte (drop (record_length * i) b)
      → Walk b i (below_at (trees_at b i)) no_child body c (i + 1)
  unfolding below_at
  walk_start i c body n l r e q =
      let h = here-at b s i l in
      let loop : body ≡ is_loop h.own.kind = e ∙ ap (λ m. is_loop m.kind) (r ∙ node_at b i h) in
      rw (q ∙ count_at b i h, loop) (record {
        row = kids-row b s i h;
        sum = all-children h.own.kind h.kids ∙ sym (ap below_at h.here);
        few = few-kids i h;
        near = omega arith;
      })
    where
      few-kids : (i : ℕ) (h : Here b i) → no_child.records + records_in h.kids ≤ most_records
      few-kids i h = omega (arith, records-at b s i, few-records b s, ap records_in h.here, first-records h.own h.kids h.later)

  module _ (facts : List Facts) (i : ℕ) (k : Known b facts (i + 1)) (all found : Below) (body : Bool) (left p : ℕ) (w : Walk b i all found body left p) (l : 0 < left) where
    first : First b p left w.row
    first = first-row b s p left w.row l

    kept : fact_at facts p ≡ facts_of first.tree
    kept = k.each p (omega (arith, w.near)) first.start ∙ ap facts_of first.here

    size_of : extent_at facts p ≡ records first.tree
    size_of = ap (λ f. f.records) kept

    pub walk-few : found.records + extent_at facts p ≤ most_records
    unfolding records_in
    walk-few = omega (arith, w.few, size_of, ap records_in first.split)

    pub walk-past : p + extent_at facts p ≤ record_count b
    walk-past = omega (arith, size_of, first.inside)

    pub walk-next : (fewer : ℕ) → fewer ≡ left - 1 → (next : Below) → next ≡ child_in body found (fact_at facts p) → Walk b i all next false fewer (p + extent_at facts p)
    unfolding records_in more_children
    walk-next fewer d next e =
        let n : next ≡ child_in body found (facts_of first.tree) = e ∙ ap (child_in body found) kept in
        rw (d, size_of, n) (record {
          row = first.others;
          sum = sym (ap (more_children body found) first.split) ∙ w.sum;
          few = omega (arith, w.few, ap records_in first.split);
          near = omega (arith, w.near);
        })

  -- when none is left
  pub walk_end : (i : ℕ) (all found : Below) (body : Bool) (left p : ℕ) → Walk b i all found body left p → left ≤ 0 → found ≡ all
  unfolding more_children
  walk_end i all found body left p w l = sym (ap (more_children body found) (row-end w.row l)) ∙ w.sum

-- ---- the facts of the record itself

plain-flag : (m : Number) → is_plain m ≡ eqb (flag m) 0
unfolding is_plain flag
plain-flag (Plain n) = refl
plain-flag (Symbol n) = refl

plain_value : (k : Kind) → plain_kind k ≡ eqb (flag (value_num k)) 0
unfolding plain_kind value_num flag
plain_value (Block t) = plain-flag t
plain_value Sequence = refl
plain_value Choice = refl
plain_value (Loop n) = plain-flag n

plain-flags : (m : Most) → plain_most m ≡ eqb (most_flags m) 0
unfolding plain_most most_flags
plain-flags (Most.Plain n) = refl
plain-flags (Most.Symbol s) = refl
plain-flags (Most.Triangular s) = refl

plain-most : (l : Limit) → plain_limit l ≡ eqb (most_flags (limit_num l)) 0
unfolding plain_limit limit_num most_flags
plain-most Unlimited = refl
plain-most (AtMost k m) = plain-flags m

both-flags : (v s : ℕ) → (eqb v 0 and eqb s 0) ≡ eqb (v + 2 * s) 0
unfolding ◌and◌
both-flags zero zero = refl
both-flags zero (suc s) = rw (ne_eqb (suc s) 0 (omega arith), ne_eqb (0 + 2 * suc s) 0 (omega arith)) refl
both-flags (suc v) s = rw (ne_eqb (suc v) 0 (omega arith), ne_eqb (suc v + 2 * s) 0 (omega arith)) refl

-- a record with no flag
flagless-is : (b : List ℕ) (i : ℕ) (h : Here b i) → flagless (drop (record_length * i) b) ≡ (plain_kind h.own.kind and plain_limit h.own.limit)
unfolding flagless record_bytes
flagless-is b i h =
    rw (h.bytes, plain_value h.own.kind, plain-most h.own.limit) (sym (both-flags (flag (value_num h.own.kind)) (most_flags (limit_num h.own.limit))))

-- no symbol of the node, nor below it
free-of : (n : Node) (f : Forest) → ((plain_kind n.kind and plain_limit n.limit) && symbol_free_in f) ≡ symbol_free (node n f)
unfolding symbol_free
free-of n f = and_is (plain_kind n.kind and plain_limit n.limit) (symbol_free_in f)

-- a symbol of the node, or below it
symbols-of : (n : Node) (f : Forest) → cond (plain_kind n.kind and plain_limit n.limit) (symbols_in f) 1 ≡ symbols (node n f)
unfolding symbols symbols_in symbol_free
symbols-of n f = go (plain_kind n.kind and plain_limit n.limit) (symbol_free_in f)
  where
    go : (x y : Bool) → ◌≡◌ {A = ℕ} (cond x (cond y 0 1) 1) (cond (x and y) 0 1)
    go true y = unfold ◌and◌ in refl
    go false y = unfold ◌and◌ in refl

name_of : (l : Limit) (k : ℕ) → T (limit_in_range l) → limited_name (loop_byte l) k ≡ inner l k
unfolding loop_byte inner limit_in_range
name_of Unlimited k h = refl
name_of (AtMost j m) k h = rw (ne_eqb j 0 (λ e. omega (arith, limit-byte j (both _ _ h).0))) refl

-- ---- facts, written one after the other

pub put-apart : (facts : List Facts) (i : ℕ) (x : Facts) (j : ℕ) → (j ≡ i → ⊥) → fact_at (set facts i x) j ≡ fact_at facts j
put-apart facts i x j o = get_or-set_other facts i j x _ o

pub still : (facts : List Facts) (j : ℕ) → SameFacts facts j facts j
still facts j = refl

pub then_same : (e f g : List Facts) (j k l : ℕ) → SameFacts e j f k → SameFacts f k g l → SameFacts e j g l
then_same e f g j k l p q = q ∙ p

-- a tree's facts are its own wherever they stand
own-moved : (t : Tree) (facts facts' : List Facts) (j k : ℕ) → SameFacts facts j facts' k → Own t facts j → Own t facts' k
own-moved t facts facts' j k s w = s ∙ w

-- k records' facts were moved from place `from` to place `to`, and the others from there on are as they were
pub record Moving (from to k : ℕ) (facts facts' : List Facts) : Type 0 where
  pub moved : Moved from to k facts facts'
  pub before : Unchanged to facts facts'
  pub behind : (j : ℕ) → from + k ≤ j → SameFacts facts j facts' j

pub none-moved : (from to : ℕ) (facts : List Facts) → Moving from to 0 facts facts
none-moved from to facts = record { moved = λ k l. absurd (omega (arith, l)); before = λ j l. still facts j; behind = λ j l. still facts j }

-- the facts at place i, by those at place j
abbrev copy_facts : List Facts → (i j : ℕ) → List Facts
copy_facts facts i j = set facts i (fact_at facts j)

copy-there : (facts : List Facts) (i j : ℕ) → i < length facts → SameFacts facts j (copy_facts facts i j) i
copy-there facts i j l = get_or-set_same facts i _ _ l

pub one-moved : (from to k : ℕ) (facts facts' : List Facts) → to ≤ from → to + k < length facts' → Moving from to k facts facts'
    → Moving from to (k + 1) facts (copy_facts facts' (to + k) (from + k))
one-moved from to k facts facts' o l s = record {
  moved = λ j p. moved j p (ltb j k) refl;
  before = λ j p. apart j (λ d. omega (arith, d, p)) ∙ s.before j p;
  behind = λ j p. apart j (λ d. omega (arith, d, p, o)) ∙ s.behind j (omega (arith, p));
}
  where
    apart : (j : ℕ) → (j ≡ to + k → ⊥) → fact_at (copy_facts facts' (to + k) (from + k)) j ≡ fact_at facts' j
    apart j d = put-apart facts' (to + k) _ j d

    moved : (j : ℕ) → j < k + 1 → (x : Bool) → ltb j k ≡ x → fact_at (copy_facts facts' (to + k) (from + k)) (to + j) ≡ fact_at facts (from + j)
    moved j p true t = apart (to + j) (λ d. omega (arith, d, ltb-true j k t)) ∙ s.moved j (ltb-true j k t)
    moved j p false t =
        let same : j ≡ k = omega (arith, p, ltb-false j k t) in
        rw same (get_or-set_same facts' (to + k) _ _ l ∙ s.behind (from + k) (omega arith))

-- one record more
pub known_more : (b : List ℕ) (facts : List Facts) (i : ℕ) → Known b facts (i + 1) → Own (subtree b i) facts i → Known b facts i
known_more b facts i k o = record { each = λ j p q. own j p q (ltb i j) refl }
  where
    own : (j : ℕ) → i ≤ j → j < record_count b → (x : Bool) → ltb i j ≡ x → Own (subtree b j) facts j
    own j p q true t = k.each j (omega (arith, ltb-true i j t)) q
    own j p q false t = let same : j ≡ i = omega (arith, p, ltb-false i j t) in rw same o

-- all of them
pub known-all : (b : List ℕ) (facts : List Facts) → IsTable b → record_count b ≤ length facts → {i : ℕ} → i ≤ 0 → Known b facts i → Surveyed b facts
known-all b facts s room l k = record { table = s; room = room; each = λ j p. k.each j (omega (arith, l)) p }

-- where nothing changes before record i
pub before-still : (b : List ℕ) (e f : List Facts) (at n i : ℕ) → i ≤ n → Unchanged i e f → OwnBefore b e at n → OwnBefore b f at i
before-still b e f at n i o u w = λ j p q. u j p ∙ w j (omega (arith, o, p)) (omega (arith, q, ap (λ f. f.records) (u j p)))

module _ (b : List ℕ) (s : IsTable b) (i : ℕ) (l : i < record_count b) where
  h : Here b i
  h = here-at b s i l

  at_here : subtree b i ≡ node h.own h.kids
  at_here = top-at b i h.here

  come : below_at (trees_at b i) ≡ below_of h.own.kind h.kids
  unfolding below_at
  come = ap below_at h.here

  ranged : T (limit_in_range h.own.limit)
  unfolding listed
  ranged = let (p, q) = both _ _ h.sound.fair.listed in (both _ _ (both _ _ p).0).1

  -- what is kept of the record, by its node and what its children come to
  abbrev pub new_facts : Below → Facts
  new_facts c =
      let r = drop (record_length * i) b in
      let k = loop_byte (first_node r).limit in
      record {
        records = c.records + 1;
        symbol_free = flagless r && c.symbol_free;
        named = limited_name k c.named;
        reach = max (max k (paired_reach (first_node r).kind)) c.reach;
        reach_below = c.reach;
      }

  own_facts : (c : Below) → c ≡ below_at (trees_at b i) → new_facts c ≡ facts_of (subtree b i)
  unfolding records name reach reach_below
  own_facts c e = rw (e ∙ come, at_here, flagless-is b i h, node_at b i h) (λ j. record {
    records = add-one (records_in h.kids) j;
    symbol_free = free-of h.own h.kids j;
    named = name_of h.own.limit (name_in h.own.kind h.kids) ranged j;
    reach = max (max (loop_byte h.own.limit) (paired_reach h.own.kind)) (reach_in h.own.kind h.kids);
    reach_below = reach_in h.own.kind h.kids;
  })

  pub few-below : (c : Below) → c ≡ below_at (trees_at b i) → c.records + 1 ≤ most_records
  few-below c e =
      omega (arith, ap (λ x. x.records) (e ∙ come), records-at b s i, few-records b s, ap records_in h.here, first-records h.own h.kids h.later)

  pub known_next : (facts : List Facts) → record_count b ≤ length facts → Known b facts (i + 1) → (c : Below) → c ≡ below_at (trees_at b i) → Known b (set facts i (new_facts c)) i
  known_next facts room k c e =
      known_more b _ i
      (record { each = λ j p q. put-apart facts i _ j (λ d. omega (arith, p)) ∙ k.each j p q })
      (get_or-set_same facts i (new_facts c) _ (omega arith) ∙ own_facts c e)

-- ---- a table that changed

module _ (b : List ℕ) (e : List Facts) (at end rest : ℕ) (o : Outdated b e at end rest) where
  -- the last records' facts, where they stand for the table as it is now
  pub moved-known : {f : List Facts} → Moved end (record_count b - rest) rest e f → Known b f (record_count b - rest)
  moved-known {f} w = record { each = own }
    where
      own : (j : ℕ) → record_count b - rest ≤ j → j < record_count b → Own (subtree b j) f j
      own j p q =
          let k = j - (record_count b - rest) in
          let less : k < rest = omega (arith, p, q, o.changed) in
          let same : record_count b - rest + k ≡ j = omega (arith, p) in
          subst (λ i. Own (subtree b i) f i) same (w k less ∙ o.behind k less)

  pub moved_before : (f : List Facts) → Unchanged (record_count b - rest) e f → OwnBefore b f at at
  moved_before f u = before-still b e f at at at (omega arith) (λ j l. u j (omega (arith, l, o.changed))) o.before
