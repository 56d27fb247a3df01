-- A node of one child, in trees and in records: rule 3.
use Rattle.std.specs.Prelude.{◌≡◌, Bool, false, cond, List, ◌++◌, ℕ, ◌+◌, ◌*◌, ◌-◌, ◌<◌, drop, Some, None}
use Rattle.std.specs.declared.option.Option.{Option as Maybe}
use Rattle.std.proofs.Math.Path.{refl, ap, ap₂}
use Rattle.std.proofs.Common.{sym, ◌∙◌}
use Rattle.std.proofs.Math.Bool.{true}
use Rattle.std.proofs.Math.Option.{Option, none, some}
use native.Mathlib.Omega.{arith}
use Rattle.table.specs.Numbers.{record_length}
use Rattle.table.specs.Table.{child_byte, first_node, record_bytes, record_count}
use Rattle.table.specs.Trees.{Forest, Tree, nil, node, ◌▸◌, ◌⧺◌, records, records_in, size}
use Rattle.evaluate.specs.Closed.{is_unlimited}
use Rattle.simplify.specs.Rules.{alone, is_sum, limit_of, relimit, rule3, when}
use Rattle.simplify.specs.Steps.{also}
use Rattle.table.specs.Checking.{IsTable}
use Rattle.subtrees.specs.Parts.{trees_at}
use Rattle.subtrees.specs.Laws.Parts.{first-row, kids-row, records-at, row-bytes, tail_at}
use Rattle.subtrees.specs.Laws.Records.{count_at, node_at}
use Rattle.rules2to7.specs.Nodes.{Limit, Node}
use Rattle.rules2to7.specs.Children.{relimited}
use Rattle.writing.specs.Records.{front, node_of, slice}
use Rattle.rewrite.specs.Wrote.{Wrote, rule_at}
use Rattle.rewrite.specs.Laws.Records.{is-sum-at, it, own-test, rest-written, rule-at, unfit-at, wrote_as, wrote_none}

-- ---- the rule

pub rule3-no-sum : (n : Node) (f : Forest) → is_sum n.kind ≡ false → rule3 n f ≡ none
unfolding rule3
rule3-no-sum n f e = rw e refl

either-none : (x : Bool) {o : Option Tree} → o ≡ none → cond x o none ≡ none
either-none true e = e
either-none false e = refl

alone-many : (l : Limit) (f : Forest) → (size f ≡ 1 → ⊥) → alone l f ≡ none
unfolding alone size
alone-many l nil z = refl
alone-many l (t ▸ nil) z = absurd (z refl)
alone-many l (t ▸ u ▸ f) z = refl

rule3-many : (n : Node) (f : Forest) → (size f ≡ 1 → ⊥) → rule3 n f ≡ none
unfolding rule3
rule3-many n f z = either-none (is_sum n.kind) (alone-many n.limit f z)

-- the one child stands where the children do
rule3-bare : (n : Node) (f g : Forest) → is_sum n.kind ≡ true → size f ≡ 1 → is_unlimited n.limit ≡ true → also (λ (t : Tree). t ▸ g) (rule3 n f) ≡ some (f ⧺ g)
unfolding rule3 alone size also ◌⧺◌
rule3-bare n nil g e o d = absurd (omega arith)
rule3-bare n (t ▸ nil) g e o d = rw (e, d) refl
rule3-bare n (t ▸ u ▸ f) g e o d = absurd (omega arith)

also-when : (x : Bool) (t : Tree) (g : Forest) → also (λ (u : Tree). u ▸ g) (when x t) ≡ cond x (some (t ▸ g)) none
unfolding also when
also-when true t g = refl
also-when false t g = refl

rule3-limited : (n : Node) (f g : Forest) → is_sum n.kind ≡ true → size f ≡ 1 → is_unlimited n.limit ≡ false
    → also (λ (t : Tree). t ▸ g) (rule3 n f) ≡ relimited n.limit (f ⧺ g)
unfolding rule3 alone size relimited ◌⧺◌
rule3-limited n nil g e o d = absurd (omega arith)
rule3-limited n (t ▸ nil) g e o d = rw (e, d) (also-when (is_unlimited (limit_of t)) (relimit n.limit t) g)
rule3-limited n (t ▸ u ▸ f) g e o d = absurd (omega arith)

-- ---- in a table's records

module _ (b : List ℕ) (s : IsTable b) (p : ℕ) (l : p < record_count b) where
  relimit-is : (m : Limit) (x : Bool) → is_unlimited (it b s p l).own.limit ≡ x
      → relimited m (trees_at b p) ≡ cond x (some (node (node_of (it b s p l).own.kind m (it b s p l).own.address) (it b s p l).kids ▸ (it b s p l).later)) none
  unfolding relimited limit_of relimit
  relimit-is m x e = ap (relimited m) (it b s p l).here ∙ rw e refl

  limitless : {n : Node} {x : Bool} → n ≡ first_node (drop (record_length * p) b) → x ≡ is_unlimited n.limit → is_unlimited (it b s p l).own.limit ≡ x
  limitless e d = own-test b s p l (λ (k : Node). is_unlimited k.limit) e d

  pub limited : (m : Limit) (out : List ℕ) {n : Node} {x : Bool} → n ≡ first_node (drop (record_length * p) b) → x ≡ is_unlimited n.limit → x ≡ false
      → Wrote (relimited m (trees_at b p)) None out
  limited m out {x = x} e d t = wrote_none _ out (relimit-is m false (limitless e d ∙ t))

  pub unlimited : (m : Limit) (out : List ℕ) {n : Node} {x : Bool} {r : ℕ} {y : List ℕ} → n ≡ first_node (drop (record_length * p) b)
      → x ≡ is_unlimited n.limit → x ≡ true → r ≡ 1 + (record_count b - (p + 1)) → y ≡ record_bytes (node_of n.kind m n.address) (child_byte (drop (record_length * p) b))
      → front r out ≡ y ++ slice b (p + 1) (record_count b - (p + 1)) → Wrote (relimited m (trees_at b p)) (Some r) out
  unfolding Wrote records records_in
  unlimited m out {n} {x} {r} {y} e d t k f g =
      let h = it b s p l in
      let many = records-at b s p in
      let row = ap records_in h.here in
      let top : y ≡ record_bytes (node_of h.own.kind m h.own.address) (size h.kids) =
      f ∙ ap₂ (λ (z : Node) (j : ℕ). record_bytes (node_of z.kind m z.address) j) (e ∙ node_at b p h) (count_at b p h) in
      wrote_as
      (Some r)
      out
      (relimit-is m true (limitless e d ∙ t))
      (omega arith, g ∙ rw (top, tail_at b s (p + 1), h.next) (sym (row-bytes (node_of h.own.kind m h.own.address) h.kids h.later)))

module _ (b : List ℕ) (s : IsTable b) (i : ℕ) (l : i < record_count b) where
  pub many-children : (out : List ℕ) {c : ℕ} → c ≡ child_byte (drop (record_length * i) b) → (c ≡ 1 → ⊥) → Wrote (rule_at rule3 (trees_at b i)) None out
  many-children out d z =
      let h = it b s i l in
      unfit-at b s i l rule3 out (rule3-many h.own h.kids (λ (o : size h.kids ≡ 1). z (d ∙ count_at b i h ∙ o)))

  one-child : {c : ℕ} → c ≡ child_byte (drop (record_length * i) b) → c ≡ 1 → size (it b s i l).kids ≡ 1
  one-child d o = sym (count_at b i (it b s i l)) ∙ sym d ∙ o

  pub child-inside : {c : ℕ} → c ≡ child_byte (drop (record_length * i) b) → c ≡ 1 → i + 1 < record_count b
  child-inside d o = let h = it b s i l in (first-row b s (i + 1) (size h.kids) (kids-row b s i h) (omega (arith, one-child d o))).start

  rule3-row : rule_at rule3 (trees_at b i) ≡ also (λ (t : Tree). t ▸ (it b s i l).later) (rule3 (it b s i l).own (it b s i l).kids)
  rule3-row = rule-at b s i l rule3 _ refl

  -- an unlimited node: its child, and what stands after it
  pub child-alone : (out : List ℕ) {n : Node} {c r : ℕ} {x u : Bool} → n ≡ first_node (drop (record_length * i) b) → x ≡ is_sum n.kind → x ≡ true
      → c ≡ child_byte (drop (record_length * i) b) → c ≡ 1 → u ≡ is_unlimited n.limit → u ≡ true → r ≡ record_count b - (i + 1)
      → front r out ≡ slice b (i + 1) (record_count b - (i + 1)) → Wrote (rule_at rule3 (trees_at b i)) (Some r) out
  child-alone out {r = r} e dx tx d o du tu k g =
      let h = it b s i l in
      let row : rule_at rule3 (trees_at b i) ≡ some (trees_at b (i + 1)) =
      rule3-row ∙ rule3-bare h.own h.kids h.later (is-sum-at b s i l e dx tx) (one-child d o) (limitless b s i l e du ∙ tu) ∙ ap some (sym h.next) in
      wrote_as (Some r) out row (rest-written b s (i + 1) r out k g)

  -- a limited one: its child takes the limit, where it has none
  pub child-limited : (r : Maybe ℕ) (out : List ℕ) {n : Node} {c : ℕ} {x u : Bool} → n ≡ first_node (drop (record_length * i) b) → x ≡ is_sum n.kind → x ≡ true
      → c ≡ child_byte (drop (record_length * i) b) → c ≡ 1 → u ≡ is_unlimited n.limit → u ≡ false
      → Wrote (relimited n.limit (trees_at b (i + 1))) r out → Wrote (rule_at rule3 (trees_at b i)) r out
  child-limited r out {n} e dx tx d o du tu w =
      let h = it b s i l in
      let row : rule_at rule3 (trees_at b i) ≡ relimited n.limit (trees_at b (i + 1)) =
      rule3-row
      ∙ rule3-limited h.own h.kids h.later (is-sum-at b s i l e dx tx) (one-child d o) (limitless b s i l e du ∙ tu)
      ∙ ap₂ (λ (m : Node) (f : Forest). relimited m.limit f) (sym (e ∙ node_at b i h)) (sym h.next) in
      wrote_as r out row w
