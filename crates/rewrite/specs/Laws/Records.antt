-- What the rules share: the trees at a table's records, and what is written of them.
use Rattle.std.specs.Prelude.{◌≡◌, refl, Bool, cond, true, false, List, ℕ, zero, suc, ◌+◌, ◌*◌, ◌-◌, ◌<◌, eqb, leb, drop, length, Some, None}
use Rattle.std.specs.declared.option.Option.{Option as Maybe}
use Rattle.std.proofs.lemmas.Option.{none-some, same_Some}
use Rattle.std.proofs.Math.Path.{ap}
use Rattle.std.proofs.Common.{ap₂, sym, ◌∙◌, subst, append-nil, arith, ne_eqb}
use Rattle.std.proofs.Math.Option.{Option, none, some}
use Rattle.std.proofs.lemmas.Bool.{lt-leb}
use Rattle.table.specs.Numbers.{record_length}
use Rattle.table.specs.Table.{encode, encodes, first_node, record_count}
use Rattle.table.specs.Trees.{Forest, Tree, nil, node, ◌▸◌, ◌⧺◌, records, records_in, size}
use Rattle.simplify.specs.Rules.{is_sum}
use Rattle.simplify.specs.Steps.{also}
use Rattle.subtrees.specs.Facts.{Sized, extent_at}
use Rattle.subtrees.specs.declared.Facts.{Facts}
use Rattle.table.specs.Checking.{IsTable}
use Rattle.subtrees.specs.Parts.{subtree, trees_at}
use Rattle.subtrees.specs.Laws.Forests.{Sound}
use Rattle.subtrees.specs.Laws.Parts.{Here, bytes-at, here-at, kids-row, next_row, records-at, row-end, tail_at, top-at}
use Rattle.subtrees.specs.Laws.Records.{node_at}
use Rattle.table.specs.declared.Node.{Node}
use Rattle.writing.specs.Records.{front, slice}
use Rattle.rewrite.specs.Wrote.{Wrote, rule_at}

-- ---- tests

pub zero_is : (n : ℕ) → eqb n 0 ≡ leb n 0
zero_is zero = refl
zero_is (suc n) = ne_eqb (suc n) 0 (λ e. omega arith) ∙ sym (lt-leb (suc n) 0 (omega arith))

-- a number that is 0 where a test fails
pub zero-no : (t : Bool) (n : ℕ) {x : ℕ} → 0 < n → x ≡ cond t n 0 → x ≡ 0 → t ≡ false
zero-no true n l e z = absurd (omega arith)
zero-no false n l e z = refl

pub number-yes : (t : Bool) (n : ℕ) {x : ℕ} → x ≡ cond t n 0 → (x ≡ 0 → ⊥) → (t ≡ true) × (x ≡ n)
number-yes true n e z = (refl, e)
number-yes false n e z = absurd (z e)

-- an answer that there is only where a test holds
pub none-no : {A : Type 0} (t : Bool) (n : A) → None ≡ cond t (Some n) None → t ≡ false
none-no true n e = absurd (none-some _ e)
none-no false n e = refl

pub some-yes : {A : Type 0} (t : Bool) (n : A) {x : A} → Some x ≡ cond t (Some n) None → (t ≡ true) × (x ≡ n)
some-yes true n e = (refl, same_Some _ _ e)
some-yes false n e = absurd (none-some _ (sym e))

-- ---- trees at records

pub ⧺-assoc : (f g h : Forest) → (f ⧺ g) ⧺ h ≡ f ⧺ (g ⧺ h)
unfolding ◌⧺◌
⧺-assoc nil g h = refl
⧺-assoc (t ▸ f) g h = ap (λ r. t ▸ r) (⧺-assoc f g h)

pub subtree-sound : (b : List ℕ) → IsTable b → (i : ℕ) → i < record_count b → Sound (subtree b i)
subtree-sound b s i l = let h = here-at b s i l in rw (top-at b i h.here) h.sound

pub subtree-bytes : (b : List ℕ) → IsTable b → (i : ℕ) → i < record_count b → slice b i (records (subtree b i)) ≡ encode (subtree b i)
unfolding records_in encodes ◌⧺◌
subtree-bytes b s i l =
    let h = here-at b s i l in
    let t = node h.own h.kids in
    let n : records_in (t ▸ nil) ≡ records t = omega arith in
    rw (top-at b i h.here, ← n) (bytes-at b s i (t ▸ nil) h.later h.here ∙ append-nil (encode t))

-- the two children of a node at record i
pub record TwoAt (b : List ℕ) (facts : List Facts) (i : ℕ) (h : Here b i) : Type 0 where
  pub are : h.kids ≡ subtree b (i + 1) ▸ subtree b (i + 1 + extent_at facts (i + 1)) ▸ nil
  pub inside : i + 1 < record_count b
  pub sized : i + 1 < length facts
  pub extent : extent_at facts (i + 1) ≡ records (subtree b (i + 1))
  pub place : i + 1 + extent_at facts (i + 1) < record_count b
  pub after : trees_at b (i + 1 + extent_at facts (i + 1)) ≡ subtree b (i + 1 + extent_at facts (i + 1)) ▸ h.later

pub two_at : (b : List ℕ) (facts : List Facts) → Sized b facts → (i : ℕ) (h : Here b i) → size h.kids ≡ 2 → TwoAt b facts i h
unfolding ◌⧺◌
two_at b facts x i h e =
    let q = i + 1 + extent_at facts (i + 1) in
    let n = next_row b facts x (i + 1) (size h.kids) (kids-row b x.table i h) (omega arith) in
    let m = next_row b facts x q (size h.kids - 1) n.others (omega arith) in
    let last : n.others.trees ≡ subtree b q ▸ nil = m.are ∙ ap (λ f. subtree b q ▸ f) (row-end m.others (omega arith)) in
    record {
      are = n.are ∙ ap (λ f. subtree b (i + 1) ▸ f) last;
      inside = n.inside;
      sized = n.sized;
      extent = n.extent;
      place = m.inside;
      after = n.others.row ∙ ap₂ ◌⧺◌ last n.same;
    }

-- ---- what is written

pub wrote_as : {o p : Option Forest} (r : Maybe ℕ) (out : List ℕ) → o ≡ p → Wrote p r out → Wrote o r out
wrote_as r out e w = subst (λ (x : Option Forest). Wrote x r out) (sym e) w

pub wrote_none : (o : Option Forest) (out : List ℕ) → o ≡ none → Wrote o None out
unfolding Wrote
wrote_none o out e = wrote_as None out e tt

pub none-wrote : (o : Option Forest) (out : List ℕ) → Wrote o None out → o ≡ none
unfolding Wrote
none-wrote none out w = refl
none-wrote (some g) out w = absurd w

-- what stands from record i to the table's end
pub rest-written : (b : List ℕ) → IsTable b → (i r : ℕ) (out : List ℕ) → r ≡ record_count b - i → front r out ≡ slice b i (record_count b - i)
    → Wrote (some (trees_at b i)) (Some r) out
unfolding Wrote
rest-written b s i r out e w = (e ∙ sym (records-at b s i), w ∙ tail_at b s i)

-- ---- a rule at record i

module _ (b : List ℕ) (s : IsTable b) (i : ℕ) (l : i < record_count b) where
  abbrev pub it : Here b i
  it = here-at b s i l

  pub rule-at : (rule : Node → Forest → Option Tree) (o : Option Tree) → rule it.own it.kids ≡ o
      → rule_at rule (trees_at b i) ≡ also (λ (t : Tree). t ▸ it.later) o
  unfolding rule_at
  rule-at rule o e = ap (rule_at rule) it.here ∙ ap (also (λ (t : Tree). t ▸ it.later)) e

  pub unfit-at : (rule : Node → Forest → Option Tree) (out : List ℕ) → rule it.own it.kids ≡ none → Wrote (rule_at rule (trees_at b i)) None out
  unfolding also
  unfit-at rule out e = wrote_none _ out (rule-at rule none e)

  -- a test of the node that was read
  pub own-test : (q : Node → Bool) {n : Node} {x : Bool} → n ≡ first_node (drop (record_length * i) b) → x ≡ q n → q it.own ≡ x
  own-test q e d = ap q (sym (e ∙ node_at b i it)) ∙ sym d

  -- a node that is no sequence and no choice
  pub no-sum : (rule : Node → Forest → Option Tree) (out : List ℕ) {n : Node} {x : Bool} → ((n : Node) (f : Forest) → is_sum n.kind ≡ false → rule n f ≡ none)
      → n ≡ first_node (drop (record_length * i) b) → x ≡ is_sum n.kind → x ≡ false → Wrote (rule_at rule (trees_at b i)) None out
  no-sum rule out {x = x} k e d t = unfit-at rule out (k it.own it.kids (own-test (λ (m : Node). is_sum m.kind) e d ∙ t))

  pub is-sum-at : {n : Node} {x : Bool} → n ≡ first_node (drop (record_length * i) b) → x ≡ is_sum n.kind → x ≡ true → is_sum it.own.kind ≡ true
  is-sum-at {x = x} e d t = own-test (λ (m : Node). is_sum m.kind) e d ∙ t
