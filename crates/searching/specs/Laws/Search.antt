-- A step is found record by record: where no rule fits the subtree at a record, the step is the one that is found from the next record on.
use Rattle.std.specs.Prelude.{◌≡◌, Bool, true, false, T, drop, Some, None}
use Rattle.std.specs.declared.option.Option.{Option as Maybe}
use Rattle.std.proofs.Math.Path.{refl, ap, sym}
use Rattle.std.proofs.Common.{◌∙◌, subst, arith, length-append, length-take-le, take-add, take_at}
use mathlib.Core.List.{List, ◌++◌, append_assoc}
use Rattle.std.proofs.Math.Option.{Option, none, some}
use Prim.Native.Nat.{ℕ, ◌+◌, ◌*◌, ◌<◌, ◌≤◌, suc}
use Rattle.std.proofs.Math.ListN.{length}
use Rattle.table.proofs.Laws.RoundTrip.{length-bytes, length-encodes}
use Rattle.table.specs.Numbers.{record_length}
use Rattle.table.specs.Table.{encode, encodes, first_node, record_bytes, record_count}
use Rattle.table.specs.Trees.{Forest, Tree, nil, node, ◌▸◌, ◌⧺◌, records_in, size}
use Rattle.table.specs.Checking.{IsTable}
use Rattle.table.proofs.Laws.Trees.{some-records}
use Rattle.booleans.specs.Tests.{◌and◌}
use Rattle.evaluate.specs.Closed.{closed_in, symbol_free}
use Rattle.evaluate.specs.Evaluate.{before, zeros}
use Rattle.simplify.specs.Rules.{is_block, is_sum, leaf, rule2, rule3, rule4, rule5, rule6, rule7, rule8, rule9, when}
use Rattle.simplify.specs.Steps.{also, inside, inside_in, or_else, rule}
use Rattle.simplify.specs.Same.{same_kind}
use Rattle.subtrees.specs.Parts.{trees_at}
use Rattle.subtrees.specs.Laws.Forests.{encodes-⧺}
use Rattle.table.proofs.Laws.Tables.{length-is}
use Rattle.subtrees.specs.Laws.Parts.{Here, here-at, records-at}
use Rattle.subtrees.specs.Laws.Records.{node_at}
use Rattle.writing.specs.Records.{front}
use Rattle.rewrite.specs.Wrote.{Wrote, rule_at}
use Rattle.rewrite.specs.Laws.Records.{none-wrote}
use Rattle.table.specs.declared.Number.{Number}
use Rattle.table.specs.declared.Limit.{Limit}
use Rattle.table.specs.declared.Kind.{Kind}
use Rattle.table.specs.declared.Kind.TheVariants.{Block, Sequence, Choice, Loop}
use Rattle.table.specs.declared.Node.{Node}
use Rattle.searching.specs.Rewritten.{Rewritten, later_rule}

-- ---- a step in a row of trees

unfoldable SizeOf : ℕ → Option Forest → Type 0
SizeOf n none = Unit {0}
SizeOf n (some g) = size g ≡ n

or-size : (n : ℕ) (x y : Option Forest) → SizeOf n x → SizeOf n y → SizeOf n (or_else x y)
unfolding or_else SizeOf
or-size n none y p q = q
or-size n (some g) y p q = p

first-size : (f : Forest) (x : Option Tree) → SizeOf (suc (size f)) (also (λ u. u ▸ f) x)
unfolding also SizeOf size
first-size f none = tt
first-size f (some u) = refl

later-size : (t : Tree) (n : ℕ) (x : Option Forest) → SizeOf n x → SizeOf (suc n) (also (λ g. t ▸ g) x)
unfolding also SizeOf size
later-size t n none h = tt
later-size t n (some g) h = ap suc h

-- it leaves as many trees
inside-size : (f : Forest) → SizeOf (size f) (inside_in f)
unfolding inside_in SizeOf size
inside-size nil = tt
inside-size (t ▸ f) = or-size _ (also (λ u. u ▸ f) (inside t)) _ (first-size f (inside t)) (later-size t (size f) (inside_in f) (inside-size f))

-- one row after another
or-also : {A : Type 0} (x : Option Forest) (y : Option Forest) (k : Forest → A) → also k (or_else x y) ≡ or_else (also k x) (also k y)
unfolding also or_else
or-also none y k = refl
or-also (some g) y k = refl

also-also : {A B C : Type 0} (k : B → C) (j : A → B) (x : Option A) → also k (also j x) ≡ also (λ a. k (j a)) x
unfolding also
also-also k j none = refl
also-also k j (some a) = refl

or_assoc : (x y z : Option Forest) → or_else (or_else x y) z ≡ or_else x (or_else y z)
unfolding or_else
or_assoc none y z = refl
or_assoc (some g) y z = refl

also-self : (x : Option Forest) → also (λ h. h) x ≡ x
unfolding also
also-self none = refl
also-self (some g) = refl

pub inside-⧺ : (f g : Forest) → inside_in (f ⧺ g) ≡ or_else (also (λ h. h ⧺ g) (inside_in f)) (also (λ h. f ⧺ h) (inside_in g))
unfolding inside_in ◌⧺◌ also or_else
inside-⧺ nil g = sym (also-self (inside_in g))
inside-⧺ (t ▸ f) g =
    rw (inside-⧺ f g, or-also (also (λ u. u ▸ f) (inside t)), or-also (also (λ h. h ⧺ g) (inside_in f)), or_assoc, also-also, also-also, also-also, also-also) refl

-- ---- past a record

-- where no rule fits a node, a step is one among its children and what stands after them
over-row : (n : Node) (f g : Forest) (x y : Option Forest) → SizeOf (size f) x
    → also encodes (or_else (also (λ u. u ▸ g) (also (node n) x)) (also (λ h. node n f ▸ h) y))
    ≡ also (λ z. record_bytes n (size f) ++ z) (also encodes (or_else (also (λ h. h ⧺ g) x) (also (λ h. f ⧺ h) y)))
unfolding also or_else SizeOf encode encodes
over-row n f g none none s = refl
over-row n f g none (some h) s = ap some (rw (encodes-⧺ f h, append_assoc) refl)
over-row n f g (some e) y s = ap some (rw (s, encodes-⧺ e g, append_assoc) refl)

step-over : (n : Node) (f g : Forest) → rule n f ≡ none
    → also encodes (inside_in (node n f ▸ g)) ≡ also (λ z. record_bytes n (size f) ++ z) (also encodes (inside_in (f ⧺ g)))
unfolding inside or_else
step-over n f g e = rw (e, inside-⧺ f g) (over-row n f g (inside_in f) (inside_in g) (inside-size f))

step-here : (n : Node) (f g : Forest) (t : Tree) → rule n f ≡ some t → inside_in (node n f ▸ g) ≡ some (t ▸ g)
unfolding inside also or_else
step-here n f g t e = rw e refl

-- ---- the search

-- no rule fits before record i: the step is found from there on
pub record Sought (b : List ℕ) (i : ℕ) : Type 0 where
  pub within : i ≤ record_count b
  pub same : also encodes (inside_in (trees_at b 0)) ≡ also (λ z. front i b ++ z) (also encodes (inside_in (trees_at b i)))

also-nothing : (x : Option (List ℕ)) → also (λ z. z) x ≡ x
unfolding also
also-nothing none = refl
also-nothing (some z) = refl

pub sought-none : (b : List ℕ) → Sought b 0
sought-none b = record { within = omega arith; same = sym (also-nothing _) }

-- ---- one rule or else another

first-or : (x y : Option Tree) (g : Forest) (r : ℕ) (out : List ℕ) → Wrote (also (λ t. t ▸ g) x) (Some r) out → Wrote (also (λ t. t ▸ g) (or_else x y)) (Some r) out
unfolding also or_else Wrote
first-or none y g r out w = absurd w
first-or (some t) y g r out w = w

then-or : (x y : Option Tree) (g : Forest) (r : Maybe ℕ) (mid out : List ℕ) → Wrote (also (λ t. t ▸ g) x) None mid → Wrote (also (λ t. t ▸ g) y) r out → Wrote (also (λ t. t ▸ g) (or_else x y)) r out
unfolding also or_else Wrote
then-or none y g r mid out w v = v
then-or (some t) y g r mid out w v = absurd w

module _ (p q : Node → Forest → Option Tree) where
  abbrev pub either : Node → Forest → Option Tree
  either n f = or_else (p n f) (q n f)

  pub or_some : (g : Forest) (r : ℕ) (out : List ℕ) → Wrote (rule_at p g) (Some r) out → Wrote (rule_at either g) (Some r) out
  unfolding rule_at Wrote
  or_some nil r out w = w
  or_some (node m f ▸ g) r out w = first-or (p m f) (q m f) g r out w

  pub or-none : (g : Forest) (r : Maybe ℕ) (mid out : List ℕ) → Wrote (rule_at p g) None mid → Wrote (rule_at q g) r out → Wrote (rule_at either g) r out
  unfolding rule_at
  or-none nil r mid out w v = v
  or-none (node m f ▸ g) r mid out w v = then-or (p m f) (q m f) g r mid out w v

-- rules 2 to 9, and 5 to 9, in their order
abbrev pub from4 : Node → Forest → Option Tree
from4 = either rule4 later_rule

abbrev pub from3 : Node → Forest → Option Tree
from3 = either rule3 from4

pub rule-is : rule ≡ either rule2 from3
unfolding rule later_rule
rule-is = refl

abbrev pub from8 : Node → Forest → Option Tree
from8 = either rule8 rule9

abbrev pub from7 : Node → Forest → Option Tree
from7 = either rule7 from8

abbrev pub from6 : Node → Forest → Option Tree
from6 = either rule6 from7

pub later-is : later_rule ≡ either rule5 from6
unfolding later_rule
later-is = refl

-- no rule fits a block
block_none : (t : Number) (l : Limit) (a : ℕ) (f : Forest) → rule (record { kind = Block t; limit = l; address = a }) f ≡ none
unfolding rule rule2 rule3 rule4 rule5 rule6 rule7 rule8 rule9 when is_sum is_block same_kind or_else ◌and◌
block_none t l a f = go (symbol_free (node (record { kind = Block t; limit = l; address = a }) f))
  where
    go : (x : Bool) → or_else (when (x and false and closed_in (Block t) f 0) (leaf (before zeros (Block t) f 0) l)) none ≡ none
    go true = refl
    go false = refl

-- what a rule at the node of record i makes of the row
pub rule-here : (b : List ℕ) (i : ℕ) (h : Here b i) → rule_at rule (trees_at b i) ≡ also (λ t. t ▸ h.later) (rule h.own h.kids)
unfolding rule_at
rule-here b i h = rw h.here refl

none_first : (g : Forest) (x : Option Tree) → also (λ t. t ▸ g) x ≡ none → x ≡ none
unfolding also
none_first g none e = refl
none_first g (some t) e = absurd (subst IsSome e tt)
  where
    IsSome : Option Forest → Type 0
    IsSome none = ⊥
    IsSome (some h) = Unit {0}

front-next : (b : List ℕ) (i : ℕ) (h : Here b i) → front (i + 1) b ≡ front i b ++ record_bytes h.own (size h.kids)
front-next b i h =
    let m : record_length * (i + 1) ≡ record_length * i + record_length = omega arith in
    rw (m, take-add, h.bytes) (ap (λ z. front i b ++ z) (take_at (record_bytes h.own (size h.kids)) _ record_length (length-bytes h.own (size h.kids))))

also-append : (a c : List ℕ) (x : Option (List ℕ)) → also (λ z. a ++ z) (also (λ z. c ++ z) x) ≡ also (λ z. (a ++ c) ++ z) x
unfolding also
also-append a c none = refl
also-append a c (some z) = ap some (sym (append_assoc a c z))

-- where no record is written, no rule fits there
pub fits_not : (b : List ℕ) (i : ℕ) (out : List ℕ) (h : Here b i) → Wrote (rule_at rule (trees_at b i)) None out → rule h.own h.kids ≡ none
fits_not b i out h w = none_first h.later _ (sym (rule-here b i h) ∙ none-wrote _ out w)

-- where records are, the tree in the node's place
pub record Fits (b : List ℕ) (i r : ℕ) (out : List ℕ) (h : Here b i) : Type 0 where
  pub tree : Tree
  pub fits : rule h.own h.kids ≡ some tree
  pub wrote : Wrote (some (tree ▸ h.later)) (Some r) out

pub fits-here : (b : List ℕ) (i r : ℕ) (out : List ℕ) (h : Here b i) → Wrote (rule_at rule (trees_at b i)) (Some r) out → Fits b i r out h
fits-here b i r out h w = go (rule h.own h.kids) refl (subst (λ x. Wrote x (Some r) out) (rule-here b i h) w)
  where
    go : (x : Option Tree) → rule h.own h.kids ≡ x → Wrote (also (λ t. t ▸ h.later) x) (Some r) out → Fits b i r out h
    go none e v = absurd (unfold also in unfold Wrote in v)
    go (some t) e v = record { tree = t; fits = e; wrote = unfold also in v }

module _ (b : List ℕ) (s : IsTable b) where
  pub sought-next : (i : ℕ) (out : List ℕ) → i < record_count b → Sought b i → Wrote (rule_at rule (trees_at b i)) None out → Sought b (i + 1)
  sought-next i out l q w =
      let h = here-at b s i l in
      let over : also encodes (inside_in (trees_at b i)) ≡ also (λ z. record_bytes h.own (size h.kids) ++ z) (also encodes (inside_in (trees_at b (i + 1)))) =
      rw (h.here, h.next) (step-over h.own h.kids h.later (fits_not b i out h w)) in
      record {
        within = omega arith;
        same = q.same ∙ ap (also (λ z. front i b ++ z)) over ∙ also-append (front i b) (record_bytes h.own (size h.kids)) (also encodes (inside_in (trees_at b (i + 1)))) ∙ ap (λ x. also (λ z. x ++ z) (also encodes (inside_in (trees_at b (i + 1))))) (sym (front-next b i h));
      }

  by_bytes : (x : Option Forest) (z : List ℕ) (at n : ℕ) (out : List ℕ) → also encodes x ≡ some z → 0 < n → record_length * (at + n) ≡ length z → at ≤ record_count b → front at b ++ front n out ≡ z → Rewritten x b (Some (record { at = at; len = n })) out
  unfolding also Rewritten
  by_bytes none z at n out e l k m w = absurd (subst is_none e tt)
    where
      is_none : Option (List ℕ) → Type 0
      is_none none = Unit {0}
      is_none (some z) = ⊥
  by_bytes (some g) z at n out e l k m w = (l, omega (arith, length-encodes g, ap (λ x. length (bytes x)) e), m, w ∙ sym (ap bytes e))
    where
      bytes : Option (List ℕ) → List ℕ
      bytes none = z
      bytes (some y) = y

  no_bytes : (x : Option Forest) (out : List ℕ) → also encodes x ≡ none → Rewritten x b None out
  unfolding also Rewritten
  no_bytes none out e = tt
  no_bytes (some g) out e = absurd (subst is_some e tt)
    where
      is_some : Option (List ℕ) → Type 0
      is_some none = ⊥
      is_some (some z) = Unit {0}

  long : (i r : ℕ) (g : Forest) (t : Tree) → i ≤ record_count b → r ≡ records_in (t ▸ g) → record_length * (i + r) ≡ length (front i b ++ encodes (t ▸ g))
  long i r g t l e = rw (length-append, length-take-le (record_length * i) b (omega (arith, length-is b s)), length-encodes (t ▸ g)) (omega arith)

  -- a rule that fits at record i
  found_here : (i r : ℕ) (out : List ℕ) (n : Node) (f g : Forest) (t : Tree) → trees_at b i ≡ node n f ▸ g → Sought b i → rule n f ≡ some t
      → Wrote (some (t ▸ g)) (Some r) out → Rewritten (inside_in (trees_at b 0)) b (Some (record { at = i; len = r })) out
  unfolding also Wrote records_in
  found_here i r out n f g t e q k w =
      let at : inside_in (trees_at b i) ≡ some (t ▸ g) = ap inside_in e ∙ step-here n f g t k in
      by_bytes _ _ i r out (q.same ∙ ap (λ x. also (λ z. front i b ++ z) (also encodes x)) at) (omega (arith, w.0, some-records t)) (long i r g t q.within w.0) q.within (ap (λ z. front i b ++ z) w.1)

  pub sought-found : (i r : ℕ) (out : List ℕ) → i < record_count b → Sought b i → Wrote (rule_at rule (trees_at b i)) (Some r) out → Rewritten (inside_in (trees_at b 0)) b (Some (record { at = i; len = r })) out
  sought-found i r out l q w =
      let h = here-at b s i l in
      let f = fits-here b i r out h w in
      found_here i r out h.own h.kids h.later f.tree h.here q f.fits f.wrote

  -- past the last record stands no tree
  none_left : (g : Forest) → records_in g ≡ 0 → inside_in g ≡ none
  unfolding inside_in records_in
  none_left nil e = refl
  none_left (t ▸ g) e = absurd (omega (arith, some-records t))

  pub sought-end : (i : ℕ) (out : List ℕ) → record_count b ≤ i → Sought b i → Rewritten (inside_in (trees_at b 0)) b None out
  unfolding also
  sought-end i out l q = no_bytes _ out (q.same ∙ rw (none_left (trees_at b i) (omega (arith, records-at b s i))) refl)

-- ---- a block

block_row : (b : List ℕ) (i : ℕ) (h : Here b i) (k : Kind) → h.own.kind ≡ k → is_block k ≡ true → rule_at rule (trees_at b i) ≡ none
unfolding is_block also
block_row b i h (Block t) e z = rule-here b i h ∙ ap (also (λ u. u ▸ h.later)) (ap (λ x. rule (record { kind = x; limit = h.own.limit; address = h.own.address }) h.kids) e ∙ block_none t h.own.limit h.own.address h.kids)
block_row b i h Sequence e z = absurd (subst T (sym z) tt)
block_row b i h Choice e z = absurd (subst T (sym z) tt)
block_row b i h (Loop n) e z = absurd (subst T (sym z) tt)

pub block_at : (b : List ℕ) → IsTable b → (i : ℕ) (out : List ℕ) {n : Node} {x : Bool} → i < record_count b → n ≡ first_node (drop (record_length * i) b) → x ≡ is_block n.kind → x ≡ true
    → Wrote (rule_at rule (trees_at b i)) None out
unfolding Wrote
block_at b s i out l e d z =
    let h = here-at b s i l in
    rw (block_row b i h h.own.kind refl (ap (λ m. is_block m.kind) (sym (e ∙ node_at b i h)) ∙ sym d ∙ z)) tt
