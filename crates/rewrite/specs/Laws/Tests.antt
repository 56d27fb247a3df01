-- Tests of the node at a record.
use Rattle.std.specs.Prelude.{◌≡◌, refl, Bool, true, false, cond, ◌&&◌, List, ℕ, suc, ◌*◌, ◌≤◌, T, eqb, drop, is_some, IfSome, Some, None}
use Rattle.std.proofs.Common.{ap, sym, ◌∙◌, subst, arith, leb→le}
use Rattle.std.proofs.Math.Dec.{eqb-suc-zero}
use Rattle.booleans.specs.Tests.{◌and◌}
use Rattle.booleans.specs.Laws.{and-false, and_is, both}
use Rattle.table.specs.Numbers.{most_time, record_length}
use Rattle.table.specs.Questions.{arity, kind_in_range, listed, time_in_range}
use Rattle.table.specs.Table.{first_node, flag, kind_byte, raw, value_num}
use Rattle.table.specs.Trees.{Forest, Tree, nil, node, ◌▸◌, size}
use Rattle.evaluate.specs.Closed.{is_plain, is_unlimited, plain_kind}
use Rattle.simplify.specs.Rules.{bare, is_block, time_of, time_of_kind}
use Rattle.rewrite.specs.Bare.{bare_time, plain_time}
use Rattle.std.specs.declared.option.Option.{Option as Maybe}
use Rattle.simplify.specs.Same.{same_kind, same_number}
use Rattle.subtrees.specs.Parts.{subtree}
use Rattle.subtrees.specs.Laws.Parts.{Here, top-at}
use Rattle.subtrees.specs.Laws.Records.{node_at}
use Rattle.table.specs.declared.Number.TheVariants.{Plain, Symbol}
use Rattle.table.specs.declared.Kind.{Kind}
use Rattle.table.specs.declared.Kind.TheVariants.{Block, Sequence, Choice, Loop}
use Rattle.table.specs.declared.Node.{Node}
use Rattle.table.specs.contracts.KindPartialEq.TheImpl as kinds

-- ---- the same kind: what the derived == says of two kinds

pub equal-kinds : (a b : Kind) → (kinds.ghosts).eq a b ≡ same_kind a b
unfolding same_kind same_number
equal-kinds (Block (Plain m)) (Block (Plain n)) = refl
equal-kinds (Block (Plain m)) (Block (Symbol n)) = refl
equal-kinds (Block (Symbol m)) (Block (Plain n)) = refl
equal-kinds (Block (Symbol m)) (Block (Symbol n)) = refl
equal-kinds (Block v) Sequence = refl
equal-kinds (Block v) Choice = refl
equal-kinds (Block v) (Loop w) = refl
equal-kinds Sequence (Block w) = refl
equal-kinds Sequence Sequence = refl
equal-kinds Sequence Choice = refl
equal-kinds Sequence (Loop w) = refl
equal-kinds Choice (Block w) = refl
equal-kinds Choice Sequence = refl
equal-kinds Choice Choice = refl
equal-kinds Choice (Loop w) = refl
equal-kinds (Loop v) (Block w) = refl
equal-kinds (Loop v) Sequence = refl
equal-kinds (Loop v) Choice = refl
equal-kinds (Loop (Plain m)) (Loop (Plain n)) = refl
equal-kinds (Loop (Plain m)) (Loop (Symbol n)) = refl
equal-kinds (Loop (Symbol m)) (Loop (Plain n)) = refl
equal-kinds (Loop (Symbol m)) (Loop (Symbol n)) = refl

-- and by its byte, flag and field

same-fields : (k j : Kind)
    → (eqb (kind_byte k) (kind_byte j) && eqb (flag (value_num k)) (flag (value_num j)) && eqb (raw (value_num k)) (raw (value_num j))) ≡ same_kind k j
unfolding kind_byte value_num flag same_kind same_number
same-fields (Block (Plain m)) (Block (Plain n)) = refl
same-fields (Block (Plain m)) (Block (Symbol n)) = refl
same-fields (Block (Symbol m)) (Block (Plain n)) = refl
same-fields (Block (Symbol m)) (Block (Symbol n)) = refl
same-fields (Block v) Sequence = refl
same-fields (Block v) Choice = refl
same-fields (Block v) (Loop w) = refl
same-fields Sequence (Block w) = refl
same-fields Sequence Sequence = refl
same-fields Sequence Choice = refl
same-fields Sequence (Loop w) = refl
same-fields Choice (Block w) = refl
same-fields Choice Sequence = refl
same-fields Choice Choice = refl
same-fields Choice (Loop w) = refl
same-fields (Loop v) (Block w) = refl
same-fields (Loop v) Sequence = refl
same-fields (Loop v) Choice = refl
same-fields (Loop (Plain m)) (Loop (Plain n)) = refl
same-fields (Loop (Plain m)) (Loop (Symbol n)) = refl
same-fields (Loop (Symbol m)) (Loop (Plain n)) = refl
same-fields (Loop (Symbol m)) (Loop (Symbol n)) = refl

pub same_parts : (k j : Kind) {a b f g v w : ℕ} → a ≡ kind_byte k → b ≡ kind_byte j → f ≡ flag (value_num k) → g ≡ flag (value_num j)
    → v ≡ raw (value_num k) → w ≡ raw (value_num j) → (eqb a b && eqb f g && eqb v w) ≡ same_kind k j
same_parts k j ea eb ef eg ev ew = rw (ea, eb, ef, eg, ev, ew) (same-fields k j)

-- ---- an unlimited plain block, by its kind and limit: it has no child

no_block : (k : Kind) (c : ℕ) → T (arity k (suc c)) → is_block k ≡ false
unfolding is_block arity
no_block (Block v) c h = absurd (subst T (eqb-suc-zero c) h)
no_block Sequence c h = refl
no_block Choice c h = refl
no_block (Loop v) c h = refl

bare-is : (n : Node) (f : Forest) → T (listed (node n f)) → (is_block n.kind and plain_kind n.kind and is_unlimited n.limit) ≡ bare (node n f)
unfolding bare
bare-is n nil h = refl
bare-is n (t ▸ f) h = rw (no_block n.kind (size f) (unfold listed in unfold size in (both _ _ (both _ _ h).0).1)) (unfold ◌and◌ in refl)

pub bare-at : (b : List ℕ) (p : ℕ) (h : Here b p) {n : Node} {x y : Bool} → n ≡ first_node (drop (record_length * p) b) → x ≡ (is_block n.kind and plain_kind n.kind) → y ≡ is_unlimited n.limit
    → (x && y) ≡ bare (subtree b p)
bare-at b p h {x = x} {y = y} e d u =
    and_is x y ∙ rw (d, u, e ∙ node_at b p h, top-at b p h.here) (bare-is h.own h.kids h.sound.fair.listed)

block-time : (k : Kind) → plain_time k ≡ cond (is_block k and plain_kind k) (Some (time_of_kind k)) None
unfolding plain_time is_block plain_kind is_plain time_of_kind ◌and◌
block-time (Block (Plain x)) = refl
block-time (Block (Symbol x)) = refl
block-time Sequence = refl
block-time Choice = refl
block-time (Loop v) = refl

and-true : (x : Bool) → (x and true) ≡ x
unfolding ◌and◌
and-true true = refl
and-true false = refl

pub time-low : (k : Kind) → T (kind_in_range k) → time_of_kind k ≤ most_time
unfolding kind_in_range time_in_range time_of_kind
time-low (Block (Plain x)) h = leb→le x most_time h
time-low (Block (Symbol x)) h = omega arith
time-low Sequence h = omega arith
time-low Choice h = omega arith
time-low (Loop x) h = omega arith

module _ (b : List ℕ) (p : ℕ) (h : Here b p) where
  bare-here : bare_time (subtree b p) ≡ cond (is_block h.own.kind and plain_kind h.own.kind and is_unlimited h.own.limit) (Some (time_of_kind h.own.kind)) None
  unfolding bare_time time_of
  bare-here = rw (top-at b p h.here, bare-is h.own h.kids h.sound.fair.listed) refl

  pub limited-time : {n : Node} {y : Bool} → n ≡ first_node (drop (record_length * p) b) → y ≡ is_unlimited n.limit → y ≡ false → None ≡ bare_time (subtree b p)
  limited-time e u z = rw (bare-here, ap (λ n. is_unlimited n.limit) (sym (e ∙ node_at b p h)) ∙ sym u ∙ z, and-false (is_block h.own.kind and plain_kind h.own.kind)) refl

  pub some-time : {n : Node} {y : Bool} {o : Maybe ℕ} → n ≡ first_node (drop (record_length * p) b) → y ≡ is_unlimited n.limit → y ≡ true → o ≡ plain_time n.kind → o ≡ bare_time (subtree b p)
  some-time e u z t =
      rw (bare-here, ap (λ n. is_unlimited n.limit) (sym (e ∙ node_at b p h)) ∙ sym u ∙ z, and-true (is_block h.own.kind and plain_kind h.own.kind))
      (t ∙ ap (λ n. plain_time n.kind) (e ∙ node_at b p h) ∙ block-time h.own.kind)

  pub low-time : IfSome (bare_time (subtree b p)) (λ x. x ≤ most_time)
  unfolding listed
  low-time = rw bare-here (go (is_block h.own.kind and plain_kind h.own.kind and is_unlimited h.own.limit))
    where
      go : (x : Bool) → IfSome (cond x (Some (time_of_kind h.own.kind)) None) (λ x. x ≤ most_time)
      go true = time-low h.own.kind (both _ _ (both _ _ (both _ _ (both _ _ h.sound.fair.listed).0).0).0).1
      go false = tt

pub bare_some : (t : Tree) {o : Maybe ℕ} {r : Bool} → o ≡ bare_time t → r ≡ is_some o → r ≡ bare t
unfolding bare_time
bare_some t e d = d ∙ ap is_some e ∙ go (bare t)
  where
    go : (x : Bool) → is_some {T = ℕ} (cond x (Some (time_of t)) None) ≡ x
    go true = refl
    go false = refl
