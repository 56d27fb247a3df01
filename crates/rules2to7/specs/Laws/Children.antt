-- Tests of the tree at a record.
use Rattle.std.specs.Prelude.{◌≡◌, refl, Bool, ◌&&◌, List, ℕ, suc, ◌+◌, ◌*◌, ◌≤◌, eqb, leb, drop}
use Rattle.std.proofs.Math.Path.{ap, sym}
use Rattle.std.proofs.Common.{◌∙◌}
use Rattle.booleans.specs.Tests.{◌and◌}
use Rattle.booleans.specs.Laws.{and_is, both}
use Rattle.table.specs.Numbers.{most_children, most_time, record_length}
use Rattle.table.specs.Questions.{listed}
use Rattle.table.specs.Table.{child_byte, first_node}
use Rattle.table.specs.Trees.{Tree, size}
use Rattle.evaluate.specs.Closed.{is_unlimited}
use Rattle.simplify.specs.Rules.{bare, gives, is_zero, time_of, time_of_kind}
use Rattle.simplify.specs.Same.{same_kind}
use Rattle.subtrees.specs.Parts.{subtree}
use Rattle.subtrees.specs.Laws.Parts.{Here, top-at}
use Rattle.rewrite.specs.Bare.{bare_time}
use Rattle.rewrite.specs.Laws.Records.{none-no, some-yes}
use Rattle.rewrite.specs.Laws.Tests.{time-low}
use Rattle.std.specs.Prelude.{Some, None, false}
use Rattle.subtrees.specs.Laws.Records.{count_at, node_at}
use Rattle.rules2to7.specs.Nodes.{Kind, Node}

-- ---- tests of the tree at a record

and-three : (a b c : Bool) → (a && b && c) ≡ (a and b and c)
and-three a b c = and_is (a && b) c ∙ ap (λ (x : Bool). x and c) (and_is a b)

-- a time of 0, by whether the tree is such a block and by its time
pub zero_is : (t : Tree) {r : Bool} {x : ℕ} → r ≡ bare t → x ≡ time_of t → (r && eqb x 0) ≡ is_zero t
unfolding is_zero
zero_is t {r} {x} e d = and_is r (eqb x 0) ∙ rw (e, d) refl

-- and by what is answered of the tree
pub zero_time : (t : Tree) (x : ℕ) → Some x ≡ bare_time t → eqb x 0 ≡ is_zero t
unfolding bare_time is_zero ◌and◌
zero_time t x e = let (b, d) = some-yes (bare t) (time_of t) e in rw (b, d) refl

pub no_time : (t : Tree) → None ≡ bare_time t → false ≡ is_zero t
unfolding bare_time is_zero ◌and◌
no_time t e = rw (none-no (bare t) (time_of t) e) refl

module _ (b : List ℕ) (p : ℕ) (h : Here b p) where
  pub time-at : {n : Node} {x : ℕ} → n ≡ first_node (drop (record_length * p) b) → x ≡ time_of_kind n.kind → (x ≡ time_of (subtree b p)) × (x ≤ most_time)
  unfolding time_of listed
  time-at {n} {x} e d =
      let is : x ≡ time_of_kind h.own.kind = d ∙ ap (λ m. time_of_kind m.kind) (e ∙ node_at b p h) in
      (is ∙ sym (ap time_of (top-at b p h.here)), rw is (time-low h.own.kind (both _ _ (both _ _ (both _ _ (both _ _ h.sound.fair.listed).0).0).0).1))

  pub gives_at : (k : Kind) (c : ℕ) {n : Node} {m : ℕ} {x y z : Bool} → n ≡ first_node (drop (record_length * p) b) → m ≡ child_byte (drop (record_length * p) b)
      → x ≡ same_kind n.kind k → y ≡ is_unlimited n.limit → z ≡ leb (c + m) (suc most_children)
      → (x && y && z) ≡ gives k c (subtree b p)
  unfolding gives
  gives_at k c e d ex ey ez =
      rw (ex, ey, ez, e ∙ node_at b p h, d ∙ count_at b p h, top-at b p h.here)
      (and-three (same_kind h.own.kind k) (is_unlimited h.own.limit) (leb (c + size h.kids) (suc most_children)))
