-- A loop that becomes its exit: where body and exit stand.
use Rattle.std.specs.Prelude.{◌≡◌, refl, Bool, true, false, ◌&&◌, ◌||◌, List, ℕ, ◌+◌, ◌*◌, ◌-◌, ◌<◌, ◌≤◌, T, eqb, drop, length, Some, None}
use Rattle.std.proofs.Math.Path.{ap}
use Rattle.std.proofs.Common.{sym, subst, ◌∙◌, arith, eqb→eq}
use Rattle.std.proofs.Math.Option.{none, some}
use Rattle.booleans.specs.Laws.{and_is, both, is_T}
use Rattle.evaluate.specs.Closed.{is_unlimited}
use Rattle.evaluate.specs.Evaluate.{name}
use Rattle.simplify.specs.Rules.{exit, rule9, when}
use Rattle.simplify.specs.Same.{same_kind}
use Rattle.simplify.specs.Steps.{also}
use Rattle.simplify.proofs.Laws.Same.{kind-is}
use Rattle.table.specs.Numbers.{record_length, whole_run}
use Rattle.table.specs.Questions.{arity, listed}
use Rattle.table.specs.Table.{first_node, record_count}
use Rattle.table.specs.Trees.{Forest, Tree, nil, node, ◌▸◌, size}
use Rattle.subtrees.specs.Facts.{Surveyed, extent_at, fact_at}
use Rattle.subtrees.specs.declared.Facts.{Facts}
use Rattle.table.specs.Checking.{IsTable}
use Rattle.subtrees.specs.Parts.{subtree, trees_at}
use Rattle.subtrees.specs.Laws.Parts.{Here, here-at, sized, top-at}
use Rattle.subtrees.specs.Laws.Records.{node_at}
use Rattle.table.specs.declared.Number.TheVariants.{Plain}
use Rattle.table.specs.declared.Kind.TheVariants.{Loop}
use Rattle.table.specs.declared.Node.{Node}
use Rattle.rules8and9.specs.Sharing.{idle}
use Rattle.writing.specs.Records.{front, slice}
use Rattle.rewrite.specs.Wrote.{Wrote, rule_at}
use Rattle.rewrite.specs.Laws.Records.{TwoAt, rest-written, two_at, unfit-at, wrote_as, wrote_none}

-- ---- an unlimited loop of plain bound 0

pub idle-at : (b : List ℕ) (i : ℕ) → IsTable b → i < record_count b → {n : Node} {x y : Bool} → n ≡ first_node (drop (record_length * i) b) → x ≡ same_kind n.kind (Loop (Plain 0))
    → y ≡ is_unlimited n.limit → (x && y) ≡ idle (subtree b i)
unfolding idle
idle-at b i s l {x = x} {y = y} e d u =
    let h = here-at b s i l in
    and_is x y ∙ rw (d, u, e ∙ node_at b i h, top-at b i h.here) refl

-- ---- a loop's body and exit

idle-shape : (n : Node) (f : Forest) → T (listed (node n f)) → T (idle (node n f)) → size f ≡ 2
unfolding idle listed arity
idle-shape n f l h =
    let k = kind-is n.kind (Loop (Plain 0)) (both _ _ h).0 in
    eqb→eq (size f) 2 (subst (λ k. T (arity k (size f))) k (both _ _ (both _ _ l).0).1)

-- where they stand, and what the rule makes of the loop, by what is kept of the body
pub record ExitAt (b : List ℕ) (facts : List Facts) (i : ℕ) : Type 0 where
  pub table : IsTable b
  pub exit : Tree
  pub later : Forest
  pub inside : i + 1 < record_count b
  pub sized : i + 1 < length facts
  pub within : i + 1 + extent_at facts (i + 1) ≤ record_count b
  pub after : trees_at b (i + 1 + extent_at facts (i + 1)) ≡ exit ▸ later
  pub becomes : rule_at rule9 (trees_at b i) ≡ also (λ t. t ▸ later) (when (eqb ((fact_at facts (i + 1)).named) 1 || eqb ((fact_at facts (i + 1)).named) whole_run) exit)

loop-becomes : (n : Node) (t u : Tree) (g : Forest) → idle (node n nil) ≡ true → rule_at rule9 (node n (t ▸ u ▸ nil) ▸ g) ≡ also (λ t. t ▸ g) (when (eqb (name t) 1 || eqb (name t) whole_run) u)
unfolding rule_at rule9 idle exit
loop-becomes n t u g h = rw h refl

no_loop : (n : Node) (f : Forest) → idle (node n f) ≡ false → rule9 n f ≡ none
unfolding idle rule9
no_loop n f e = rw e refl

module _ (b : List ℕ) (facts : List Facts) (s : Surveyed b facts) (i : ℕ) (l : i < record_count b) where
  abbrev sim : IsTable b
  sim = s.table

  exit-from : (h : Here b i) → idle (node h.own nil) ≡ true → TwoAt b facts i h → ExitAt b facts i
  exit-from h e w =
      let from = i + 1 + extent_at facts (i + 1) in
      record {
        table = sim;
        exit = subtree b from;
        later = h.later;
        inside = w.inside;
        sized = w.sized;
        within = omega (arith, w.place);
        after = w.after;
        becomes = rw (s.each (i + 1) w.inside, h.here, w.are) (loop-becomes h.own (subtree b (i + 1)) (subtree b from) h.later e);
      }

  idle-here : (h : Here b i) → idle (subtree b i) ≡ idle (node h.own nil)
  unfolding idle
  idle-here h = ap idle (top-at b i h.here)

  pub exit-at : idle (subtree b i) ≡ true → ExitAt b facts i
  exit-at e =
      let h = here-at b sim i l in
      let t = is_T _ (ap idle (sym (top-at b i h.here)) ∙ e) in
      exit-from h (sym (idle-here h) ∙ e) (two_at b facts (sized b facts s) i h (idle-shape h.own h.kids h.sound.fair.listed t))

  -- no such loop
  pub not-idle : (r : Bool) (out : List ℕ) → r ≡ idle (subtree b i) → r ≡ false → Wrote (rule_at rule9 (trees_at b i)) None out
  not-idle r out e t =
      let h = here-at b sim i l in
      unfit-at b sim i l rule9 out (no_loop h.own h.kids (ap idle (sym (top-at b i h.here)) ∙ sym e ∙ t))

-- its body names another loop
pub other-named : {b : List ℕ} {facts : List Facts} {i : ℕ} (x : ExitAt b facts i) (out : List ℕ)
    → (eqb ((fact_at facts (i + 1)).named) 1 || eqb ((fact_at facts (i + 1)).named) whole_run) ≡ false
    → Wrote (rule_at rule9 (trees_at b i)) None out
unfolding also when
other-named x out e = wrote_none _ out (x.becomes ∙ rw e refl)

-- the exit, and what follows it, is copied
pub exit-written : {b : List ℕ} {facts : List Facts} {i : ℕ} (x : ExitAt b facts i) (r : ℕ) (out : List ℕ)
    → (eqb ((fact_at facts (i + 1)).named) 1 || eqb ((fact_at facts (i + 1)).named) whole_run) ≡ true
    → let from = i + 1 + extent_at facts (i + 1) in r ≡ 0 + (record_count b - from) → front r out ≡ slice b from (record_count b - from)
    → Wrote (rule_at rule9 (trees_at b i)) (Some r) out
unfolding also when
exit-written {b} {facts} {i} x r out e c w =
    let from = i + 1 + extent_at facts (i + 1) in
    wrote_as (Some r) out (x.becomes ∙ rw e refl ∙ ap some (sym x.after)) (rest-written b x.table from r out (omega arith) w)
