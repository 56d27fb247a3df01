-- The value that rule 4 puts in a node's place, and when the rule fits.
use Rattle.std.specs.Prelude.{◌≡◌, Bool, ◌&&◌, List, ◌++◌, ℕ, ◌+◌, ◌*◌, ◌-◌, ◌<◌, ◌≤◌, eqb, leb, drop, length, take, Some, None}
use Rattle.std.specs.declared.option.Option.{Option as Maybe}
use Rattle.std.proofs.Math.Path.{refl, ap, sym, subst}
use Rattle.std.proofs.Common.{◌∙◌, append-nil, arith, length-drop, drop-drop}
use Rattle.std.proofs.Math.Bool.{true, false, not}
use Rattle.std.proofs.Math.Option.{some}
use Rattle.std.proofs.Math.Dec.{T}
use Rattle.booleans.specs.Laws.{both}
use Rattle.booleans.specs.Tests.{◌and◌}
use Rattle.table.specs.Numbers.{most_depth, most_records, record_length}
use Rattle.table.specs.Questions.{depth, listed}
use Rattle.table.specs.Table.{child_byte, encode, encodes, first_node, record_bytes, record_count}
use Rattle.table.specs.Trees.{Forest, node, ◌▸◌, records, records_in, size}
use Rattle.table.proofs.Laws.Reading.{part-from}
use Rattle.table.proofs.Laws.RoundTrip.{drop-bytes}
use Rattle.lists.specs.declared.List.{List as Listed}
use Rattle.lists.specs.Pairs.{top}
use Rattle.lists.specs.Reading.{value_at}
use Rattle.lists.specs.Streams.{const}
use Rattle.evaluate.specs.Closed.{closed_in, symbol_free}
use Rattle.evaluate.specs.Evaluate.{fits, fits_in, start, zeros}
use Rattle.evaluate.specs.Shown.{Shows, evaluate_children}
use Rattle.evaluate.proofs.Laws.Alike.{zeros-alike}
use Rattle.evaluate.proofs.Laws.Evaluator.{children-found}
use Rattle.evaluate.proofs.Laws.Shown.{first-top, shown-fits}
use Rattle.evaluate.specs.declared.Valued.{Valued}
use Rattle.simplify.specs.Rules.{is_block, leaf, rule4, when}
use Rattle.simplify.specs.Steps.{also}
use Rattle.subtrees.specs.Facts.{Surveyed, extent_at, fact_at, facts_of, reach_below, reach_in}
use Rattle.subtrees.specs.declared.Facts.{Facts}
use Rattle.subtrees.specs.Parts.{Simplifiable, trees_at}
use Rattle.subtrees.specs.Laws.Facts.{closed_in-is}
use Rattle.subtrees.specs.Laws.Forests.{Sound, encodes-⧺}
use Rattle.table.proofs.Laws.Tables.{few-records, length-is}
use Rattle.subtrees.specs.Laws.Parts.{Here, fits-at, here-at, past-node, records-at, sized, tail_at, top-at}
use Rattle.subtrees.specs.Laws.Records.{count_at, node_at}
use Rattle.rules2to7.specs.Nodes.{Block, Choice, Kind, Loop, Node, Plain, Sequence}
use Rattle.rules2to7.specs.Settled.{before_at, block_at}
use Rattle.writing.specs.Records.{front, node_of, slice}
use Rattle.rewrite.specs.Wrote.{Wrote, rule_at}
use Rattle.rewrite.specs.Laws.Records.{wrote_as, wrote_none, zero_is}

-- what stands after the record at i
rest_at : (b : List ℕ) (i : ℕ) (h : Here b i) → drop (record_length * i + record_length) b ≡ encodes h.kids ++ encodes h.later
rest_at b i h = rw (← drop-drop, h.bytes, drop-bytes) (encodes-⧺ h.kids h.later)

starts-at-zero : (k : Kind) → is_block k ≡ false → start zeros k ≡ const 0
unfolding is_block start
starts-at-zero (Block t) e = absurd (subst T e tt)
starts-at-zero Sequence e = refl
starts-at-zero Choice e = refl
starts-at-zero (Loop n) e = refl

module _ (b : List ℕ) (s : Simplifiable b) (i : ℕ) (l : i < record_count b) where
  -- a part of the table is no longer than the evaluator takes
  pub short-part : (n : ℕ) → length (take (length b - n) (drop n b)) ≤ record_length * most_records
  short-part n = rw (part-from, length-drop) (omega (arith, length-is b s.table, few-records b s.table))

  pub settled : block_at (trees_at b i) ≡ false → (r : Maybe Valued) (a : Listed) {n : Node} {c : ℕ} → n ≡ first_node (drop (record_length * i) b) → c ≡ child_byte (drop (record_length * i) b)
      → let m = record_length * i + record_length in Shows r a (evaluate_children zeros most_depth n.kind c (take (length b - m) (drop m b)))
      → value_at a.pairs 0 ≡ before_at (trees_at b i)
  unfolding block_at before_at depth fits
  settled e r a {n} {c} p q w =
      let h = here-at b s.table i l in
      let fit = subst (λ g. T (fits_in zeros g)) h.here (fits-at b s i) in
      let no : is_block h.own.kind ≡ false = sym (ap block_at h.here) ∙ e in
      let t = h.sound in
      let (all, first) = children-found zeros zeros (λ k l. refl) (λ k q. omega arith) h.own h.kids t.around most_depth _ (encodes h.later) refl t.fair (zeros-alike _ t.fair.listed) (omega (arith, t.deep)) (starts-at-zero h.own.kind no) (both _ _ fit).0 in
      let v : Shows r a (evaluate_children zeros most_depth h.own.kind (size h.kids) (encodes h.kids ++ encodes h.later)) = rw (p ∙ node_at b i h, q ∙ count_at b i h, part-from, rest_at b i h) at w in
      let is = shown-fits r a _ v all in
      sym (first-top is.proper) ∙ ap top is.pairs ∙ first ∙ sym (ap before_at h.here)

-- ---- when the rule fits

closed-kids : (n : Node) (f : Forest) → Sound (node n f) → closed_in n.kind f 0 ≡ leb (reach_in n.kind f) 0
unfolding listed depth
closed-kids n f t = closed_in-is n.kind f 0 (both _ _ t.fair.listed).1 (omega (arith, t.deep))

module _ (b : List ℕ) (facts : List Facts) (s : Surveyed b facts) (i : ℕ) (l : i < record_count b) where
  h : Here b i
  h = here-at b s.table i l

  fits-here : (symbol_free (node h.own h.kids) and not (is_block h.own.kind) and closed_in h.own.kind h.kids 0)
      ≡ ((fact_at facts i).symbol_free and not (is_block (first_node (drop (record_length * i) b)).kind) and eqb (fact_at facts i).reach_below 0)
  unfolding reach_below
  fits-here =
      let m = s.each i l in
      let t = top-at b i h.here in
      rw (node_at b i h, m ∙ ap facts_of t, zero_is, closed-kids h.own h.kids h.sound) refl

  -- by the tests, what the table becomes from record i on
  becomes : rule_at rule4 (trees_at b i)
      ≡ also (λ t. t ▸ h.later)
      (when ((fact_at facts i).symbol_free and not (is_block (first_node (drop (record_length * i) b)).kind) and eqb (fact_at facts i).reach_below 0) (leaf (before_at (trees_at b i)) (first_node (drop (record_length * i) b)).limit))
  unfolding rule_at rule4 before_at
  becomes = rw (h.here, ← fits-here, node_at b i h) refl

  pub not-settled : (out : List ℕ) → ((fact_at facts i).symbol_free && eqb (fact_at facts i).reach_below 0) ≡ false → Wrote (rule_at rule4 (trees_at b i)) None out
  unfolding also when
  not-settled out e = wrote_none _ out (becomes ∙ rw (no _ _ (is_block (first_node (drop (record_length * i) b)).kind) e) refl)
    where
      no : (x y z : Bool) → (x && y) ≡ false → (x and not z and y) ≡ false
      no true true z e = absurd (subst T e tt)
      no true false true e = unfold ◌and◌ in refl
      no true false false e = unfold ◌and◌ in refl
      no false y z e = unfold ◌and◌ in refl

  pub no_node : (out : List ℕ) → is_block (first_node (drop (record_length * i) b)).kind ≡ true → Wrote (rule_at rule4 (trees_at b i)) None out
  unfolding also when
  no_node out e = wrote_none _ out (becomes ∙ rw (e, no (fact_at facts i).symbol_free _) refl)
    where
      no : (x y : Bool) → (x and not true and y) ≡ false
      no true y = unfold ◌and◌ in refl
      no false y = unfold ◌and◌ in refl

  pub is-node : is_block (first_node (drop (record_length * i) b)).kind ≡ false → block_at (trees_at b i) ≡ false
  unfolding block_at
  is-node e = ap block_at h.here ∙ ap (λ n. is_block n.kind) (sym (node_at b i h)) ∙ e

  pub settled-written : (x r : ℕ) (out : List ℕ) → x ≡ before_at (trees_at b i)
      → ((fact_at facts i).symbol_free && eqb (fact_at facts i).reach_below 0) ≡ true → is_block (first_node (drop (record_length * i) b)).kind ≡ false
      → let end = i + extent_at facts i in r ≡ 1 + (record_count b - end)
      → front r out ≡ record_bytes (node_of (Block (Plain x)) (first_node (drop (record_length * i) b)).limit 0) 0 ++ slice b end (record_count b - end)
      → Wrote (rule_at rule4 (trees_at b i)) (Some r) out
  unfolding Wrote also when records_in records encode encodes leaf size
  settled-written x r out v e f n q =
      let end = i + extent_at facts i in
      let t = s.table in
      let past : trees_at b end ≡ h.later = (past-node b facts (sized b facts s) i l h).0 in
      wrote_as {p = some (leaf x (first_node (drop (record_length * i) b)).limit ▸ h.later)} (Some r) out (becomes ∙ rw (f, yes _ _ e, v) refl)
      (omega (arith, records-at b t end, ap records_in past), q ∙ rw (tail_at b t end, past, append-nil) refl)
    where
      yes : (x y : Bool) → (x && y) ≡ true → (x and not false and y) ≡ true
      yes true true e = unfold ◌and◌ in refl
      yes true false e = absurd (subst T (sym e) tt)
      yes false y e = absurd (subst T (sym e) tt)
