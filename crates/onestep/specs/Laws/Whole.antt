-- Rule 1: the whole table as one block; and a step, by rule 1 or by the search.
use Rattle.std.specs.Prelude.{◌≡◌, Bool, not, true, List, [], ◌++◌, ℕ, ◌+◌, ◌*◌, ◌<◌, ◌≤◌, drop, length, Some, None}
use Rattle.std.specs.declared.option.Option.{Option as Maybe}
use Rattle.searching.specs.declared.Spot.{Spot}
use Rattle.std.proofs.Math.Path.{refl, ap, sym}
use Rattle.std.proofs.Common.{◌∙◌, append-nil, drop_of_length-le}
use Rattle.std.proofs.Math.Bool.{false}
use Rattle.std.proofs.Math.Option.{Option, none, some}
use native.Mathlib.Omega.{arith}
use Rattle.booleans.specs.Tests.{◌and◌}
use Rattle.table.specs.Numbers.{most_depth, record_length}
use Rattle.table.specs.Table.{decode, encode, encodes, record_bytes, record_count}
use Rattle.table.specs.Trees.{Forest, Tree, nil, ◌▸◌, records, records_in, size}
use Rattle.table.proofs.Laws.Trees.{some-records}
use Rattle.evaluate.specs.Closed.{symbol_free}
use Rattle.evaluate.specs.Evaluate.{figure, zeros}
use Rattle.evaluate.specs.Evaluator.{evaluate_node}
use Rattle.evaluate.specs.Shown.{Shows}
use Rattle.evaluate.proofs.Laws.Alike.{zeros-alike}
use Rattle.evaluate.proofs.Laws.Evaluator.{Evaluated, evaluated}
use Rattle.evaluate.proofs.Laws.Shown.{first-top, shown-fits}
use Rattle.evaluate.specs.declared.Valued.{Valued}
use Rattle.lists.specs.declared.List.{List as Listed}
use Rattle.lists.specs.Pairs.{top as top_pair}
use Rattle.lists.specs.Reading.{value_at}
use Rattle.simplify.specs.Rules.{bare, leaf, rule1, when}
use Rattle.simplify.specs.Steps.{also, inside, inside_in, or_else, step}
use Rattle.subtrees.specs.Facts.{Sized, extent_at, fact_at}
use Rattle.subtrees.specs.declared.Facts.{Facts}
use Rattle.subtrees.specs.Parts.{Simplifiable, subtree, trees_at}
use Rattle.table.proofs.Laws.Tables.{count-is, length-is}
use Rattle.subtrees.specs.Laws.Parts.{root-at, top-at}
use Rattle.writing.specs.Records.{front, node_of}
use Rattle.rewrite.specs.Wrote.{Wrote}
use Rattle.searching.specs.Found.{Placed}
use Rattle.searching.specs.Rewritten.{Rewritten}
use Rattle.onestep.specs.Step.{stepped}
use Rattle.table.specs.declared.Number.TheVariants.{Plain}
use Rattle.table.specs.declared.Limit.TheVariants.{Unlimited}
use Rattle.table.specs.declared.Kind.TheVariants.{Block}

unfit : (t : Tree) (out : List ℕ) → (symbol_free t and not (bare t)) ≡ false → Wrote (also (λ u. u ▸ nil) (rule1 t)) None out
unfolding rule1 when also Wrote
unfit t out e = rw e tt

module _ (b : List ℕ) (s : Simplifiable b) where
  whole : subtree b 0 ≡ decode b
  whole = top-at b 0 (root-at b s.table)

  pub some-record : 0 < record_count b
  some-record = omega (arith, count-is b s.table, some-records (decode b))

  free : (facts : List Facts) → (fact_at facts 0).symbol_free ≡ symbol_free (subtree b 0) → symbol_free (decode b) ≡ (fact_at facts 0).symbol_free
  free facts m = ap symbol_free (sym whole) ∙ sym m

  pub has-symbol : (facts : List Facts) (out : List ℕ) → (fact_at facts 0).symbol_free ≡ symbol_free (subtree b 0) → (fact_at facts 0).symbol_free ≡ false → Wrote (also (λ u. u ▸ nil) (rule1 (decode b))) None out
  unfolding ◌and◌
  has-symbol facts out m n = unfit (decode b) out (rw (free facts m ∙ n) refl)

  pub that-already : (x : Bool) (out : List ℕ) → x ≡ bare (subtree b 0) → x ≡ true → Wrote (also (λ u. u ▸ nil) (rule1 (decode b))) None out
  that-already x out e y = unfit (decode b) out (rw (ap bare (sym whole) ∙ sym e ∙ y) (no (symbol_free (decode b))))
    where
      no : (x : Bool) → (x and not true) ≡ false
      no true = unfold ◌and◌ in refl
      no false = unfold ◌and◌ in refl

  pub first-is : (r : Maybe Valued) (a : Listed) → Shows r a (evaluate_node zeros most_depth b) → value_at a.pairs 0 ≡ figure zeros (decode b)
  first-is r a w =
      let t = s.table.accepted in
      let e : Evaluated zeros (decode b) (evaluate_node zeros most_depth b) =
      evaluated zeros zeros (λ k l. refl) (λ k q. omega arith) (decode b) 0 most_depth b [] (sym (append-nil (encode (decode b)) ∙ s.table.back))
      (record { listed = t.listed; nested = t.nested; named = t.named; weighed = t.weighed }) (zeros-alike (decode b) t.listed) t.deep in
      let is = shown-fits r a _ w (e.holds s.fits).fits in
      sym (first-top is.proper) ∙ ap top_pair is.pairs ∙ e.figure s.fits

  pub block_written : (facts : List Facts) (out : List ℕ) (x : Bool) (v r : ℕ) → (fact_at facts 0).symbol_free ≡ symbol_free (subtree b 0) → (fact_at facts 0).symbol_free ≡ true → x ≡ bare (subtree b 0) → x ≡ false → v ≡ figure zeros (decode b)
      → r ≡ 1 → front r out ≡ record_bytes (node_of (Block (Plain v)) Unlimited 0) 0 → Wrote (also (λ u. u ▸ nil) (rule1 (decode b))) (Some r) out
  unfolding rule1 when also Wrote ◌and◌ records_in records encode encodes leaf size
  block_written facts out x v r m z e y f n w =
      rw (free facts m ∙ z, ap bare (sym whole) ∙ sym e ∙ y, ← f) (omega arith, w ∙ rw (append-nil, append-nil) refl)

-- ---- rule 1 first, then the search

whole_row : (t : Tree) → stepped t ≡ or_else (also (λ u. u ▸ nil) (rule1 t)) (inside_in (t ▸ nil))
unfolding stepped step inside_in also
whole_row t = go (rule1 t) (inside t)
  where
    go : (x y : Option Tree) → also (λ u. u ▸ nil) (or_else x y) ≡ or_else (also (λ u. u ▸ nil) x) (or_else (also (λ u. u ▸ nil) y) none)
    go none none = unfold also in unfold or_else in refl
    go none (some u) = unfold also in unfold or_else in refl
    go (some u) y = unfold also in unfold or_else in refl

rule1-fits : (b : List ℕ) (y : Option Forest) (r : ℕ) (out : List ℕ) (x : Option Tree) → Wrote (also (λ u. u ▸ nil) x) (Some r) out
    → Rewritten (or_else (also (λ u. u ▸ nil) x) y) b (Some (record { at = 0; len = r })) out
unfolding also or_else Wrote Rewritten records_in
rule1-fits b y r out none w = absurd w
rule1-fits b y r out (some u) w = (omega (arith, w.0, some-records u), omega (arith, w.0), omega arith, w.1)

rule1-not : (b : List ℕ) (y : Option Forest) (spot : Maybe Spot) (out mid : List ℕ) (x : Option Tree) → Wrote (also (λ u. u ▸ nil) x) None mid → Rewritten y b spot out
    → Rewritten (or_else (also (λ u. u ▸ nil) x) y) b spot out
unfolding also or_else Wrote
rule1-not b y spot out mid none w v = v
rule1-not b y spot out mid (some u) w v = absurd w

module _ (b : List ℕ) (s : Simplifiable b) where
  pub by-rule1 : (r : ℕ) (out : List ℕ) → Wrote (also (λ u. u ▸ nil) (rule1 (decode b))) (Some r) out → Rewritten (stepped (decode b)) b (Some (record { at = 0; len = r })) out
  by-rule1 r out w = rw (whole_row (decode b)) (rule1-fits b _ r out (rule1 (decode b)) w)

  pub by-search : (spot : Maybe Spot) (out mid : List ℕ) → Wrote (also (λ u. u ▸ nil) (rule1 (decode b))) None mid → Rewritten (inside_in (trees_at b 0)) b spot out → Rewritten (stepped (decode b)) b spot out
  by-search spot out mid w v = rw (whole_row (decode b)) (rule1-not b _ spot out mid (rule1 (decode b)) w (rw (root-at b s.table) at v))

  -- rule 1 leaves nothing behind the one tree
  pub placed-whole : (facts : List Facts) → Sized b facts → (r : ℕ) (out : List ℕ) → Wrote (also (λ u. u ▸ nil) (rule1 (decode b))) (Some r) out → Placed b 0 (0 + extent_at facts 0) r out
  placed-whole facts x r out w = go (rule1 (decode b)) w
    where
      past : record_count b ≤ 0 + extent_at facts 0
      past = omega (arith, x.each 0 (some-record b s), ap records (whole b s), count-is b s.table)

      nothing : drop (record_length * (0 + extent_at facts 0)) b ≡ []
      nothing = let long : length b ≤ record_length * (0 + extent_at facts 0) = omega (arith, past, length-is b s.table) in drop_of_length-le b long

      go : (t : Option Tree) → Wrote (also (λ u. u ▸ nil) t) (Some r) out → Placed b 0 (0 + extent_at facts 0) r out
      go none v = absurd (unfold also in unfold Wrote in v)
      go (some u) v = unfold also in unfold Wrote in unfold records_in in unfold encodes in record {
        quiet = λ j l. absurd (omega (arith, l));
        inside = some-record b s;
        tree = u;
        count = omega (arith, v.0, past);
        bytes = v.1 ∙ ap (λ y. encode u ++ y) (sym nothing);
      }
