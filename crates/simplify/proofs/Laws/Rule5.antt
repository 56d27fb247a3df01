-- Rule 5: an unlimited plain block of time 0 goes.
use Rattle.std.specs.Prelude.{◌≡◌, refl, suc, ◌≤◌, T}
use Rattle.std.proofs.Math.Path.{ap, sym}
use Rattle.std.proofs.Common.{◌∙◌, arith, eqb→eq}
use Rattle.booleans.specs.Laws.{both, by_cond, or_else}
use Rattle.table.specs.Numbers.{whole_run}
use Rattle.table.specs.Questions.{listed, depth}
use Rattle.table.specs.Trees.{Tree, nil, ◌▸◌, records, Forest, size, node, every_node}
use Rattle.table.proofs.Laws.Trees.{some-records}
use Rattle.lists.specs.Streams.{const}
use Rattle.evaluate.specs.Evaluate.{Values, fits, join, before, list, name}
use Rattle.evaluate.proofs.Laws.Monotone.{before_falls, name_in-le}
use Rattle.evaluate.proofs.Laws.Joins.{zero-join}
use Rattle.simplify.specs.Nodes.{Kind, Node}
use Rattle.simplify.specs.Rules.{time_of, is_zero, any_zero, without, is_sum}
use Rattle.simplify.proofs.Laws.Refines.{RefinesIn, SumKind, tail-sum, Refines, node-refines, sum_is, arity-of, of-arity}
use Rattle.simplify.proofs.Laws.Forests.{named-each}
use Rattle.simplify.proofs.Laws.Blocks.{bare-list, bare-name}

-- ---- rule 5

zero-list : (v : Values) (t : Tree) → T (is_zero t) → list v t ≡ const 0
unfolding is_zero
zero-list v t h = let (a, b) = both _ _ h in bare-list v t a ∙ ap const (eqb→eq (time_of t) 0 b)

zero-name : (t : Tree) → T (is_zero t) → name t ≡ whole_run
unfolding is_zero
zero-name t h = bare-name t (both _ _ h).0

module _ (k : Kind) (s : SumKind k) where
  dropped : (t : Tree) (f : Forest) → T (is_zero t) → RefinesIn k f (t ▸ f)
  unfolding fits listed depth every_node records
  dropped t f z = record {
    keeps = record {
      same_name = omega (arith, s.names t f, zero-name t z, name_in-le k f);
      same_list = λ v. sym (s.lists v t f ∙ ap (λ x. join k x (before v k f)) (zero-list v t z) ∙ zero-join k _ (before_falls v k f));
      still_fits = λ v b h. (both _ _ h).1;
      still_listed = λ b h l. (both _ _ l).1;
      deep = omega arith;
      nested = λ d. omega (arith, s.loopses t f d);
      still_named = λ d h. ((named-each k s d).apart t f h).1;
      weighed = λ d. omega (arith, s.weights t f d);
      limits = λ p h. (both _ _ h).1;
    };
    fewer = λ l. omega (arith, some-records t);
  }

  pub without-refines : (f : Forest) → T (any_zero f) → RefinesIn k (without f) f
  unfolding any_zero without
  without-refines nil h = absurd h
  without-refines (t ▸ f) h =
      by_cond (λ g. RefinesIn k g (t ▸ f)) (is_zero t) _ _
      (λ e. dropped t f e)
      (λ e. tail-sum k s t _ f (without-refines f (or_else _ _ h e)))

pub without-size : (f : Forest) → T (any_zero f) → suc (size (without f)) ≡ size f
unfolding any_zero without size
without-size nil h = absurd h
without-size (t ▸ f) h =
    by_cond (λ g. suc (size g) ≡ suc (size f)) (is_zero t) _ _ (λ e. refl) (λ e. ap suc (without-size f (or_else _ _ h e)))

pub rule5-refines : (n : Node) (f : Forest) → T (is_sum n.kind) → 2 ≤ size f → T (any_zero f) → Refines (node n (without f)) (node n f)
rule5-refines n f i z h =
    let s = sum_is n.kind i in
    node-refines n _ f (without-refines _ s f h)
    (λ l a. arity-of _ s _ (omega (arith, without-size f h)) (omega (arith, without-size f h, (of-arity _ s _ a).1)))
