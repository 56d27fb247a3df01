-- Rule 4: a symbol-free node whose children are closed, once limits naming that node are set aside, becomes a block.
use Rattle.std.specs.Prelude.{◌≡◌, not, ℕ, ◌≤◌, T}
use Rattle.std.proofs.Common.{sym, ◌∙◌, arith, leb→le, eqb→eq}
use Rattle.std.proofs.Math.Path.{ap}
use Rattle.booleans.specs.Laws.{both, join-and}
use Rattle.table.specs.Numbers.{most_time}
use Rattle.table.specs.Questions.{arity, listed, depth, loops, named, weight}
use Rattle.table.specs.Trees.{Forest, nil, ◌▸◌, size, records, records_in, node, every_node}
use Rattle.table.proofs.Laws.Trees.{some-records}
use Rattle.lists.specs.Streams.{const}
use Rattle.evaluate.specs.Closed.{closed_in, symbol_free}
use Rattle.evaluate.specs.Evaluate.{Values, inner, name, limit, list, before, fits, zeros}
use Rattle.evaluate.proofs.Laws.Constant.{closed_in-run, closed_in-const, before-free, plain-single}
use Rattle.simplify.specs.Nodes.{Kind, Block, Sequence, Choice, Loop, Node}
use Rattle.simplify.specs.Rules.{is_block, leaf}
use Rattle.simplify.proofs.Laws.Refines.{Refines}
use Rattle.simplify.proofs.Laws.Blocks.{leaf-fits, leaf-listed, leaf-depth, leaf-loops, leaf-records, leaf-limited, leaf-share}

-- ---- rule 4

arity-some : (k : Kind) (c : ℕ) → T (not (is_block k)) → T (arity k c) → 1 ≤ c
unfolding is_block arity
arity-some (Block t) c h a = absurd h
arity-some Sequence c h a = leb→le 1 c (both _ _ a).0
arity-some Choice c h a = leb→le 1 c (both _ _ a).0
arity-some (Loop n) c h a = omega (arith, eqb→eq c 2 a)

pub records-some : (f : Forest) → size f ≤ records_in f
unfolding size records
records-some nil = omega arith
records-some (t ▸ f) = omega (arith, some-records t, records-some f)

pub rule4-refines : (n : Node) (f : Forest) → T (symbol_free (node n f)) → T (not (is_block n.kind)) → T (closed_in n.kind f 0)
    → Refines (leaf (before zeros n.kind f 0) n.limit) (node n f)
rule4-refines n f h i r = record {
  keeps = record {
    same_name = unfold name in unfold leaf in ap (inner n.limit) (sym (closed_in-run k f r));
    same_list = λ v. leaf-limited v x n.limit ∙ unfold list in ap (limit v n.limit) (sym (closed_in-const v k f (plain-single k (unfold symbol_free in (both _ _ (both _ _ h).0).0)) r ∙ ap const (first v)));
    still_fits = λ v q. leaf-fits v x n.limit (few v q);
    still_listed = λ q l. leaf-listed x n.limit (few zeros (q tt)) (unfold listed in (both _ _ (both _ _ (both _ _ l).0).0).1);
    deep = unfold depth in omega (arith, leaf-depth x n.limit);
    nested = λ d. unfold loops in omega (arith, leaf-loops x n.limit d);
    still_named = λ d q. unfold named in unfold leaf in join-and _ _ (both _ _ q).0 tt;
    weighed = λ d. unfold weight in omega (arith, leaf-share x n.limit d);
    limits = λ p q. unfold every_node in unfold leaf in join-and _ _ (both _ _ q).0 tt;
  };
  fewer = λ l. unfold records in omega (arith, leaf-records x n.limit, records-some f, arity-some k (size f) i (unfold listed in (both _ _ (both _ _ l).0).1));
}
  where
    k : Kind
    k = n.kind

    x : ℕ
    x = before zeros n.kind f 0

    first : (v : Values) → before v n.kind f 0 ≡ before zeros n.kind f 0
    first v = ap (λ s. s 0) (before-free v zeros n.kind f (unfold symbol_free in (both _ _ (both _ _ h).0).0) (unfold symbol_free in (both _ _ h).1))

    few : (v : Values) → T (fits v (node n f)) → before zeros n.kind f 0 ≤ most_time
    few v q = rw (first v) at (leb→le (before v n.kind f 0) most_time (unfold fits in (both _ _ q).0))
