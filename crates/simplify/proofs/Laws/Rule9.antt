-- Rule 9: an unlimited loop of bound 0 becomes its exit.
use Rattle.std.specs.Prelude.{◌≡◌, true, Bool, ◌||◌, ℕ, leb, T, eqb}
use Rattle.std.proofs.Math.Path.{refl, ap}
use Rattle.std.proofs.Common.{◌∙◌, sym, ap₂, arith, eqb→eq, eqb-true}
use Rattle.std.proofs.Math.Bool.{false}
use Rattle.booleans.specs.Laws.{by_cond, both}
use Rattle.table.specs.Numbers.{whole_run}
use Rattle.table.specs.Questions.{listed, depth, loops, named, weight, share}
use Rattle.table.specs.Trees.{nil, ◌▸◌, records, node, Tree, rest, around, every_node}
use Rattle.lists.specs.Streams.{const, Stream, S, group, add}
use Rattle.lists.specs.Laws.MergeLaws.{add_zero_r, add_zero_l}
use Rattle.evaluate.specs.Evaluate.{rounds, outward, amount, inner, name, limit, start, list, fits, seen, turns, join}
use Rattle.evaluate.proofs.Laws.Monotone.{name-le}
use Rattle.simplify.specs.Nodes.{Loop, Unlimited, Plain}
use Rattle.simplify.proofs.Laws.Refines.{Refines}
use Rattle.simplify.proofs.Laws.Same.{at}

-- ---- rule 9

rounds-zero : (k : ℕ) (f : Stream) → rounds k 0 f ≡ const 0
unfolding rounds group S const
rounds-zero k f = by_cond (λ g. g ≡ const 0) (leb k 1) _ _ (λ e. refl) (λ e. refl)

pub names-run : (k : ℕ) → T (eqb k 1 || eqb k whole_run) → outward k ≡ whole_run
names-run k h = go (eqb k 1) refl h
  where
    go : (b : Bool) → eqb k 1 ≡ b → T (b || eqb k whole_run) → outward k ≡ whole_run
    go true e h = ap outward (eqb-true k 1 e) ∙ unfold outward in refl
    go false e h = ap outward (eqb→eq k whole_run h) ∙ unfold outward in refl

pub rule9-refines : (a : ℕ) (b e : Tree) → outward (name b) ≡ whole_run → Refines e (node (at (Loop (Plain 0)) Unlimited a) (b ▸ e ▸ nil))
unfolding name seen rest inner list limit turns start amount join fits listed depth loops around named weight share every_node records
rule9-refines a b e h = record {
  keeps = record {
    same_name = omega (arith, name-le e);
    same_list = λ v. sym (ap₂ add (rounds-zero (name b) (list v b)) (add_zero_r (list v e)) ∙ add_zero_l _);
    still_fits = λ v q. (both _ _ (both _ _ (both _ _ q).1).1).0;
    still_listed = λ q l. (both _ _ (both _ _ (both _ _ l).1).1).0;
    deep = omega arith;
    nested = λ d. omega arith;
    still_named = λ d q. (both _ _ (both _ _ (both _ _ q).1).1).0;
    weighed = λ d. omega arith;
    limits = λ p q. (both _ _ (both _ _ (both _ _ q).1).1).0;
  };
  fewer = λ l. omega arith;
}
