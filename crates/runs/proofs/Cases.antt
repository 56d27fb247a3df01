-- Trees of document 01's cases C, D, E, F, H and I, and admitted runs of them. Each costs the figure, except that case I's figure is 66: Laws/CaseI shows that
-- 46 is the most that is admitted there. Five more trees show what these cases do not. No tree but the last two has a symbol, so all of it but those trees'
-- runs holds at all values.
use Rattle.std.proofs.Math.Path.{refl}
use Rattle.std.specs.Prelude.{cond, ◌⊎◌, ℕ, T, eqb}
use mathlib.Core.List.{List, [], ◌∷◌, map}
use Rattle.std.proofs.Common.{inl, arith}
use Rattle.std.proofs.Math.Logic.{inr}
use Rattle.booleans.specs.Tests.{◌and◌}
use Rattle.table.specs.Notation.{◌/T◌at◌, ◌/◌at◌, block, both, either, loop, sequence, symbol}
use Rattle.triangular.specs.Triangular.{rule, triangular}
use Rattle.table.specs.Questions.{paired}
use Rattle.table.specs.Trees.{Tree, nil, ◌▸◌, rest}
use Rattle.runs.specs.Nodes.{AtMost, Most}
use Rattle.evaluate.specs.Evaluate.{Values, amount, later, outward, allowed}
use Rattle.evaluate.specs.Closed.{is_unlimited}
use Rattle.runs.specs.Runs.{Costs, Pass, Run, charge, charged, cost, count, here, limit_at, limit_free, out, own_charge, seen_limit, total}
use Rattle.runs.proofs.Laws.Admits.{admits, every, every_spot, is_run, keeps_here, keeps_limit, run-costs}

-- ---- the trees

-- case C with limit 1, case D with limit 0
unfoldable pub case_c : (m : ℕ) → Tree
case_c m = loop 3 (either (block 10 / m at 1) (block 5)) (block 0)

-- document 003's example 4.5, with the inner loop's limit on loop k: case E with 2, case F with 1
unfoldable pub case_e : (k : ℕ) → Tree
case_e k =
    loop 3 (both (block 5) (loop 3 (sequence (block 5 ▸ either (block 10 / 1 at k) (block 0) ▸ block 15 ▸ nil)) (block 5))) (block 5)

-- the term that case H's two alternatives share
unfoldable pub term : Tree
term = either (block 10 / 1 at 1) (block 0)

unfoldable pub case_h : Tree
case_h = loop 2 (either (both (block 5) term) (both (block 4) term)) (block 0)

-- case I with this first child of the inner loop's body
unfoldable pub case_i : Tree → Tree
case_i a = loop 3 (loop 3 (both a (either (block 10 / 1 at 2) (block 0))) (block 0)) (block 0)

-- the one with case I's limited 0
unfoldable pub limited_zero : Tree
limited_zero = either (block 0 / 1 at 1) (block 4)

-- no case of document 01: a loop whose exit has a limit, which names the loop around, since an exit is outside its own
unfoldable pub limited_exit : Tree
limited_exit = loop 2 (loop 1 (block 0) (block 10 / 1 at 1)) (block 0)

-- no case of document 01: a limited loop, and a limit on the whole run
unfoldable pub limited_loop : Tree
limited_loop = loop 2 (loop 3 (block 5) (block 0) / 1 at 1) (block 4 / 1 at 255)

-- no case of document 01: a limit of two passes in the whole run, within two loops
unfoldable pub limited_run : Tree
limited_run = loop 3 (loop 2 (block 5 / 2 at 255) (block 1)) (block 0)

-- document 02's triangular loop: at most the triangular number of symbol 0 passes of the block in the outer loop's pass
unfoldable pub shrinking : Tree
shrinking = loop 2 (loop 2 (block 7 /T 0 at 2) (block 0)) (block 0)

-- document 02's symbols with a first and a later value: two blocks with one of them, the first in a loop
unfoldable pub paired_twice : Tree
paired_twice = both (loop 3 (symbol 24) (block 0)) (symbol 24)

-- to unfold this is to unfold all that the trees, and a run's test and cost, compute with
unfoldable pub computed : ℕ
unfolding case_c case_e term case_h case_i limited_zero limited_exit limited_loop limited_run shrinking paired_twice block symbol paired ◌/◌at◌ ◌/T◌at◌ triangular rule sequence both either loop ◌and◌ rest allowed amount later outward out seen_limit limit_at count total charged own_charge charge cost keeps_limit keeps_here every_spot every admits is_run
computed = 0

-- the first value of symbol 24 is 10, and every other value 4
unfoldable pub first_ten : Values
first_ten k = cond (eqb k 24) 10 4

-- ---- their passes

-- of a choice of two blocks: of the first, or of the second
abbrev Chosen : Type 0
Chosen = Unit {0} ⊎ (Unit {0} ⊎ ⊥)

abbrev first : Chosen
first = inl tt

abbrev second : Chosen
second = inr (inl tt)

-- of a loop: these of its body, then one of its exit, a block
abbrev LoopPass : Type 0 → Type 0
LoopPass A = List A × (Unit {0} × Unit {0})

abbrev going_round : {A : Type 0} → List A → LoopPass A
going_round rs = (rs, (tt, tt))

-- of example 4.5's outer body, by what its inner loop's passes choose
abbrev body_e : List Chosen → Unit {0} × (LoopPass (Unit {0} × (Chosen × (Unit {0} × Unit {0}))) × Unit {0})
body_e cs = (tt, (going_round (map (λ c. (tt, (c, (tt, tt)))) cs), tt))

-- of case I's inner loop, by what the second choice chooses; the first takes 4 each time
abbrev inner_i : List Chosen → LoopPass (Chosen × (Chosen × Unit {0}))
inner_i cs = going_round (map (λ c. (second, (c, tt))) cs)

-- two of the body of the tree with a limited exit
unfoldable pub exit_twice : Pass limited_exit
unfolding computed
exit_twice = going_round (going_round [] ∷ going_round [] ∷ [])

-- ---- their runs

module _ (v : Values) where
  -- 10, 5 and 5
  pub run-C : Costs v (case_c 1) 20
  unfolding computed
  run-C = run-costs v (case_c 1) (going_round (first ∷ second ∷ second ∷ [])) 20 tt refl

  -- 5, 5 and 5
  pub run-D : Costs v (case_c 0) 15
  unfolding computed
  run-D = run-costs v (case_c 0) (going_round (second ∷ second ∷ second ∷ [])) 15 tt refl

  -- the 10 once in the outer loop's pass
  pub run-E : Costs v (case_e 2) 225
  unfolding computed
  run-E =
      let none = body_e (second ∷ second ∷ second ∷ []) in
      run-costs v (case_e 2) (going_round (body_e (first ∷ second ∷ second ∷ []) ∷ none ∷ none ∷ [])) 225 tt refl

  -- the 10 once in each pass of the inner loop
  pub run-F : Costs v (case_e 1) 245
  unfolding computed
  run-F =
      let once = body_e (first ∷ second ∷ second ∷ []) in
      run-costs v (case_e 1) (going_round (once ∷ once ∷ once ∷ [])) 245 tt refl

  -- 5 and 10, then 4 and 10: two limited nodes, each passed once
  pub run-H : Costs v case_h 29
  unfolding computed
  run-H = run-costs v case_h (going_round (inl (tt, (first, tt)) ∷ inr (inl (tt, (first, tt))) ∷ [])) 29 tt refl

  -- the 10 once in the outer loop's pass, and 4 nine times
  pub run-I : Costs v (case_i limited_zero) 46
  unfolding computed
  run-I =
      let none = inner_i (second ∷ second ∷ second ∷ []) in
      run-costs v (case_i limited_zero) (going_round (inner_i (first ∷ second ∷ second ∷ []) ∷ none ∷ none ∷ [])) 46 tt refl

  -- 5 three times and 4: the outer loop goes round less often than its bound, and three rounds of the inner loop are one pass of it
  pub run-limited_loop : Costs v limited_loop 19
  unfolding computed
  run-limited_loop = run-costs v limited_loop (going_round (going_round (tt ∷ tt ∷ tt ∷ []) ∷ [])) 19 tt refl

  -- 5, 5 and 1, then 1: the inner loop's second pass goes round not at all, and the run makes both passes that the limit allows
  pub run-limited_run : Costs v limited_run 12
  unfolding computed
  run-limited_run = run-costs v limited_run (going_round (going_round (tt ∷ tt ∷ []) ∷ going_round [] ∷ [])) 12 tt refl

  -- the outer loop's pass may not pass the limited exit twice
  pub exit-outside : Run v limited_exit exit_twice → ⊥
  unfolding computed exit_twice here
  exit-outside h =
      let held : here v (AtMost 1 (Most.Plain 1)) 2 = h.inside.1 (inr (inr (inl (inl tt)))) in
      absurd (omega (arith, held (omega arith)))

-- with symbol 0 at 2, three passes of the block: two in the first round, and one in the second
pub run-shrinking : Costs (λ k. 2) shrinking 21
unfolding computed
run-shrinking = run-costs (λ k. 2) shrinking (going_round (going_round (tt ∷ tt ∷ []) ∷ going_round (tt ∷ []) ∷ [])) 21 tt refl

-- with symbol 24 at 10 and later at 4: 10, 4 and 4, then 10 again, since each block has a first pass of its own
pub run-paired_twice : Costs first_ten paired_twice 28
unfolding computed first_ten
run-paired_twice = run-costs first_ten paired_twice (going_round (tt ∷ tt ∷ tt ∷ []), (tt, tt)) 28 tt refl

-- ---- which trees have no limit

-- one with every kind of node, and no limit on any
pub none-limited : T (limit_free (loop 3 (sequence (either (block 10) (block 5) ▸ nil)) (block 4)))
unfolding computed limit_free is_unlimited
none-limited = tt

-- not one with a limit on an exit within a body
pub exit-limited : T (limit_free limited_exit) → ⊥
unfolding computed limit_free is_unlimited
exit-limited h = h
