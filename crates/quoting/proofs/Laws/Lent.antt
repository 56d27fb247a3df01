-- The walk of a table without flag 4 needs no triangular number; where a limit is under flag 4, each is behind the values.
use Rattle.std.specs.Prelude.{◌≡◌, refl, cond, true, List, Option, ℕ, ◌+◌, T, eqb, ltb, length}
use Rattle.std.proofs.Math.Path.{ap}
use Rattle.std.proofs.Common.{sym, subst, ◌∙◌, arith, eq-eqb, lt-ltb}
use Rattle.std.proofs.Math.Dec.{eqb_refl, ltb→lt}
use Rattle.std.proofs.Math.ListN.{get_or}
use Rattle.booleans.specs.Laws.{is_T}
use Rattle.table.specs.Numbers.{first_time_symbol, how_many_symbols, how_many_values, most_depth}
use Rattle.table.specs.Questions.{most_in_range}
use Rattle.table.specs.Table.{decode, record_count}
use Rattle.table.specs.declared.Most.{Most}
use Rattle.table.proofs.Laws.Limits.{each-follows, no_flag, ranged-limits, table-limits}
use Rattle.lists.specs.declared.List.{List as Listed}
use Rattle.triangular.specs.Triangular.{triangular}
use Rattle.triangular.specs.Entries.{Triangles}
use Rattle.evaluate.specs.Evaluate.{Values, allowed, values_of}
use Rattle.evaluate.specs.Evaluator.{Agree, alike, evaluate_node, looked, triangle_in}
use Rattle.evaluate.specs.Shown.{Shows}
use Rattle.evaluate.specs.declared.Valued.{Valued}
use Rattle.values.specs.Flags.{flag_free}
use Rattle.quoting.specs.Lent.{Walked}

plain-alike : (v : Values) (n : ℕ) → alike v v (Most.Plain n) ≡ true
unfolding alike looked allowed
plain-alike v n = eq-eqb n n refl

symbol-alike : (v : Values) (s : ℕ) → alike v v (Most.Symbol s) ≡ true
unfolding alike looked allowed
symbol-alike v s = eq-eqb (v s) (v s) refl

pub free-walked : (b vs : List ℕ) (r : Option Valued) (out : Listed) → flag_free b ≡ true → Shows r out (evaluate_node (values_of vs) most_depth b) → Walked b vs r out
unfolding flag_free
free-walked b vs r out e s =
    let v = values_of vs in record {
      lent = v;
      agree = λ k l. refl;
      same = λ i. subst T (table-limits (λ k m. alike v v m) b i) (is_T _ (each-follows _ _ (no_flag (alike v v) (plain-alike v) (symbol-alike v)) (record_count b) b e));
      shows = s;
    }

module _ (vs ns : List ℕ) (long : length vs ≡ how_many_values) (t : Triangles vs ns) where
  lent-agree : Agree (values_of ns) (values_of vs)
  lent-agree k l = t.own k (omega arith)

  lent_alike : (m : Most) → T (most_in_range m) → T (alike (values_of ns) (values_of vs) m)
  unfolding alike looked allowed triangle_in most_in_range
  lent_alike (Most.Plain n) h = eqb_refl n
  lent_alike (Most.Symbol k) h = is_T (eqb (get_or ns k 0) (get_or vs k 0)) (eq-eqb _ _ (lent-agree k (omega (arith, ltb→lt k first_time_symbol h))))
  lent_alike (Most.Triangular k) h =
      let l = ltb→lt k first_time_symbol h in
      let behind : get_or ns (how_many_values + k) 0 ≡ triangular (get_or vs k 0) = ap (λ n. get_or ns (n + k) 0) (sym long) ∙ t.behind k (omega arith) in
      is_T (eqb (cond (ltb k how_many_symbols) (get_or ns (how_many_values + k) 0) 0) (triangular (get_or vs k 0))) (rw (lt-ltb k how_many_symbols (omega arith)) (eq-eqb _ _ behind))

  pub lent-walked : (b : List ℕ) (r : Option Valued) (out : Listed) → Shows r out (evaluate_node (values_of ns) most_depth b) → Walked b vs r out
  lent-walked b r out s = record {
    lent = values_of ns;
    agree = lent-agree;
    same = λ i. ranged-limits (λ k m. alike (values_of ns) (values_of vs) m) (λ k m. lent_alike m) (decode b) i.accepted.listed;
    shows = s;
  }
