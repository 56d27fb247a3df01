-- A former desk's values with each paired symbol's again as its later one: what questions 9, 13 and 14 say of them.
use Rattle.std.specs.Prelude.{◌≡◌, List, [], ◌∷◌, ◌++◌, T, eqb, drop, get_or, length}
use Rattle.std.proofs.Math.Path.{refl, ap₂}
use Rattle.std.proofs.Common.{ap, sym, ◌∙◌, arith, eqb→eq, le→leb, leb→le, ltb→lt, length-append, length-drop, get_or-append-add, get_or-drop, eq-eqb}
use Prim.Native.Nat.{ℕ, zero, suc, ◌+◌, ◌-◌, ◌≤◌}
use Rattle.std.proofs.Math.ListN.{get_or-append}
use Rattle.booleans.specs.Tests.{◌and◌}
use Rattle.booleans.specs.Laws.{both, is_T, join-and, same_test}
use Rattle.table.specs.Checking.{limit_count, record_in_range}
use Rattle.table.specs.Limits.{limit_holds, most_holds}
use Rattle.table.specs.Numbers.{first_paired_symbol, first_time_symbol, how_many_symbols, how_many_values, later_place}
use Rattle.table.specs.Questions.{most_in_range}
use Rattle.table.specs.Table.{each_by, first_node}
use Rattle.table.specs.declared.Limit.{Limit}
use Rattle.table.specs.declared.Limit.TheVariants.{AtMost, Unlimited}
use Rattle.table.specs.declared.Most.{Most}
use Rattle.evaluate.specs.Evaluate.{Values, values_of}
use Rattle.values.specs.Values.{ceiling, later_low, question14, question9, ranged, record_small, triangle_small}
use Rattle.values.proofs.Laws.Values.{time-ceiling}
use Rattle.former.specs.Former.{former_length}
use Rattle.formerquotes.specs.Answers.{former_question9, with_laters}
use Rattle.formerquotes.proofs.Laws.Evaluation.{Repeats, symbol-was}

-- ---- 9

-- among times it does not matter which is asked
ranged-times : (i j : ℕ) (xs : List ℕ) → first_time_symbol ≤ i → first_time_symbol ≤ j → T (ranged i xs) → T (ranged j xs)
unfolding ranged
ranged-times i j [] l m h = tt
ranged-times i j (x ∷ xs) l m h =
    let (a, b) = both _ _ h in
    let e = time-ceiling i l ∙ sym (time-ceiling j m) in
    let low = leb→le x (ceiling i) a in
    join-and _ _ (le→leb x (ceiling j) (omega arith)) (ranged-times (suc i) (suc j) xs (omega arith) (omega arith) b)

ranged-front : (i : ℕ) (xs ys : List ℕ) → T (ranged i (xs ++ ys)) → T (ranged i xs)
unfolding ranged
ranged-front i [] ys h = tt
ranged-front i (x ∷ xs) ys h = let (a, b) = both _ _ h in join-and _ _ a (ranged-front (suc i) xs ys b)

ranged-joined : (i : ℕ) (xs ys : List ℕ) → T (ranged i xs) → T (ranged (i + length xs) ys) → T (ranged i (xs ++ ys))
unfolding ranged
ranged-joined i [] ys h k = let e : i + 0 ≡ i = omega arith in rw e at k
ranged-joined i (x ∷ xs) ys h k =
    let (a, b) = both _ _ h in
    let e : i + suc (length xs) ≡ suc i + length xs = omega arith in
    join-and _ _ a (ranged-joined (suc i) xs ys b (rw e at k))

ranged-behind : (i n : ℕ) (xs : List ℕ) → T (ranged i xs) → T (ranged (i + n) (drop n xs))
unfolding ranged
ranged-behind i zero xs h = let e : i + 0 ≡ i = omega arith in rw e h
ranged-behind i (suc n) [] h = tt
ranged-behind i (suc n) (x ∷ xs) h = let e : i + suc n ≡ suc i + n = omega arith in rw e (ranged-behind (suc i) n xs (both _ _ h).1)

long-now : (vs : List ℕ) → length (with_laters vs) ≡ length vs + (length vs - first_paired_symbol)
long-now vs = length-append vs (drop first_paired_symbol vs) ∙ ap (λ n. length vs + n) (length-drop first_paired_symbol vs)

pub nine-was : (vs : List ℕ) → question9 (with_laters vs) ≡ former_question9 vs
unfolding question9 former_question9
nine-was vs = same_test _ _ was is
  where
    was : T (eqb (length (with_laters vs)) how_many_values and ranged 0 (with_laters vs)) → T (eqb (length vs) how_many_symbols and ranged 0 vs)
    was h =
        let (a, b) = both _ _ h in
        let n = eqb→eq (length (with_laters vs)) how_many_values a in
        let m : length vs ≡ how_many_symbols = omega (arith, n, long-now vs) in
        join-and _ _ (is_T _ (eq-eqb (length vs) how_many_symbols m)) (ranged-front 0 vs (drop first_paired_symbol vs) b)

    is : T (eqb (length vs) how_many_symbols and ranged 0 vs) → T (eqb (length (with_laters vs)) how_many_values and ranged 0 (with_laters vs))
    is h =
        let (a, b) = both _ _ h in
        let n = eqb→eq (length vs) how_many_symbols a in
        let m : length (with_laters vs) ≡ how_many_values = omega (arith, n, long-now vs) in
        let k = ranged-behind 0 first_paired_symbol vs b in
        join-and _ _ (is_T _ (eq-eqb (length (with_laters vs)) how_many_values m))
        (ranged-joined 0 vs (drop first_paired_symbol vs) b (ranged-times (0 + first_paired_symbol) (0 + length vs) (drop first_paired_symbol vs) (omega arith) (omega arith) k))

-- ---- each value

pub repeats : (vs : List ℕ) → T (former_question9 vs) → Repeats (values_of vs) (values_of (with_laters vs))
unfolding former_question9
repeats vs h = record { first = λ k l. get_or-append vs (drop first_paired_symbol vs) 0 k (omega (arith, long)); again = λ k l m. go k l }
  where
    long : length vs ≡ how_many_symbols
    long = eqb→eq (length vs) how_many_symbols (both _ _ h).0

    go : (k : ℕ) → first_paired_symbol ≤ k → get_or (with_laters vs) (k + later_place) 0 ≡ get_or vs k 0
    go k l =
        let e : k + later_place ≡ length vs + (k - first_paired_symbol) = omega (arith, long) in
        let i : first_paired_symbol + (k - first_paired_symbol) ≡ k = omega arith in
        ap (λ x. get_or (with_laters vs) x 0) e ∙ get_or-append-add vs (drop first_paired_symbol vs) (k - first_paired_symbol) 0
        ∙ get_or-drop first_paired_symbol vs (k - first_paired_symbol) 0 ∙ ap (λ x. get_or vs x 0) i

-- ---- 14

module _ (v w : Values) (o : Repeats v w) where
  low : (n s : ℕ) → first_paired_symbol ≤ s → s + n ≤ how_many_symbols → T (later_low n s w)
  unfolding later_low
  low zero s l m = tt
  low (suc n) s l m =
      let a = o.again s l (omega arith) in
      let b = o.first s (omega arith) in
      join-and _ _ (le→leb (w (s + later_place)) (w s) (omega arith)) (low n (suc s) (omega arith) (omega arith))

  -- ---- 13, of a limit that question 3 lets pass

  most-small : (m : Most) → T (most_in_range m) → triangle_small w m ≡ triangle_small v m
  unfolding triangle_small most_in_range
  most-small (Most.Plain n) h = refl
  most-small (Most.Symbol s) h = refl
  most-small (Most.Triangular s) h = rw (symbol-was v w o s (ltb→lt s first_time_symbol h)) refl

  limit-small : (l : Limit) → T (limit_count l) → most_holds (triangle_small w) l ≡ most_holds (triangle_small v) l
  unfolding limit_holds limit_count
  limit-small Unlimited h = refl
  limit-small (AtMost k m) h = most-small m h

  pub thirteen-was : (n : ℕ) (b : List ℕ) → T (each_by former_length record_in_range n b) → each_by former_length (record_small w) n b ≡ each_by former_length (record_small v) n b
  unfolding each_by record_small record_in_range
  thirteen-was zero b h = refl
  thirteen-was (suc n) b h =
      let (a, c) = both _ _ h in
      ap₂ ◌and◌ (limit-small (first_node b).limit (both _ _ a).1) (thirteen-was n (drop former_length b) c)

pub fourteen-now : (vs : List ℕ) → T (former_question9 vs) → T (question14 (with_laters vs))
unfolding question14
fourteen-now vs h = low (values_of vs) (values_of (with_laters vs)) (repeats vs h) _ first_paired_symbol (omega arith) (omega arith)
