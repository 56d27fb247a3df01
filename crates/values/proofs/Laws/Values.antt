-- The questions about values: question 13 by the table's tree, and questions 9 and 14 as a program puts them, value by value, with what they say of each.
use Rattle.std.specs.Prelude.{◌≡◌, Bool, true, List, [], ◌∷◌, ℕ, zero, suc, ◌+◌, ◌-◌, ◌<◌, ◌≤◌, T, eqb, length, get_or, drop}
use Rattle.std.proofs.Math.Path.{refl}
use Rattle.std.proofs.Common.{sym, subst, ◌∙◌, add-zero, arith, leb→le, ltb→lt, eqb→eq, drop-cons, eq-eqb, ne_eqb, le-leb, le-ltb, lt-ltb}
use Rattle.std.proofs.Math.Bool.{false}
use Rattle.std.proofs.Math.Seq.{drop-length}
use Rattle.std.proofs.lemmas.Bool.{eqb-false, lt-leb}
use Rattle.booleans.specs.Tests.{◌and◌}
use Rattle.booleans.specs.Laws.{both, by_cond, is_T}
use Rattle.table.specs.Asking.{first_no}
use Rattle.table.specs.Numbers.{how_many_values, how_many_symbols, first_paired_symbol, first_time_symbol, later_place, most_count, most_time}
use Rattle.table.specs.Questions.{paired, paired_symbol}
use Rattle.table.specs.declared.Number.TheVariants.{Symbol}
use Rattle.table.specs.Checking.{IsTable}
use Rattle.table.specs.Limits.{every_most}
use Rattle.table.specs.Table.{decode, record_count, without_four}
use Rattle.table.specs.declared.Most.{Most}
use Rattle.table.proofs.Laws.Limits.{each-follows, no_flag, table-limits}
use Rattle.triangular.specs.Triangular.{most_triangular, rule}
use Rattle.evaluate.specs.Evaluate.{Values, allowed, later, values_of}
use Rattle.evaluate.proofs.Laws.Amounts.{allowed-rule}
use Rattle.evaluate.proofs.Laws.Times.{later-is}
use Rattle.table.proofs.Laws.Asking.{Yes, all_yes, numbered, yes-all}
use Rattle.values.specs.Flags.{flag_free}
use Rattle.values.specs.Values.{ceiling, later_low, question13, question14, question9, ranged, record_small, triangle_small, value_questions, values_refusal}

pub values-nine : (b vs : List ℕ) → values_refusal b vs ≡ 0 → T (question9 vs)
unfolding values_refusal value_questions numbered Yes
values-nine b vs e = (all_yes (value_questions b vs) tt e).0

pub nine-long : (vs : List ℕ) → T (question9 vs) → length vs ≡ how_many_values
unfolding question9
nine-long vs h = eqb→eq (length vs) how_many_values (both _ _ h).0

pub values-long : (b vs : List ℕ) → values_refusal b vs ≡ 0 → length vs ≡ how_many_values
values-long b vs e = nine-long vs (values-nine b vs e)

-- the same of two tables and values, where 9 and 14 say the same and, where 9 says yes, 13 does
pub refusals-alike : (b c vs ws : List ℕ) → question9 vs ≡ question9 ws → question14 vs ≡ question14 ws → (T (question9 vs) → question13 b vs ≡ question13 c ws) → values_refusal b vs ≡ values_refusal c ws
refusals-alike b c vs ws n m w = go (question9 vs) refl
  where
    go : (r : Bool) → question9 vs ≡ r → values_refusal b vs ≡ values_refusal c ws
    go true e = unfold values_refusal value_questions first_no in rw (← n, e, ← m, w (is_T _ e)) refl
    go false e = unfold values_refusal value_questions first_no in rw (← n, e) refl

pub values-thirteen : (b vs : List ℕ) → values_refusal b vs ≡ 0 → T (question13 b vs)
unfolding values_refusal value_questions numbered Yes
values-thirteen b vs e = (all_yes (value_questions b vs) tt e).1.0

pub values-fourteen : (b vs : List ℕ) → values_refusal b vs ≡ 0 → T (question14 vs)
unfolding values_refusal value_questions numbered Yes
values-fourteen b vs e = (all_yes (value_questions b vs) tt e).1.1.0

-- question 13, of the table's tree
pub thirteen-limits : (b vs : List ℕ) → IsTable b → question13 b vs ≡ every_most (triangle_small (values_of vs)) (decode b)
unfolding question13 record_small
thirteen-limits b vs i = table-limits (λ k m. triangle_small (values_of vs) m) b i

-- Values that one table's questions let pass pass another's, where what holds of the number of every limit of the one tree does of the other's.
pub values-carry : (b c vs : List ℕ) → IsTable b → IsTable c → ((q : Most → Bool) → T (every_most q (decode b)) → T (every_most q (decode c)))
    → values_refusal b vs ≡ 0 → values_refusal c vs ≡ 0
unfolding values_refusal value_questions Yes
values-carry b c vs i j limits e =
    let small : T (question13 c vs) = subst T (sym (thirteen-limits c vs j)) (limits _ (subst T (thirteen-limits b vs i) (values-thirteen b vs e))) in
    yes-all (value_questions c vs) (values-nine b vs e, (small, (values-fourteen b vs e, tt)))

-- where 13 lets a symbol pass under flag 4, the limit is the rule's number itself, and not that of a smaller value
pub small-rule : (v : Values) (s : ℕ) → T (triangle_small v (Most.Triangular s)) → allowed v (Most.Triangular s) ≡ rule (v s)
unfolding triangle_small
small-rule v s h = allowed-rule v s (leb→le (v s) most_triangular h)

-- a record without flag 4 is not asked 13
pub small-unflagged : (v : Values) (b : List ℕ) → without_four b ≡ true → record_small v b ≡ true
unfolding record_small triangle_small
small-unflagged v b e = no_flag (triangle_small v) (λ n. refl) (λ s. refl) b e

-- nor a table without it
pub free-small : (b vs : List ℕ) → flag_free b ≡ true → question13 b vs ≡ true
unfolding flag_free question13
free-small b vs e = each-follows _ _ (small-unflagged (values_of vs)) (record_count b) b e

-- ---- question 14, symbol by symbol

-- the paired symbols before s are in order, and the others are asked yet
abbrev pub Ordered : (v : Values) (s : ℕ) → Type 0
Ordered v s = later_low (how_many_symbols - first_paired_symbol) first_paired_symbol v ≡ later_low (how_many_symbols - s) s v

left_one : (s : ℕ) → s < how_many_symbols → how_many_symbols - s ≡ suc (how_many_symbols - suc s)
left_one s l = omega arith

pub one-ordered : (v : Values) (s : ℕ) → s < how_many_symbols → Ordered v s → v (s + later_place) ≤ v s → Ordered v (suc s)
unfolding later_low ◌and◌
one-ordered v s l h r = h ∙ rw (left_one s l, le-leb (v (s + later_place)) (v s) r) refl

pub one-exceeds : (vs : List ℕ) (s : ℕ) → s < how_many_symbols → Ordered (values_of vs) s → values_of vs s < values_of vs (s + later_place) → false ≡ question14 vs
unfolding question14 later_low ◌and◌
one-exceeds vs s l h r = sym (h ∙ rw (left_one s l, lt-leb (values_of vs (s + later_place)) (values_of vs s) r) refl)

pub all-ordered : (vs : List ℕ) (s : ℕ) → s ≡ how_many_symbols → Ordered (values_of vs) s → true ≡ question14 vs
unfolding question14 later_low
all-ordered vs s q h = sym (h ∙ rw q refl)

later-low : (v : Values) (n s k : ℕ) → T (later_low n s v) → s ≤ k → k < s + n → v (k + later_place) ≤ v k
unfolding later_low
later-low v zero s k h l m = absurd (omega arith)
later-low v (suc n) s k h l m =
    let (a, b) = both _ _ h in
    by_cond (λ (x : ℕ). v (k + later_place) ≤ v k) (eqb s k) 0 0
    (λ e. subst (λ x. v (x + later_place) ≤ v x) (eqb→eq s k e) (leb→le _ _ a))
    (λ e. later-low v n (suc s) k b (omega (arith, eqb-false s k e)) (omega arith))

pub pair-low : (vs : List ℕ) → T (question14 vs) → (k : ℕ) → first_paired_symbol ≤ k → k < how_many_symbols → values_of vs (k + later_place) ≤ values_of vs k
unfolding question14
pair-low vs h k l m = later-low (values_of vs) _ first_paired_symbol k h l (omega arith)

-- so a paired symbol's later value is the desk's own
pub later-own : (vs : List ℕ) → T (question14 vs) → (k : ℕ) → T (paired_symbol k) → later (values_of vs) (Symbol k) ≡ values_of vs (k + later_place)
unfolding paired
later-own vs h k p = let (a, b) = both _ _ p in later-is (values_of vs) k p (pair-low vs h k (leb→le first_paired_symbol k a) (ltb→lt k how_many_symbols b))

-- ---- question 9, value by value

-- the values before i are in range, and the others are asked yet
abbrev pub Asked : (vs : List ℕ) (i : ℕ) → Type 0
Asked vs i = ranged 0 vs ≡ ranged i (drop i vs)

pub none-asked : (vs : List ℕ) → Asked vs 0
none-asked vs = refl

pub one-asked : (vs : List ℕ) (i : ℕ) → i < length vs → Asked vs i → get_or vs i 0 ≤ ceiling i → Asked vs (suc i)
unfolding ranged ◌and◌
one-asked vs i l h r = h ∙ rw (drop-cons vs i 0 l, le-leb (get_or vs i 0) (ceiling i) r) refl

pub one-over : (vs : List ℕ) (i : ℕ) → i < length vs → length vs ≡ how_many_values → Asked vs i → ceiling i < get_or vs i 0 → false ≡ question9 vs
unfolding question9 ranged ◌and◌
one-over vs i l e h r = sym (rw (eq-eqb (length vs) how_many_values e) (h ∙ rw (drop-cons vs i 0 l, lt-leb (get_or vs i 0) (ceiling i) r) refl))

pub all_asked : (vs : List ℕ) (i : ℕ) → i ≡ length vs → length vs ≡ how_many_values → Asked vs i → true ≡ question9 vs
unfolding question9 ranged ◌and◌
all_asked vs i q e h = sym (rw (eq-eqb (length vs) how_many_values e) (h ∙ rw (q, drop-length vs) refl))

pub other_length : (vs : List ℕ) → (length vs ≡ how_many_values → ⊥) → false ≡ question9 vs
unfolding question9 ◌and◌
other_length vs e = rw (ne_eqb (length vs) how_many_values e) refl

-- ---- what it says of a value

ranged-at : (i j : ℕ) (vs : List ℕ) → T (ranged i vs) → j < length vs → get_or vs j 0 ≤ ceiling (i + j)
unfolding ranged
ranged-at i j [] h l = absurd (omega arith)
ranged-at i zero (x ∷ xs) h l = rw add-zero (leb→le x (ceiling i) (both _ _ h).0)
ranged-at i (suc j) (x ∷ xs) h l = let e : i + suc j ≡ suc i + j = omega arith in rw e (ranged-at (suc i) j xs (both _ _ h).1 (omega arith))

pub value-ranged : (vs : List ℕ) → T (question9 vs) → (k : ℕ) → k < how_many_values → values_of vs k ≤ ceiling k
unfolding question9
value-ranged vs h k l = let e : 0 + k ≡ k = omega arith in rw e at (ranged-at 0 k vs (both _ _ h).1 (omega (arith, nine-long vs h)))

pub count-ceiling : (k : ℕ) → k < first_time_symbol → ceiling k ≡ most_count
unfolding ceiling
count-ceiling k l = rw (lt-ltb k first_time_symbol l) refl

pub time-ceiling : (k : ℕ) → first_time_symbol ≤ k → ceiling k ≡ most_time
unfolding ceiling
time-ceiling k l = rw (le-ltb k first_time_symbol l) refl

pub counts-ranged : (vs : List ℕ) → T (question9 vs) → (k : ℕ) → k < first_time_symbol → values_of vs k ≤ most_count
counts-ranged vs h k l = omega (arith, value-ranged vs h k (omega arith), count-ceiling k l)
