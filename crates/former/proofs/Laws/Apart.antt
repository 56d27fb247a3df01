-- No former table that was accepted passes as a table: what would be the last four bytes of its first record is the second record's limit, and no limit
-- was as large as these bytes ask.
use Rattle.std.specs.Prelude.{◌≡◌, ◌&&◌, List, ℕ, zero, suc, ◌<◌, ◌≤◌, ◌/◌, ◌%◌, T, eqb, drop, get_or, length}
use Rattle.std.proofs.Common.{◌∙◌, arith, eqb→eq, leb→le, ltb→lt, get_or-drop}
use Rattle.booleans.specs.Laws.{&&-both, both}
use Rattle.table.specs.Checking.{fields_listed, flags_listed, kind_listed, limit_count, limit_listed, question1, question2, questions, record_in_range, record_listed, refusal}
use Rattle.table.specs.Numbers.{first_time_symbol, most_count, record_length}
use Rattle.table.specs.Questions.{most_in_range}
use Rattle.table.specs.Table.{field, first_node, limit_from, most_from, record_count}
use Rattle.table.proofs.Laws.Asking.{Yes, all_yes, numbered}
use Rattle.table.proofs.Laws.Canonical.{listed-parts}
use Rattle.table.proofs.Laws.Reading.{each_at, field-4}
use Rattle.former.specs.Former.{former_count, former_length, former_question1, former_questions, former_refusal}

-- a limit's field that questions 2 and 3 let pass
most-low : (s m : ℕ) → T (most_in_range (most_from s m)) → m ≤ most_count
unfolding most_in_range most_from
most-low zero m h = leb→le m most_count h
most-low (suc zero) m h = omega (arith, ltb→lt m first_time_symbol h)
most-low (suc (suc s)) m h = omega (arith, ltb→lt m first_time_symbol h)

limit-low : (k s m : ℕ) → T (limit_listed k s m) → T (limit_count (limit_from k (most_from s m))) → m ≤ most_count
unfolding limit_count limit_from
limit-low zero s m t h = omega (arith, eqb→eq m 0 (&&-both (eqb s 0) (eqb m 0) t).1)
limit-low (suc k) s m t h = most-low s m h

field-low : (b : List ℕ) → T (fields_listed b) → T (record_in_range b) → field b 4 4 ≤ most_count
unfolding record_in_range first_node
field-low b t h =
    let S = kind_listed (get_or b 0 0) (get_or b 2 0) (get_or b 1 0 % 2) (field b 8 8) in
    let N = limit_listed (get_or b 3 0) (get_or b 1 0 / 2) (field b 4 4) in
    let F = flags_listed (get_or b 1 0 / 2) in
    limit-low (get_or b 3 0) (get_or b 1 0 / 2) (field b 4 4) (&&-both S N (&&-both (S && N) F t).0).1 (both _ _ h).1

-- what a length that both first questions let pass is at least
two_records : (b : List ℕ) → T (question1 b) → T (former_question1 b) → (0 < record_count b) × (1 < former_count b)
unfolding question1 former_question1
two_records b h i =
    let (p, s) = both _ _ h in
    let (q, r) = both _ _ i in
    let new : record_length ≤ length b = leb→le _ _ (both _ _ p).1 in
    let old : length b % former_length ≡ 0 = eqb→eq _ _ (both _ _ q).0 in
    omega arith

pub never_both : (b : List ℕ) → former_refusal b ≡ 0 → refusal b ≡ 0 → ⊥
unfolding refusal questions former_refusal former_questions question2 numbered Yes
never_both b e f =
    let y = all_yes (former_questions b) tt e in
    let z = all_yes (questions b) tt f in
    let (one, two) = two_records b z.0 y.0 in
    let c = drop former_length b in
    let low = field-low c (each_at former_length fields_listed (former_count b) b 1 y.1.0 two) (each_at former_length record_in_range (former_count b) b 1 y.1.1.0 two) in
    let (i, j, k, l) = (listed-parts b (each_at record_length record_listed (record_count b) b 0 z.1.0 one)).fill in
    omega (arith, low, field-4 c 4, get_or-drop former_length b 4 0 ∙ i, get_or-drop former_length b 5 0 ∙ j, get_or-drop former_length b 6 0 ∙ k, get_or-drop former_length b 7 0 ∙ l)
