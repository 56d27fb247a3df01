-- A table that a step changed: which of its subtrees are the old one's, and what is known of them.
use Rattle.std.specs.Prelude.{◌≡◌, List, ◌++◌, ℕ, ◌+◌, ◌-◌, ◌*◌, ◌/◌, ◌≤◌, ◌<◌, take}
use Rattle.std.proofs.Math.Path.{ap, ap₂}
use Rattle.std.proofs.Common.{sym, ◌∙◌, subst, append_assoc, length-append, length-drop, take-append-drop, length-take-le, take_at, take-take}
use native.Mathlib.Omega.{arith}
use Rattle.std.proofs.Math.ListN.{drop, length}
use Rattle.std.proofs.Math.Seq.{drop-append-add, drop-drop}
use Rattle.std.proofs.lemmas.List.{drop-append-le, take-append-le}
use Rattle.table.specs.Checking.{IsTable}
use Rattle.table.specs.Numbers.{record_length}
use Rattle.table.specs.Table.{encode, encodes, forest, record_count, top}
use Rattle.table.specs.Trees.{◌▸◌, records, records_in}
use Rattle.table.proofs.Laws.Reading.{part-to}
use Rattle.table.proofs.Laws.RoundTrip.{length-encode}
use Rattle.table.proofs.Laws.Tables.{length-is}
use Rattle.table.proofs.Laws.Trees.{some-records}
use Rattle.subtrees.specs.Facts.{Outdated, Own, Surveyed, extent_at}
use Rattle.subtrees.specs.declared.Facts.{Facts}
use Rattle.subtrees.specs.Parts.{subtree, trees_at}
use Rattle.subtrees.specs.Laws.Forests.{SoundIn, row_back}
use Rattle.subtrees.specs.Laws.Parts.{back_at, past-inside, records-at, sized, sound-at, top-at}
use Rattle.rewrite.specs.Laws.Records.{subtree-bytes, subtree-sound}
use Rattle.searching.specs.Found.{NoRule, Placed, Settled}
use Rattle.writing.specs.Records.{front, slice}

-- what stands within the first k bytes
within : (k m n : ℕ) (x : List ℕ) → m + n ≤ k → k ≤ length x → take n (drop m x) ≡ take n (drop m (take k x))
within k m n x l o =
    let long : length (take k x) ≡ k = length-take-le k x o in
    let left : length (drop m (take k x)) ≡ k - m = length-drop m (take k x) ∙ ap (λ i. i - m) long in
    ap (λ y. take n (drop m y)) (sym (take-append-drop k x))
    ∙ ap (take n) (drop-append-le m (take k x) (drop k x) (omega (arith, long, l)))
    ∙ take-append-le n (drop m (take k x)) (drop k x) (omega (arith, left, l))

-- a subtree that ends at or before record `at`, up to which two tables are the same, is a subtree of both
same-before : (b c : List ℕ) → IsTable b → IsTable c → (at : ℕ) → at ≤ record_count b → at ≤ record_count c → front at b ≡ front at c
    → (j : ℕ) → j < record_count b → j + records (subtree b j) ≤ at → subtree c j ≡ subtree b j
unfolding trees_at encodes records_in SoundIn
same-before b c s u at p q e j l o =
    let t = subtree b j in
    let r = records t in
    let g = trees_at c (j + r) in
    let same : slice c j r ≡ encode t =
    within (record_length * at) (record_length * j) (record_length * r) c (omega (arith, o)) (omega (arith, q, length-is c u))
    ∙ ap (λ y. take (record_length * r) (drop (record_length * j) y)) (sym e)
    ∙ sym (within (record_length * at) (record_length * j) (record_length * r) b (omega (arith, o)) (omega (arith, p, length-is b s)))
    ∙ subtree-bytes b s j l in
    let far : record_length * j + record_length * r ≡ record_length * (j + r) = omega arith in
    let bytes : drop (record_length * j) c ≡ encodes (t ▸ g) =
    sym (take-append-drop (record_length * r) (drop (record_length * j) c))
    ∙ ap₂ ◌++◌ same (drop-drop (record_length * r) (record_length * j) c ∙ ap (λ n. drop n c) far ∙ sym (back_at c u (j + r))) in
    let count : record_count c - j ≡ records_in (t ▸ g) = omega (arith, records-at c u (j + r), o, q) in
    let sound : SoundIn (t ▸ g) = (subtree-sound b s j l, sound-at c u (j + r)) in
    top-at c j (ap₂ forest count bytes ∙ row_back (t ▸ g) sound)

module _ (b : List ℕ) (facts : List Facts) (v : Surveyed b facts) (at n : ℕ) (out : List ℕ) (p : Placed b at (at + extent_at facts at) n out) where
  -- where the subtree ended in whose place another stands now
  abbrev end : ℕ
  end = at + extent_at facts at

  abbrev new : List ℕ
  new = front at b ++ front n out

  s : IsTable b
  s = v.table

  end-inside : end ≤ record_count b
  end-inside = past-inside b facts (sized b facts v) at p.inside

  front_long : length (front at b) ≡ record_length * at
  front_long = length-take-le (record_length * at) b (omega (arith, p.inside, length-is b s))

  parts : new ≡ (front at b ++ encode p.tree) ++ drop (record_length * end) b
  parts = ap (λ y. front at b ++ y) p.bytes ∙ sym (append_assoc (front at b) (encode p.tree) (drop (record_length * end) b))

  first-long : length (front at b ++ encode p.tree) ≡ record_length * (at + records p.tree)
  first-long = length-append (front at b) (encode p.tree) ∙ omega (arith, front_long, length-encode p.tree)

  module _ (u : IsTable new) where
    count : record_count new ≡ at + n
    count =
        let long : length new ≡ length (front at b ++ encode p.tree) + length (drop (record_length * end) b) = ap length parts ∙ length-append (front at b ++ encode p.tree) (drop (record_length * end) b) in
        omega (arith, long, first-long, length-drop (record_length * end) b, length-is b s, length-is new u, p.count, end-inside)

    same-front : front at b ≡ front at new
    same-front = sym (take_at (front at b) (front n out) (record_length * at) front_long)

    -- what stood behind the subtree stands at the end
    same-behind : (k : ℕ) → k < record_count b - end → subtree new (record_count new - (record_count b - end) + k) ≡ subtree b (end + k)
    unfolding subtree trees_at
    same-behind k l =
        let i = record_count new - (record_count b - end) + k in
        let left : record_count new - i ≡ record_count b - (end + k) = omega (arith, count, p.count, l) in
        let far : record_length * i ≡ length (front at b ++ encode p.tree) + record_length * k = omega (arith, first-long, count, p.count) in
        let near : record_length * end + record_length * k ≡ record_length * (end + k) = omega arith in
        let bytes : drop (record_length * i) new ≡ drop (record_length * (end + k)) b =
        ap₂ drop far parts ∙ drop-append-add (front at b ++ encode p.tree) (drop (record_length * end) b) (record_length * k)
        ∙ drop-drop (record_length * k) (record_length * end) b ∙ ap (λ m. drop m b) near in
        ap top (ap₂ forest left bytes)

    before : (j : ℕ) → j < record_count b → j + extent_at facts j ≤ at → Own (subtree new j) facts j
    before j l o =
        let size = (sized b facts v).each j l in
        let same = same-before b new s u at (omega (arith, p.inside)) (omega (arith, count)) same-front j l (omega (arith, o, size)) in
        subst (λ t. Own t facts j) (sym same) (v.each j l)

    outdated : at + n ≤ record_count b → Outdated new facts at end (record_count b - end)
    outdated f = record {
      changed = omega (arith, count, p.count);
      fewer = omega (arith, count, f, end-inside);
      room = omega (arith, v.room, end-inside);
      behind = λ k l. subst (λ t. Own t facts (end + k)) (sym (same-behind k l)) (v.each (end + k) (omega (arith, l)));
      before = λ j l o. before j (omega (arith, l, p.inside)) o;
    }

    settled : {facts' : List Facts} → Surveyed new facts' → Settled new facts' at
    settled {facts'} w j l o =
        let size = (sized new facts' w).each j l in
        let same = same-before new b u s at (omega (arith, count)) (omega (arith, p.inside)) (sym same-front) j l (omega (arith, o, size)) in
        subst NoRule same (p.quiet j (omega (arith, o, size, some-records (subtree new j))))

-- ---- the table in the first bytes of a buffer, and after the step

module _ (work spare : List ℕ) (facts : List Facts) (len at m : ℕ) (v : Surveyed (take len work) facts) (p : Placed (take len work) at (at + extent_at facts at) m spare) (u : IsTable (front at (take len work) ++ front m spare))
    (l : record_length * (at + m) ≤ len) (o : len ≤ length work) where
  records-in : record_count (take len work) ≡ len / record_length
  records-in = ap (λ n. n / record_length) (length-take-le len work o)

  pub end-within : at + extent_at facts at ≤ len / record_length
  end-within = omega (arith, records-in, past-inside (take len work) facts (sized (take len work) facts v) at p.inside)

  module _ (new : List ℕ) (r : ℕ) (w : front r new ≡ front at work ++ slice spare 0 m) where
    pub edited-is : front r new ≡ front at (take len work) ++ front m spare
    edited-is = w ∙ ap (λ y. y ++ front m spare) (sym (take-take (record_length * at) len work (omega (arith, l))))

    pub part-outdated : let b = take (record_length * r - 0) (drop 0 new) in IsTable b × Outdated b facts at (at + extent_at facts at) (len / record_length - (at + extent_at facts at))
    part-outdated =
        let rest : record_count (take len work) - (at + extent_at facts at) ≡ len / record_length - (at + extent_at facts at) = ap (λ n. n - (at + extent_at facts at)) records-in in
        rw (part-to new (record_length * r), edited-is) (u, subst (Outdated _ facts at (at + extent_at facts at)) rest (outdated (take len work) facts v at m spare p u (omega (arith, records-in, l))))

    pub part-settled : {facts' : List Facts} → Surveyed (take (record_length * r - 0) (drop 0 new)) facts' → Surveyed (front r new) facts' × Settled (front r new) facts' at
    part-settled {facts'} q =
        let x : Surveyed (front r new) facts' = rw (part-to new (record_length * r)) at q in
        (x, subst (λ b. Settled b facts' at) (sym edited-is) (settled (take len work) facts v at m spare p u (subst (λ b. Surveyed b facts') edited-is x)))
