-- The values of a file, as a program reads them into an array; what is decided from both files, and that values left out never lower it.
use Rattle.std.specs.Prelude.{◌≡◌, Bool, List, [], ◌∷◌, ◌++◌, ℕ, zero, suc, ◌+◌, ◌*◌, ◌-◌, ◌%◌, ◌<◌, ◌≤◌, eqb, length, get_or, take, drop, T}
use Rattle.std.proofs.Math.Path.{refl, sym, ap}
use Rattle.std.proofs.Common.{◌∙◌, subst, add-zero, zero-add, arith, length-append, length-drop, eqb→eq, le-ltb, lt-ltb, ltb-false, ltb-true}
use Rattle.std.proofs.Math.Bool.{true, false}
use Rattle.std.proofs.Math.ListN.{get_or-eq_default}
use Rattle.std.proofs.Math.Dec.{ltb}
use Rattle.std.proofs.lemmas.Bool.{eqb-false}
use Rattle.std.specs.Array.{IsFromFnResult, IsFromFnResultFrom}
use Rattle.std.specs.Fn.{Called, Mut}
use Rattle.std.proofs.lemmas.List.{ext_get_or, take-append-le, drop-append-le}
use Rattle.booleans.specs.Laws.{both, is_T, T-is}
use Rattle.refusals.specs.Refusals.{Answer, Given, Refused, refused}
use Rattle.table.specs.Numbers.{how_many_symbols, how_many_values, later_place}
use Rattle.table.specs.Bytes.{from_bytes}
use Rattle.table.specs.Asking.{◌asks◌, by_refusal, first_no}
use Rattle.table.specs.Checking.{questions, refusal}
use Rattle.table.proofs.Laws.Asking.{Yes, all_yes, left_out, number_is, numbered, refused as refused-is}
use Rattle.table.proofs.Laws.Refusal.{check-passed, check-passes, check-stops}
use Rattle.quoting.specs.declared.Quote.{Quote}
use Rattle.evaluate.specs.Evaluate.{values_of}
use Rattle.values.specs.Values.{NoneLower, ceiling, question14, question9, value_questions}
use Rattle.quoting.specs.Answers.{figure_answer, figure_refusal, quote_of, quote_questions}
use Rattle.deskfiles.specs.Files.{FilesPromise, file_values, files_answer, file_value, files_refusal, symbol_value, value_length, value_or, values_from, values_whole}
use Rattle.quoting.proofs.Laws.Figures.{figure-monotone, figured}
use Rattle.values.proofs.Laws.Values.{pair-low, value-ranged, values-fourteen, values-nine}

values_length : (n i : ℕ) (b : List ℕ) → length (values_from n i b) ≡ n
unfolding values_from
values_length zero i b = refl
values_length (suc n) i b = ap suc (values_length n (suc i) b)

values-at : (n i j : ℕ) (b : List ℕ) → j < n → get_or (values_from n i b) j 0 ≡ file_value b (i + j)
unfolding values_from
values-at zero i j b l = absurd (omega arith)
values-at (suc n) i zero b l = ap (file_value b) (sym (add-zero i))
values-at (suc n) i (suc j) b l = let k : suc i + j ≡ i + suc j = omega arith in values-at n (suc i) j b (omega arith) ∙ ap (file_value b) k

value-at : (b : List ℕ) (i : ℕ) → i < how_many_values → values_of (file_values b) i ≡ file_value b i
value-at b i l = values-at how_many_values 0 i b l ∙ ap (file_value b) (zero-add i)

-- an array that calls of f fill, where a call at i gives h f i and leaves f as it was
module _ {F : Type 0} (g : Mut F (ℕ × Unit {0}) ℕ) (h : F → ℕ → ℕ) (called : (f p : F) (i y : ℕ) → Called g f (i, tt) y p → (y ≡ h f i) × (p ≡ f)) (ys : List ℕ) where
  called-at : (f : F) (n i j : ℕ) → IsFromFnResultFrom g f ys i n → i ≤ j → j < i + n → get_or ys j 0 ≡ h f j
  called-at f zero i j r l m = absurd (omega arith)
  called-at f (suc n) i j (p, y, at, k, r) l m =
      go (eqb i j) refl (λ e. called-at p n (i + 1) j r (omega (arith, e)) (omega arith) ∙ ap (λ q. h q j) (called f p i y k).1)
    where
      go : (b : Bool) → eqb i j ≡ b → ((i ≡ j → ⊥) → get_or ys j 0 ≡ h f j) → get_or ys j 0 ≡ h f j
      go true e w = let q : j ≡ i = sym (eqb→eq i j (is_T _ e)) in rw q (at.1 0 ∙ (called f p i y k).0)
      go false e w = w (eqb-false i j e)

  pub values-filled : (f : F) (b : List ℕ) → h f ≡ file_value b → IsFromFnResult g f ys how_many_values → ys ≡ file_values b
  values-filled f b e r =
      ext_get_or 0 ys (file_values b) (r.long ∙ sym (values_length how_many_values 0 b))
      (λ i l. called-at f how_many_values 0 i r.each (omega arith) (omega (arith, l, r.long)) ∙ ap (λ k. k i) e ∙ sym (value-at b i (omega (arith, l, r.long))))

-- ---- one value

pub value_there : (a : ℕ) (b : List ℕ) → 0 < length b → from_bytes (take value_length b) ≡ value_or a b
unfolding value_or
value_there a [] l = absurd (omega arith)
value_there a (x ∷ b) l = refl

pub value-absent : (a : ℕ) (b : List ℕ) → length b ≡ 0 → a ≡ value_or a b
unfolding value_or
value-absent a [] l = refl
value-absent a (x ∷ b) l = absurd (omega arith)

-- of a symbol, and of a paired symbol's later passes
pub value-first : (b : List ℕ) (i : ℕ) → i < how_many_symbols → file_value b i ≡ symbol_value b i
unfolding file_value
value-first b i l = rw (lt-ltb i how_many_symbols l) refl

pub value-later : (b : List ℕ) (i : ℕ) → how_many_symbols ≤ i → file_value b i ≡ value_or (symbol_value b (i - later_place)) (drop (value_length * i) b)
unfolding file_value
value-later b i l = rw (le-ltb i how_many_symbols l) refl

-- ---- what is decided from both files

module _ (t v : List ℕ) where
  pub files-whole : values_whole v ≡ true → figure_answer t (file_values v) ≡ files_answer t v
  unfolding figure_answer figure_refusal files_answer files_refusal
  files-whole w = ap (λ n. by_refusal n (Given (quote_of t (file_values v))) Refused) (sym (left_out (questions t) (quote_questions t (file_values v)) 9 w))

  pub files-refused : {n : ℕ} → n ≡ refusal t → (n ≡ 0 → ⊥) → Refused n ≡ files_answer t v
  unfolding files_answer files_refusal
  files-refused e z = sym (refused-is _ _ Refused (check-stops t _ e z) z)

  pub files-other : values_whole v ≡ false → refusal t ≡ 0 → Refused 9 ≡ files_answer t v
  unfolding files_answer files_refusal first_no
  files-other w e = sym (refused-is _ _ Refused (check-passes t _ e ∙ rw w refl) (λ z. omega (arith, z)))

-- whole values make a length that is a multiple of a value's
pub whole_length : (v : List ℕ) → values_whole v ≡ true → length v % value_length ≡ 0
unfolding values_whole
whole_length v w = eqb→eq (length v % value_length) 0 (both _ _ (is_T _ w)).0

-- ---- values left out

module _ (v more : List ℕ) (whole : length v % value_length ≡ 0) where
  abbrev longer : List ℕ
  longer = v ++ more

  -- a value that is written is the same in the longer file, whatever an absent one counts
  written_same : (a c i : ℕ) → value_length * i < length v → value_or a (drop (value_length * i) longer) ≡ value_or c (drop (value_length * i) v)
  written_same a c i l =
      let r = drop (value_length * i) v in
      let long : value_length ≤ length r = rw length-drop (omega arith) in
      ap (value_or a) (drop-append-le (value_length * i) v more (omega arith))
      ∙ sym (value_there a (r ++ more) (rw length-append (omega arith)))
      ∙ ap from_bytes (take-append-le value_length r more long)
      ∙ value_there c r (omega arith)

  absent-is : (c i : ℕ) → length v ≤ value_length * i → value_or c (drop (value_length * i) v) ≡ c
  absent-is c i l = sym (value-absent c _ (rw length-drop (omega arith)))

  -- where questions 9 and 14 let the longer file's values pass
  module _ (nine : T (question9 (file_values longer))) (fourteen : T (question14 (file_values longer))) where
    -- a symbol's value that is absent from the shorter file counts its ceiling there
    first-lower : (i : ℕ) → i < how_many_symbols → file_value longer i ≤ file_value v i
    unfolding symbol_value
    first-lower i l = go (ltb (value_length * i) (length v)) refl
      where
        go : (b : Bool) → ltb (value_length * i) (length v) ≡ b → file_value longer i ≤ file_value v i
        go true e = omega (arith, value-first v i l, value-first longer i l, written_same (ceiling i) (ceiling i) i (ltb-true _ _ e))
        go false e = omega (arith, value-first v i l, absent-is (ceiling i) i (ltb-false (value_length * i) (length v) e), value-at longer i (omega arith), value-ranged (file_values longer) nine i (omega arith))

    -- a later value that is absent from it equals its first there, and in the longer file is not above its own
    later-lower : (i : ℕ) → how_many_symbols ≤ i → i < how_many_values → file_value longer i ≤ file_value v i
    later-lower i l m = go (ltb (value_length * i) (length v)) refl
      where
        k : ℕ
        k = i - later_place

        low : file_value longer i ≤ file_value longer k
        low =
            let e : k + later_place ≡ i = omega arith in
            omega (arith, value-at longer i m, value-at longer k (omega arith), rw e at (pair-low (file_values longer) fourteen k (omega arith) (omega arith)))

        go : (b : Bool) → ltb (value_length * i) (length v) ≡ b → file_value longer i ≤ file_value v i
        go true e = omega (arith, value-later v i l, value-later longer i l, written_same (symbol_value longer k) (symbol_value v k) i (ltb-true _ _ e))
        go false e =
            omega (arith, value-later v i l, absent-is (symbol_value v k) i (ltb-false (value_length * i) (length v) e), value-first v k (omega arith), low, first-lower k (omega arith))

    -- so none of its values is above the shorter file's
    more-lower : NoneLower (file_values longer) (file_values v)
    more-lower i = go (ltb i how_many_values) refl (ltb i how_many_symbols) refl
      where
        go : (b : Bool) → ltb i how_many_values ≡ b → (c : Bool) → ltb i how_many_symbols ≡ c → values_of (file_values longer) i ≤ values_of (file_values v) i
        go true e true s = omega (arith, value-at longer i (ltb-true _ _ e), value-at v i (ltb-true _ _ e), first-lower i (ltb-true _ _ s))
        go true e false s = omega (arith, value-at longer i (ltb-true _ _ e), value-at v i (ltb-true _ _ e), later-lower i (ltb-false i how_many_symbols s) (ltb-true _ _ e))
        go false e c s = omega (arith, get_or-eq_default (file_values longer) 0 {n = i} (omega (arith, values_length how_many_values 0 longer, ltb-false i how_many_values e)))

module _ (t : List ℕ) where
  -- a file that gets a figure holds whole values
  files-quoted : (v : List ℕ) → refused (files_answer t v) ≡ 0 → values_whole v ≡ true
  unfolding files_answer files_refusal quote_questions value_questions numbered Yes
  files-quoted v p =
      let n = number_is refused (files_refusal t v) _ Refused refl (λ q. refl) in
      let (e, m) = check-passed t (9 asks values_whole v ∷ quote_questions t (file_values v)) (sym n ∙ p) in
      T-is _ (all_yes (9 asks values_whole v ∷ quote_questions t (file_values v)) tt m).0

  pub files-promise : (v : List ℕ) → FilesPromise t v (files_answer t v)
  unfolding FilesPromise
  files-promise v more p q =
      let a = files-quoted v p in
      let e = files-whole t v a in
      let f = files-whole t (v ++ more) (files-quoted (v ++ more) q) in
      let q' = ap refused f ∙ q in
      let allowed = (figured t _ q').allowed in
      let low = more-lower v more (whole_length v a) (values-nine t _ allowed) (values-fourteen t _ allowed) in
      rw (← e, ← f) (figure-monotone t _ _ low q' (ap refused e ∙ p))

  -- an answer that is the desk's keeps it
  pub files-kept : (v : List ℕ) (r : Answer Quote) → r ≡ files_answer t v → (r ≡ files_answer t v) × FilesPromise t v r
  files-kept v r e = (e, subst (FilesPromise t v) (sym e) (files-promise v))
