-- Question 16, record by record.
use Rattle.std.specs.Prelude.{◌≡◌, Bool, not, ◌||◌, List, eqb, leb, get_or, length}
use Rattle.std.proofs.Math.Path.{refl, sym}
use Rattle.std.proofs.Common.{ap, subst, ◌∙◌, leb→le}
use Rattle.std.proofs.Math.Bool.{true, false}
use Prim.Native.Nat.{ℕ, zero, suc, ◌+◌, ◌-◌, ◌<◌, ◌≤◌}
use Rattle.std.proofs.Math.Nat.{add-zero, sub-zero, zero-add}
use native.Mathlib.Omega.{arith}
use Rattle.std.proofs.Math.Dec.{T, eqb→eq, ltb}
use borrow.Author.Tests.{eq-eqb, le-ltb, leb-false, lt-ltb, ltb-false, ltb-true, ne_eqb, not-false, not-true}
use Rattle.std.specs.Bool.{MatchBool}
use Rattle.std.specs.Iterator.{ChecksAll}
use Rattle.std.proofs.iter.Yields.{nat_range_steps}
use Rattle.std.specs.List.{AllWithin, HoldsAt, range_with_len}
use Rattle.std.proofs.lemmas.Iterator.{YieldsList-from_range, cases_from_all}
use Rattle.std.proofs.lemmas.List.FromFn.{get_or-range_with_len, length-range_with_len}
use Rattle.std.specs.declared.ops.Range.{Range}
use denote.Param.Members.{Called, Mut}
use Rattle.booleans.specs.Tests.{◌and◌}
use Rattle.booleans.specs.Laws.{T-is, both, by_cond, either, is_T, join-and, same_test}
use Rattle.table.specs.Numbers.{most_records}
use Rattle.table.specs.Table.{record_count}
use Rattle.table.proofs.Laws.Reading.{next-count}
use Rattle.marking.specs.Nodes.{Node}
use Rattle.marking.specs.Marks.{digit_at, mark_length, node_at}
use Rattle.marking.specs.Opening.{all_from, digit_opens, node_opens, question16}

-- ---- a test of many numbers

module _ (p : ℕ → Bool) where
  pub all-from : (n i : ℕ) → ((j : ℕ) → j < i + n → T (p j)) → T (all_from p n i)
  unfolding all_from
  all-from zero i w = tt
  all-from (suc n) i w = join-and _ _ (w i (omega arith)) (all-from n (suc i) (λ j l. w j (omega arith)))

  pub from_all : (n i j : ℕ) → T (all_from p n i) → j < n → T (p (i + j))
  unfolding all_from
  from_all zero i j h l = absurd (omega arith)
  from_all (suc n) i zero h l = rw add-zero (both _ _ h).0
  from_all (suc n) i (suc j) h l = let e : i + suc j ≡ suc i + j = omega arith in rw e (from_all n (suc i) j (both _ _ h).1 (omega arith))

-- put by the library's `all`
pub all-tested : {F : Type 0} {g : Mut F (ℕ × Unit {0}) Bool} (s u : Range ℕ) (f : F) (r : Bool) (p : ℕ → Bool) (n : ℕ) → s ≡ record { start = 0; end = n } → ChecksAll nat_range_steps g s f r u
    → ((x : ℕ) (b : Bool) (q : F) → Called g f (x, tt) b q → (q ≡ f) × (b ≡ p x)) → r ≡ all_from p n 0
all-tested s u f r p n e ran pure =
    go r (cases_from_all u f r (λ x. p x ≡ true) (λ x. p x ≡ false) ran (YieldsList-from_range 0 n n e (sub-zero n)) (λ x q c. ((pure x true q c).0, sym (pure x true q c).1)) (λ x q c. sym (pure x false q c).1))
  where
    numbers : List ℕ
    numbers = range_with_len 0 n

    long : length numbers ≡ n
    long = length-range_with_len 0 n

    at : (k : ℕ) → k < n → p k ≡ p (get_or numbers k 0)
    at k l = ap p (sym (get_or-range_with_len 0 n k 0 l ∙ zero-add k))

    go : (b : Bool) → MatchBool b (AllWithin (λ x. p x ≡ true) numbers 0 (length numbers)) ((k : ℕ) × (k < length numbers) × HoldsAt (λ x. p x ≡ false) numbers k) → b ≡ all_from p n 0
    go true h = sym (T-is _ (all-from p n 0 (λ j l. is_T _ (at j (omega arith) ∙ h j 0 (omega arith) (omega (arith, long))))))
    go false (k, l, failed) = same_test _ _ (λ b. absurd b) (λ t. subst T (ap p (zero-add k) ∙ at k (omega (arith, long)) ∙ failed 0) (from_all p n 0 k t (omega (arith, long))))

-- the numbers before i passed the test, and the others are left
pub record Asked (p : ℕ → Bool) (n i : ℕ) : Type 0 where
  pub within : i ≤ n
  pub left : all_from p n 0 ≡ all_from p (n - i) i

module _ (p : ℕ → Bool) (n : ℕ) where
  pub none-asked : Asked p n 0
  none-asked = record { within = omega arith; left = rw sub-zero refl }

  ask-step : (i : ℕ) → i < n → Asked p n i → all_from p n 0 ≡ (p i and all_from p (n - (i + 1)) (i + 1))
  unfolding all_from
  ask-step i l a = let k : i + 1 ≡ suc i = omega arith in a.left ∙ rw (next-count n i l, k) refl

  pub one-asked : (i : ℕ) (r : Bool) → i < n → Asked p n i → r ≡ p i → not r ≡ false → Asked p n (i + 1)
  unfolding ◌and◌
  one-asked i r l a e t = record { within = omega arith; left = ask-step i l a ∙ rw (sym e ∙ not-false r t) refl }

  one-failed : (i : ℕ) (r : Bool) → i < n → Asked p n i → r ≡ p i → not r ≡ true → all_from p n 0 ≡ false
  unfolding ◌and◌
  one-failed i r l a e t = ask-step i l a ∙ rw (sym e ∙ not-true r t) refl

  all_asked : (i : ℕ) → n ≤ i → Asked p n i → all_from p n 0 ≡ true
  unfolding all_from
  all_asked i l a = let z : n - i ≡ 0 = omega arith in a.left ∙ rw z refl

-- ---- the marks

-- record i of n has a mark that is looked at
pub one-there : (n i d : ℕ) → (leb n i || eqb d 0) ≡ false → i < n
one-there n i d h = go (leb n i) refl h
  where
    go : (r : Bool) → leb n i ≡ r → (r || eqb d 0) ≡ false → i < n
    go true p q = absurd (is_T false (sym q))
    go false p q = leb-false n i p

module _ (s x : ℕ) (b m : List ℕ) where
  pub opens-here : (i : ℕ) → i < record_count b → digit_opens s x b m i ≡ node_opens s x (digit_at m i) (node_at b i)
  unfolding digit_opens
  opens-here i l = rw (lt-ltb i (record_count b) l) refl

  pub opens-past : (i : ℕ) → record_count b ≤ i → digit_opens s x b m i ≡ eqb (digit_at m i) 0
  unfolding digit_opens
  opens-past i l = rw (le-ltb i (record_count b) l) refl

  module _ (i d : ℕ) (e : d ≡ digit_at m i) where
    pub none_told : (leb (record_count b) i || eqb d 0) ≡ true → eqb d 0 ≡ digit_opens s x b m i
    none_told h = either (leb (record_count b) i) (eqb d 0) (is_T _ h) (λ p. ap (λ k. eqb k 0) e ∙ sym (opens-past i (leb→le _ _ p))) (λ p. T-is _ p ∙ sym (unmarked (sym e ∙ eqb→eq d 0 p)))
      where
        unmarked : digit_at m i ≡ 0 → digit_opens s x b m i ≡ true
        unmarked z = unfold digit_opens in by_cond (λ (r : Bool). r ≡ true) (ltb i (record_count b)) _ _ (λ _. rw z refl) (λ _. rw z refl)

    pub node-told : (n : Node) (r : Bool) → i < record_count b → n ≡ node_at b i → r ≡ node_opens s x d n → r ≡ digit_opens s x b m i
    node-told n r l q f = f ∙ rw (q, e) (sym (opens-here i l))

  pub other_length : (length m ≡ mark_length → ⊥) → false ≡ question16 b m s x
  unfolding question16 ◌and◌
  other_length n = rw (ne_eqb (length m) mark_length n) refl

  module _ (i : ℕ) (e : length m ≡ mark_length) (a : Asked (digit_opens s x b m) most_records i) where
    pub asked-no : (r : Bool) → i < most_records → r ≡ digit_opens s x b m i → not r ≡ true → false ≡ question16 b m s x
    unfolding question16 ◌and◌
    asked-no r l f t = sym (rw (eq-eqb (length m) mark_length e) (one-failed (digit_opens s x b m) most_records i r l a f t))

    pub asked-yes : most_records ≤ i → true ≡ question16 b m s x
    unfolding question16 ◌and◌
    asked-yes l = sym (rw (eq-eqb (length m) mark_length e) (all_asked (digit_opens s x b m) most_records i l a))

  -- marks that it lets pass are 128 bytes, and stand where they may at each record
  pub marks-whole : T (question16 b m s x) → length m ≡ mark_length
  unfolding question16
  marks-whole o = eqb→eq (length m) mark_length (both _ _ o).0

  pub opens-all : T (question16 b m s x) → record_count b ≤ most_records → (i : ℕ) → i < record_count b → T (node_opens s x (digit_at m i) (node_at b i))
  unfolding question16
  opens-all o f i l = let z : 0 + i ≡ i = omega arith in rw (← opens-here i l, ← z) (from_all (digit_opens s x b m) most_records 0 i (both _ _ o).1 (omega arith))

  -- it lets marks pass that do
  pub all-open : record_count b ≤ most_records → length m ≡ mark_length → ((i : ℕ) → i < record_count b → T (node_opens s x (digit_at m i) (node_at b i)))
      → ((i : ℕ) → i < most_records → record_count b ≤ i → digit_at m i ≡ 0) → T (question16 b m s x)
  unfolding question16
  all-open f long here past = join-and _ _ (is_T _ (eq-eqb _ mark_length long)) (all-from (digit_opens s x b m) most_records 0 (λ i l. one i (omega arith) (ltb i (record_count b)) refl))
    where
      one : (i : ℕ) → i < most_records → (c : Bool) → ltb i (record_count b) ≡ c → T (digit_opens s x b m i)
      one i l true e = let k = ltb-true i (record_count b) e in rw (opens-here i k) (here i k)
      one i l false e = let k = ltb-false i (record_count b) e in rw (opens-past i k, past i l k) tt
