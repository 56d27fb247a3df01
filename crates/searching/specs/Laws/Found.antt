-- What a search's answer tells the next one.
use Rattle.std.specs.Prelude.{◌≡◌, Bool, true, false, List, [], ◌++◌, ℕ, zero, suc, ◌+◌, ◌<◌, ◌≤◌, eqb, Some, None}
use Rattle.std.proofs.Math.Path.{refl, ap, sym, subst}
use Rattle.std.proofs.Common.{◌∙◌, add-zero, add-one, arith, eqb-true}
use Rattle.std.proofs.lemmas.Bool.{eqb-false}
use Rattle.table.specs.Table.{encode, encodes, record_count}
use Rattle.table.specs.Trees.{Forest, nil, node, ◌▸◌, ◌⧺◌, records, records_in}
use Rattle.table.proofs.Laws.Trees.{some-records}
use Rattle.table.specs.Checking.{IsTable}
use Rattle.simplify.specs.Steps.{also, rule}
use Rattle.subtrees.specs.Facts.{Sized, extent_at}
use Rattle.subtrees.specs.declared.Facts.{Facts}
use Rattle.subtrees.specs.Parts.{subtree, trees_at}
use Rattle.subtrees.specs.Laws.Forests.{records-⧺}
use Rattle.subtrees.specs.Laws.Parts.{back_at, here-at, next-at, past-node, records-at, top-at}
use Rattle.rewrite.specs.Wrote.{Wrote, rule_at}
use Rattle.rewrite.specs.Laws.Records.{⧺-assoc}
use Rattle.searching.specs.Found.{NoRule, Placed, Quiet, Settled}
use Rattle.searching.specs.Laws.Search.{Sought, fits-here, fits_not, rule-here, sought-next}

pub quiet_none : (b : List ℕ) → Quiet b 0
quiet_none b j l = absurd (omega arith)

module _ (b : List ℕ) (s : IsTable b) (i : ℕ) (l : i < record_count b) where
  -- where no rule fits, nothing is to be written
  skipped : (out : List ℕ) → NoRule (subtree b i) → Wrote (rule_at rule (trees_at b i)) None out
  unfolding NoRule Wrote also
  skipped out q = let h = here-at b s i l in rw (rule-here b i h, subst NoRule (top-at b i h.here) q) tt

  no-rule : (out : List ℕ) → Wrote (rule_at rule (trees_at b i)) None out → NoRule (subtree b i)
  unfolding NoRule
  no-rule out w = let h = here-at b s i l in subst NoRule (sym (top-at b i h.here)) (fits_not b i out h w)

  pub quiet_next : (out : List ℕ) → Quiet b i → Wrote (rule_at rule (trees_at b i)) None out → Quiet b (i + 1)
  quiet_next out q w j m = go (eqb j i) refl
    where
      go : (x : Bool) → eqb j i ≡ x → NoRule (subtree b j)
      go true e = rw (eqb-true j i e) (no-rule out w)
      go false e = q j (omega (arith, eqb-false j i e))

-- ---- a subtree passed over

-- n records' trees stand at record i, before others
record Stands (b : List ℕ) (i n : ℕ) (others : Forest) : Type 0 where
  row : Forest
  here : trees_at b i ≡ row ⧺ others
  count : records_in row ≡ n

module _ (b : List ℕ) (facts : List Facts) (x : Sized b facts) where
  s : IsTable b
  s = x.table

  -- without the first record
  stands-next : (i n : ℕ) (g : Forest) → Stands b i (n + 1) g → Stands b (i + 1) n g
  stands-next i n g q = go q.row q.here q.count
    where
      go : (f : Forest) → trees_at b i ≡ f ⧺ g → records_in f ≡ n + 1 → Stands b (i + 1) n g
      go nil e c = absurd (unfold records_in in omega (arith, c))
      go (node m f ▸ r) e c = record {
        row = f ⧺ r;
        here = next-at b s i m f (r ⧺ g) (unfold ◌⧺◌ in e) ∙ sym (⧺-assoc f r g);
        count = records-⧺ f r ∙ (unfold records_in in unfold records in omega (arith, c));
      }

  -- the first of them ends with them or before
  ends-within : (i n : ℕ) (g : Forest) → Stands b i (n + 1) g → (i < record_count b) × (extent_at facts i ≤ n + 1)
  ends-within i n g q = go q.row q.here q.count
    where
      go : (f : Forest) → trees_at b i ≡ f ⧺ g → records_in f ≡ n + 1 → (i < record_count b) × (extent_at facts i ≤ n + 1)
      go nil e c = absurd (unfold records_in in omega (arith, c))
      go (t ▸ r) e c = unfold ◌⧺◌ in unfold records_in in
          let l : i < record_count b = omega (arith, records-at b s i, ap records_in e, some-records t) in
          (l, omega (arith, c, x.each i l, ap records (top-at b i e)))

  module _ (at : ℕ) (d : Settled b facts at) where
    -- one after the other
    passed : (n i : ℕ) (g : Forest) → Stands b i n g → i + n ≤ at → Sought b i → Quiet b i → Sought b (i + n) × Quiet b (i + n)
    passed zero i g q o sought quiet = rw add-zero (sought, quiet)
    passed (suc n) i g q o sought quiet =
        let w : Stands b i (n + 1) g = subst (λ k. Stands b i k g) (sym (add-one n)) q in
        let (l, e) = ends-within i n g w in
        let none : Wrote (rule_at rule (trees_at b i)) None [] = skipped b s i l [] (d i l (omega (arith, e, o))) in
        let same : i + 1 + n ≡ i + suc n = omega arith in
        subst (λ k. Sought b k × Quiet b k) same (passed n (i + 1) g (stands-next i n g w) (omega (arith, o)) (sought-next b s i [] l sought none) (quiet_next b s i l [] quiet none))

    pub passed_over : (i : ℕ) → i < record_count b → i + extent_at facts i ≤ at → Sought b i → Quiet b i → Sought b (i + extent_at facts i) × Quiet b (i + extent_at facts i)
    passed_over i l o sought quiet =
        let h = here-at b s i l in
        let t = node h.own h.kids in
        let count : records_in (t ▸ nil) ≡ extent_at facts i = (unfold records_in in omega (arith, x.each i l, ap records (top-at b i h.here))) in
        passed (extent_at facts i) i h.later (record { row = t ▸ nil; here = (unfold ◌⧺◌ in h.here); count = count }) o sought quiet

-- a rule that fits at record i
pub placed : (b : List ℕ) (facts : List Facts) → Sized b facts → (i r : ℕ) (out : List ℕ) → i < record_count b → Quiet b i → Wrote (rule_at rule (trees_at b i)) (Some r) out
    → Placed b i (i + extent_at facts i) r out
unfolding Wrote records_in encodes
placed b facts x i r out l q w =
    let h = here-at b x.table i l in
    let f = fits-here b i r out h w in
    let end = i + extent_at facts i in
    let past : trees_at b end ≡ h.later = (past-node b facts x i l h).0 in
    record {
      quiet = q;
      inside = l;
      tree = f.tree;
      count = omega (arith, f.wrote.0, records-at b x.table end, ap records_in past);
      bytes = f.wrote.1 ∙ ap (λ z. encode f.tree ++ z) (ap encodes (sym past) ∙ back_at b x.table end);
    }
