-- The turns of a copy.
use mathlib.Core.Path.{◌∙◌, ◌≡◌, subst, sym}
use mathlib.Core.List.{List}
use Prim.Native.Nat.{◌*◌, ◌+◌, ◌-◌, ◌<◌, ◌≤◌, ℕ}
use native.Mathlib.Omega.{arith}
use lib.ListN.{length}
use borrow.Author.Count.{below_more}
use Rattle.lists.specs.declared.List.{List as Listed}
use Rattle.lists.specs.Pairs.{Canonical}
use Rattle.lists.specs.Reading.{Is, Proper, count_at, list_in, most_pairs, pairs_of, stored, value_at}
use Rattle.lists.proofs.Stored.{count-below, count-stored, length-stored, then_same, value-below, value-stored}

-- the first k pairs are copied
pub record Copying (a : Listed) (out : List ℕ) (k : ℕ) : Type 0 where
  pub asked : Proper a
  pub inside : k ≤ a.len
  pub long : length out ≡ 2 * most_pairs
  pub values : (j : ℕ) → j < k → value_at out j ≡ value_at a.pairs j
  pub counts : (j : ℕ) → j < k → count_at out j ≡ count_at a.pairs j

pub copy-turn : {a : Listed} {out : List ℕ} {k v c : ℕ} → Copying a out k → k < a.len → v ≡ value_at a.pairs k → c ≡ count_at a.pairs k
    → Copying a (stored out k v c) (k + 1)
copy-turn {a} {out} {k} {v} {c} t l d e =
    let m : k < most_pairs = omega (arith, t.asked.room) in
    record {
      asked = t.asked;
      inside = omega arith;
      long = length-stored out k v c ∙ t.long;
      values = below_more _ k (λ j h. value-below out k v c j h ∙ t.values j h) (value-stored out k v c m t.long ∙ d);
      counts = below_more _ k (λ j h. count-below out k v c j h ∙ t.counts j h) (count-stored out k v c m t.long ∙ e);
    }

pub copy-last : {a : Listed} {out : List ℕ} {k : ℕ} → Copying a out k → a.len ≤ k → Is (list_in out a.len) (pairs_of a)
unfolding pairs_of
copy-last {a} {out} {k} t l = record {
  proper = record { long = t.long; some = p.some; room = p.room; ends = t.counts n (omega arith) ∙ p.ends; canonical = subst Canonical (sym same) p.canonical };
  pairs = same;
}
  where
    p : Proper a
    p = t.asked

    n : ℕ
    n = a.len - 1

    k₁ : n < k
    k₁ = omega (arith, p.some)

    same : pairs_of (list_in out a.len) ≡ pairs_of a
    same = rw (t.values n k₁) (then_same out a.pairs 0 n _ (λ j h. t.values j (omega arith)) (λ j h. t.counts j (omega arith)))
