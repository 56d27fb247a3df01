-- Limits move with their blocks, whatever loop they then name: what a test says of the number of every limit of the grafted tree.
use Rattle.std.specs.Prelude.{◌≡◌, Bool, false, ℕ, ◌≤◌, T, eqb}
use Rattle.std.proofs.Math.Path.{refl, ap}
use Rattle.std.proofs.Common.{ap₂, sym, subst, ◌∙◌}
use Rattle.std.proofs.Math.Dec.{leb}
use Rattle.booleans.specs.Tests.{◌and◌}
use Rattle.booleans.specs.Laws.{and-true, both, by_cond, either, or_else, T-is}
use Rattle.table.specs.declared.Most.{Most}
use Rattle.table.specs.declared.Limit.{Limit}
use Rattle.table.specs.declared.Limit.TheVariants.{Unlimited, AtMost}
use Rattle.table.specs.declared.Kind.{Kind}
use Rattle.table.specs.Limits.{limit_holds, every_limit_in, every_most, most_holds}
use Rattle.table.specs.Numbers.{first_time_symbol}
use Rattle.table.specs.Questions.{limit_in_range, listed, listed_in, most_in_range}
use Rattle.table.specs.Trees.{Tree, node, Forest, nil, ◌▸◌, around, rest, every_node}
use Rattle.evaluate.specs.Evaluate.{Values}
use Rattle.triangular.specs.Triangular.{most_triangular}
use Rattle.values.specs.Values.{triangle_small}
use Rattle.splice.specs.Graft.{graft, graft_in, in_place, is_symbol, rename, rename_in, renamed_limit, uses, uses_in}
use Rattle.splice.specs.Laws.Sizes.{symbol-only}
use Rattle.graft.proofs.Laws.Grafted.{count-but}

module _ (q : Most → Bool) where
  abbrev every_in : Forest → Bool
  every_in f = every_limit_in (λ k m. q m) f

  limit-renamed : (l : Limit) (d : ℕ) → most_holds q (renamed_limit l d) ≡ most_holds q l
  unfolding limit_holds renamed_limit
  limit-renamed Unlimited d = refl
  limit-renamed (AtMost k m) d = refl

  mutual
    unfolding rename every_node

    rename-limits : (t : Tree) (d : ℕ) → every_most q (rename t d) ≡ every_most q t
    rename-limits (node n f) d = ap₂ ◌and◌ (limit-renamed n.limit d) (rename_in-limits n.kind f d)

    rename_in-limits : (k : Kind) (f : Forest) (d : ℕ) → every_in (rename_in k f d) ≡ every_in f
    rename_in-limits k nil d = refl
    rename_in-limits k (t ▸ f) d = ap₂ ◌and◌ (rename-limits t (around k d)) (rename_in-limits (rest k) f d)

  place-limits : (u : Tree) (l : Limit) (i : ℕ) → every_most q (in_place u l i) ≡ (most_holds q l and every_most q u)
  unfolding in_place every_node limit_holds ◌and◌
  place-limits u l i = ap (λ x. most_holds q l and x) (and-true _ ∙ rename-limits u 0)

  module _ (s : ℕ) (u : Tree) where
    mutual
      unfolding graft listed every_node

      -- where it holds of the sent tree's, it says of the grafted tree's what it says of the host's
      pub graft-limits : T (every_most q u) → (t : Tree) → T (listed t) → every_most q (graft s u t) ≡ every_most q t
      graft-limits y (node n f) h =
          let (p, c) = both _ _ h in
          let (r, a) = both _ _ p in
          by_cond (λ t. every_most q t ≡ (most_holds q n.limit and every_in f)) (is_symbol s n.kind) _ _
          (λ b. place-limits u n.limit n.address ∙ ap (λ x. most_holds q n.limit and x) (T-is _ y ∙ sym (ap every_in (symbol-only s n.kind f b a).1)))
          (λ e. ap (λ x. most_holds q n.limit and x) (graft_in-limits y f c))

      graft_in-limits : T (every_most q u) → (f : Forest) → T (listed_in f) → every_in (graft_in s u f) ≡ every_in f
      graft_in-limits y nil h = refl
      graft_in-limits y (t ▸ f) h = let (a, b) = both _ _ h in ap₂ ◌and◌ (graft-limits y t a) (graft_in-limits y f b)

    mutual
      unfolding graft uses every_node

      -- where the host uses the symbol, it holds of the grafted tree's only if it does of the sent tree's
      pub sent-limits : (t : Tree) → T (uses s t) → T (every_most q (graft s u t)) → T (every_most q u)
      sent-limits (node n f) h =
          by_cond (λ t. T (every_most q t) → T (every_most q u)) (is_symbol s n.kind) _ _
          (λ b x. (both _ _ (subst T (place-limits u n.limit n.address) x)).1)
          (λ e x. sent_in-limits f (or_else (is_symbol s n.kind) (uses_in s f) h e) (both _ _ x).1)

      sent_in-limits : (f : Forest) → T (uses_in s f) → T (every_in (graft_in s u f)) → T (every_most q u)
      sent_in-limits nil h x = absurd h
      sent_in-limits (t ▸ f) h x = let (a, b) = both _ _ x in either (uses s t) (uses_in s f) h (λ y. sent-limits t y a) (λ y. sent_in-limits f y b)

-- ---- question 13 under values that agree but for symbol s: of symbols from 16 on, no limit reads them

module _ (v w : Values) (s : ℕ) (h : first_time_symbol ≤ s) (same : (k : ℕ) → eqb k s ≡ false → v k ≡ w k) where
  small-but : (l : Limit) → T (limit_in_range l) → most_holds (triangle_small v) l ≡ most_holds (triangle_small w) l
  unfolding limit_holds limit_in_range most_in_range triangle_small
  small-but Unlimited r = refl
  small-but (AtMost k (Most.Plain n)) r = refl
  small-but (AtMost k (Most.Symbol j)) r = refl
  small-but (AtMost k (Most.Triangular j)) r = ap (λ x. leb x most_triangular) (count-but v w s h same j (both _ _ r).1)

  mutual
    unfolding listed every_node

    pub smalls-but : (t : Tree) → T (listed t) → every_most (triangle_small v) t ≡ every_most (triangle_small w) t
    smalls-but (node n f) l =
        let (p, c) = both _ _ l in
        let (r, a) = both _ _ p in
        ap₂ ◌and◌ (small-but n.limit (both _ _ r).1) (smalls_in-but f c)

    smalls_in-but : (f : Forest) → T (listed_in f) → every_limit_in (λ k m. triangle_small v m) f ≡ every_limit_in (λ k m. triangle_small w m) f
    smalls_in-but nil l = refl
    smalls_in-but (t ▸ f) l = let (a, b) = both _ _ l in ap₂ ◌and◌ (smalls-but t a) (smalls_in-but f b)
