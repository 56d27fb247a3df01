-- The walk that finds the first child that passes a test.
use Rattle.std.specs.Prelude.{◌≡◌, Bool, cond, false, true, ◌||◌, List, ℕ, ◌+◌, ◌*◌, ◌-◌, ◌<◌, ◌≤◌, drop, Some, None}
use Rattle.std.proofs.Common.{refl, ap, sym, ◌∙◌, add_assoc, add-zero}
use Rattle.table.specs.Numbers.{record_length}
use Rattle.table.specs.Table.{child_byte, record_count}
use Rattle.table.specs.Trees.{Tree, records}
use Rattle.subtrees.specs.Parts.{subtree, trees_at}
use Rattle.subtrees.specs.Facts.{Sized, extent_at}
use Rattle.subtrees.specs.Children.{Tells, any, child_at, offset}
use Rattle.subtrees.specs.declared.Facts.{Facts}
use Rattle.subtrees.specs.Laws.Parts.{Next, Row, here-at, kids-row, next_row, row-end}
use Rattle.subtrees.specs.Laws.Records.{count_at}

-- the children left, from record p on: the first that passes a test among them is the first of all
pub record Looking (b : List ℕ) (answers : ℕ → Bool → Type 0) (i left p : ℕ) : Type 0 where
  pub row : Row b p left
  pub value : (q : Tree → Bool) → Tells b answers q → child_at q i (trees_at b i) ≡ cond (any q row.trees) (Some (p + offset q row.trees)) None

module _ (b : List ℕ) (facts : List Facts) (x : Sized b facts) (answers : ℕ → Bool → Type 0) (i : ℕ) where
  pub look-first : (left : ℕ) → i < record_count b → left ≡ child_byte (drop (record_length * i) b) → Looking b answers i left (i + 1)
  unfolding child_at
  look-first left l e = let h = here-at b x.table i l in rw (e ∙ count_at b i h) (record { row = kids-row b x.table i h; value = λ q t. ap (child_at q i) h.here })

  module _ (left p : ℕ) (w : Looking b answers i left p) where
    module _ (l : 0 < left) where
      pub look-turn : Next b facts p left w.row
      look-turn = next_row b facts x p left w.row l

      look-value : (q : Tree → Bool) → Tells b answers q → let f = look-turn.others.trees in
          child_at q i (trees_at b i) ≡ cond (q (subtree b p) || any q f) (Some (p + cond (q (subtree b p)) 0 (records (subtree b p) + offset q f))) None
      unfolding any offset
      look-value q t = w.value q t ∙ ap (λ f. cond (any q f) (Some (p + offset q f)) None) look-turn.are

      pub look-next : (fewer : ℕ) → fewer ≡ left - 1 → answers p false → Looking b answers i fewer (p + extent_at facts p)
      look-next fewer e a = rw e (record {
        row = look-turn.others;
        value = λ q t. look-value q t ∙ rw (sym (t p false look-turn.inside a), look-turn.extent, add_assoc) refl;
      })

      pub look-found : answers p true → (q : Tree → Bool) → Tells b answers q → Some p ≡ child_at q i (trees_at b i)
      look-found a q t = sym (look-value q t ∙ rw (sym (t p true look-turn.inside a), add-zero) refl)

    pub look_none : left ≤ 0 → (q : Tree → Bool) → Tells b answers q → None ≡ child_at q i (trees_at b i)
    unfolding any
    look_none l q t = sym (w.value q t ∙ rw (row-end w.row l) refl)
