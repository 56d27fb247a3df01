-- A node's children by a test: the first that passes it, and how many records stand before it.
use Rattle.std.specs.Prelude.{◌≡◌, Bool, cond, false, ◌||◌, List, ℕ, ◌+◌, ◌<◌, Some, None}
use Rattle.std.specs.declared.option.Option.{Option}
use Rattle.table.specs.Table.{record_count}
use Rattle.table.specs.Trees.{Forest, Tree, nil, node, ◌▸◌, records}
use Rattle.subtrees.specs.Parts.{subtree}

unfoldable pub any : (Tree → Bool) → Forest → Bool
any q nil = false
any q (t ▸ f) = q t || any q f

unfoldable pub offset : (Tree → Bool) → Forest → ℕ
offset q nil = 0
offset q (t ▸ f) = cond (q t) 0 (records t + offset q f)

-- the record of the first tree's first child that passes, where one does: the first tree stands at record i
unfoldable pub child_at : (Tree → Bool) → ℕ → Forest → Option ℕ
child_at q i nil = None
child_at q i (node n f ▸ g) = cond (any q f) (Some (i + 1 + offset q f)) None

-- what a test of records answers is what q answers of the trees there
abbrev pub Tells : List ℕ → (ℕ → Bool → Type 0) → (Tree → Bool) → Type 0
Tells b answers q = (p : ℕ) (r : Bool) → p < record_count b → answers p r → r ≡ q (subtree b p)
