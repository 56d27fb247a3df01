-- Renaming and grafting change no number of children, and renaming no number of records.
use Rattle.std.specs.Prelude.{◌≡◌, refl, ℕ, suc, ◌+◌, T}
use Rattle.std.proofs.Common.{ap, ap₂, arith, eqb→eq}
use Rattle.table.specs.Questions.{arity, number_has}
use Rattle.table.specs.Trees.{Forest, Tree, around, nil, node, records, records_in, rest, size, ◌▸◌}
use Rattle.splice.specs.Nodes.{Block, Choice, Kind, Loop, Plain, Sequence, Symbol}
use Rattle.splice.specs.Graft.{graft, graft_in, is_symbol, rename, rename_in}

pub size-renamed : (k : Kind) (f : Forest) (d : ℕ) → size (rename_in k f d) ≡ size f
unfolding size rename
size-renamed k nil d = refl
size-renamed k (t ▸ f) d = ap suc (size-renamed (rest k) f d)

mutual
  unfolding records rename

  pub rename-records : (t : Tree) (d : ℕ) → records (rename t d) ≡ records t
  rename-records (node n f) d = ap suc (rename_in-records n.kind f d)

  rename_in-records : (k : Kind) (f : Forest) (d : ℕ) → records_in (rename_in k f d) ≡ records_in f
  rename_in-records k nil d = refl
  rename_in-records k (t ▸ f) d = ap₂ ◌+◌ (rename-records t (around k d)) (rename_in-records (rest k) f d)

pub size-grafted : (s : ℕ) (u : Tree) (f : Forest) → size (graft_in s u f) ≡ size f
unfolding size graft
size-grafted s u nil = refl
size-grafted s u (t ▸ f) = ap suc (size-grafted s u f)

-- a block with the symbol has no children
pub symbol-only : (s : ℕ) (k : Kind) (f : Forest) → T (is_symbol s k) → T (arity k (size f)) → (k ≡ Block (Symbol s)) × (f ≡ nil)
unfolding is_symbol number_has arity size
symbol-only s (Block (Plain n)) f h a = absurd h
symbol-only s (Block (Symbol k)) nil h a = (ap (λ x. Block (Symbol x)) (eqb→eq k s h), refl)
symbol-only s (Block (Symbol k)) (t ▸ f) h a = let e : suc (size f) ≡ 0 = eqb→eq (suc (size f)) 0 a in absurd (omega arith)
symbol-only s Sequence f h a = absurd h
symbol-only s Choice f h a = absurd h
symbol-only s (Loop n) f h a = absurd h
