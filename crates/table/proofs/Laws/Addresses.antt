-- A tree without its addresses: as large as with them, and listed where it is listed with them.
use Rattle.std.specs.Prelude.{◌≡◌, refl, suc, ◌+◌, T}
use Rattle.std.proofs.Common.{ap, ap₂, subst, sym}
use Rattle.booleans.specs.Laws.{both, join-and}
use Rattle.table.specs.Trees.{Tree, node, Forest, nil, ◌▸◌, records, records_in, size, unaddressed, unaddressed_in}
use Rattle.table.specs.Questions.{arity, is_address, listed, listed_in}

pub size-unaddressed : (f : Forest) → size (unaddressed_in f) ≡ size f
unfolding unaddressed size
size-unaddressed nil = refl
size-unaddressed (t ▸ f) = ap suc (size-unaddressed f)

mutual
  unfolding unaddressed records

  pub records-unaddressed : (t : Tree) → records (unaddressed t) ≡ records t
  records-unaddressed (node n f) = ap suc (records_in-unaddressed f)

  records_in-unaddressed : (f : Forest) → records_in (unaddressed_in f) ≡ records_in f
  records_in-unaddressed nil = refl
  records_in-unaddressed (t ▸ f) = ap₂ (λ x y. x + y) (records-unaddressed t) (records_in-unaddressed f)

mutual
  unfolding unaddressed listed is_address

  pub listed-unaddressed : (t : Tree) → T (listed t) → T (listed (unaddressed t))
  listed-unaddressed (node n f) h =
      let (p, c) = both _ _ h in
      let (q, a) = both _ _ p in
      let (r, l) = both _ _ q in
      join-and _ _ (join-and _ _ (join-and _ _ (join-and _ _ tt (both _ _ r).1) l) (subst (λ k. T (arity n.kind k)) (sym (size-unaddressed f)) a)) (listed_in-unaddressed f c)

  listed_in-unaddressed : (f : Forest) → T (listed_in f) → T (listed_in (unaddressed_in f))
  listed_in-unaddressed nil h = tt
  listed_in-unaddressed (t ▸ f) h = let (a, b) = both _ _ h in join-and _ _ (listed-unaddressed t a) (listed_in-unaddressed f b)
