-- A test of each record's limit is a test of every limit of the table's tree.
use Rattle.std.specs.Prelude.{◌≡◌, Bool, true, List, T, drop, get_or}
use Rattle.std.proofs.Math.Path.{refl}
use Prim.Native.Nat.{ℕ, zero, suc, ◌/◌, ◌<◌}
use Rattle.std.proofs.Common.{arith}
use borrow.Author.Tests.{ltb-true}
use Rattle.booleans.specs.Laws.{both, is_T, join-and, T-is}
use Rattle.table.specs.Nodes.{Most, Limit, Unlimited, AtMost}
use Rattle.table.specs.Numbers.{record_length}
use Rattle.table.specs.Trees.{Forest, nil, ◌▸◌, Tree, node, every_node}
use Rattle.table.specs.Limits.{limit_holds, every_limit, every_limit_in, most_holds}
use Rattle.table.specs.Table.{first_node, field, each, each_by, decode, limit_from, most_from, record_count, without_four}
use Rattle.table.specs.Questions.{limit_in_range, listed, listed_in, most_in_range}
use Rattle.table.specs.Checking.{IsTable}
use Rattle.table.proofs.Laws.EveryNode.{table-nodes}

pub table-limits : (p : ℕ → Most → Bool) (b : List ℕ) → IsTable b → each (λ r. limit_holds p (first_node r).limit) (record_count b) b ≡ every_limit p (decode b)
table-limits p = table-nodes (λ n. limit_holds p n.limit)

-- a test that follows from another
module _ (p q : ℕ → Most → Bool) (implies : (k : ℕ) (m : Most) → T (p k m) → T (q k m)) where
  limit-follows : (l : Limit) → T (limit_holds p l) → T (limit_holds q l)
  unfolding limit_holds
  limit-follows Unlimited h = tt
  limit-follows (AtMost k m) h = implies k m h

  mutual
    unfolding every_node

    pub limits-follow : (t : Tree) → T (every_limit p t) → T (every_limit q t)
    limits-follow (node n f) h = let (a, b) = both _ _ h in join-and _ _ (limit-follows n.limit a) (limits_in-follow f b)

    limits_in-follow : (f : Forest) → T (every_limit_in p f) → T (every_limit_in q f)
    limits_in-follow nil h = tt
    limits_in-follow (t ▸ f) h = let (a, b) = both _ _ h in join-and _ _ (limits-follow t a) (limits_in-follow f b)

-- ---- tests that hold of every limit by what questions 2 and 3 say

-- a limit in range
module _ (p : ℕ → Most → Bool) (holds : (k : ℕ) (m : Most) → T (most_in_range m) → T (p k m)) where
  limit-ranged : (l : Limit) → T (limit_in_range l) → T (limit_holds p l)
  unfolding limit_holds limit_in_range
  limit-ranged Unlimited h = tt
  limit-ranged (AtMost k m) h = holds k m (both _ _ h).1

  mutual
    unfolding listed every_node

    pub ranged-limits : (t : Tree) → T (listed t) → T (every_limit p t)
    ranged-limits (node n f) h =
        let (q, c) = both _ _ h in
        let (r, a) = both _ _ q in
        join-and _ _ (limit-ranged n.limit (both _ _ r).1) (ranged_in-limits f c)

    ranged_in-limits : (f : Forest) → T (listed_in f) → T (every_limit_in p f)
    ranged_in-limits nil h = tt
    ranged_in-limits (t ▸ f) h = let (a, b) = both _ _ h in join-and _ _ (ranged-limits t a) (ranged_in-limits f b)

-- a limit without flag 4 is plain or a symbol
module _ (q : Most → Bool) (plain : (n : ℕ) → q (Most.Plain n) ≡ true) (symbol : (s : ℕ) → q (Most.Symbol s) ≡ true) where
  low-flags : (k s x : ℕ) → s < 2 → most_holds q (limit_from k (most_from s x)) ≡ true
  unfolding limit_holds limit_from most_from
  low-flags zero s x l = refl
  low-flags (suc k) zero x l = plain x
  low-flags (suc k) (suc zero) x l = symbol x
  low-flags (suc k) (suc (suc s)) x l = absurd (omega arith)

  pub no_flag : (b : List ℕ) → without_four b ≡ true → most_holds q (first_node b).limit ≡ true
  unfolding first_node
  no_flag b e = low-flags (get_or b 3 0) (get_or b 1 0 / 2) (field b 4 4) (omega (arith, ltb-true (get_or b 1 0) 4 e))

-- a test that follows from another at each record
pub each-follows : (p q : List ℕ → Bool) → ((r : List ℕ) → p r ≡ true → q r ≡ true) → (n : ℕ) (b : List ℕ) → each p n b ≡ true → each q n b ≡ true
unfolding each_by
each-follows p q f zero b e = refl
each-follows p q f (suc n) b e =
    let (x, y) = both _ _ (is_T _ e) in
    T-is _ (join-and _ _ (is_T _ (f b (T-is _ x))) (is_T _ (each-follows p q f n (drop record_length b) (T-is _ y))))
