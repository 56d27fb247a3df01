-- The host's records, each copied or with the sent table in its place, are the grafted tree's table.
use Rattle.std.specs.Prelude.{◌≡◌, Bool, true, false, cond, not, ◌&&◌, ◌||◌, T}
use Rattle.std.proofs.Math.Path.{refl}
use Rattle.std.proofs.Common.{ap, ap₂, sym, subst, ◌∙◌, add_assoc, suc-add, arith, take_at}
use mathlib.Core.List.{List, [], ◌++◌, append_assoc, append-nil}
use Prim.Native.Nat.{ℕ, suc, ◌+◌, ◌*◌}
use Rattle.std.proofs.Math.Nat.{add-zero, zero-add}
use Rattle.booleans.specs.Tests.{◌and◌}
use Rattle.booleans.specs.Laws.{and-false, and_is, both}
use Rattle.table.specs.Numbers.{record_length}
use Rattle.table.specs.Questions.{arity, listed, listed_in, paired_block, single, unpaired}
use Rattle.table.specs.Table.{decode, each, encode, encodes, first_node, record_bytes, record_count}
use Rattle.table.specs.Trees.{Forest, Tree, every_node, every_node_in, nil, node, records, records_in, size, ◌▸◌}
use Rattle.table.specs.Checking.{IsTable}
use Rattle.table.proofs.Laws.EveryNode.{table-nodes}
use Rattle.table.proofs.Laws.RoundTrip.{WritesNode, Writes, drop-bytes, head_bytes, length-bytes}
use Rattle.table.proofs.Laws.NotRefused.{tree-writes}
use Rattle.table.proofs.Laws.Tables.{count-is, whole-table}
use Rattle.splice.specs.Nodes.{Kind, Limit, Node}
use Rattle.splice.specs.Graft.{graft, graft_in, in_place, is_symbol, rename, uses, uses_in}
use Rattle.splice.specs.Splice.{occurs_first, occurrences, occurrences_in, occurrences_of, place_bytes, sendable_first, splice, splice_first, splice_records}
use Rattle.splice.specs.Laws.Sizes.{rename-records, size-grafted, symbol-only}

place-encode : (u : Tree) (l : Limit) (a : ℕ) → encode (in_place u l a) ≡ place_bytes (encode (rename u 0)) l a
unfolding in_place encode place_bytes size
place-encode u l a = rw (append-nil, append-nil, append_assoc) refl

-- ---- one record

first-is : (s : ℕ) (n : Node) (c : ℕ) (r : List ℕ) → WritesNode n → occurs_first s (record_bytes n c ++ r) ≡ cond (is_symbol s n.kind) 1 0
unfolding occurs_first
first-is s n c r w = rw (head_bytes n c r w) refl

splice-is : (s : ℕ) (body : List ℕ) (n : Node) (c : ℕ) (r : List ℕ) → WritesNode n → splice_first s body (record_bytes n c ++ r) ≡ cond (is_symbol s n.kind) (place_bytes body n.limit n.address) (record_bytes n c)
unfolding splice_first
splice-is s body n c r w = rw (head_bytes n c r w, take_at (record_bytes n c) r record_length (length-bytes n c)) refl

splice-next : (s : ℕ) (body : List ℕ) (n : Node) (c m : ℕ) (r : List ℕ) → WritesNode n
    → splice s body (suc m) (record_bytes n c ++ r) ≡ cond (is_symbol s n.kind) (place_bytes body n.limit n.address) (record_bytes n c) ++ splice s body m r
unfolding splice
splice-next s body n c m r w = ap₂ (λ (x y : List ℕ). x ++ splice s body m y) (splice-is s body n c r w) (drop-bytes n c r)

occurrences-next : (s : ℕ) (n : Node) (c m : ℕ) (r : List ℕ) → WritesNode n → occurrences_in s (suc m) (record_bytes n c ++ r) ≡ cond (is_symbol s n.kind) 1 0 + occurrences_in s m r
unfolding occurrences_in
occurrences-next s n c m r w = ap₂ (λ (x : ℕ) (y : List ℕ). x + occurrences_in s m y) (first-is s n c r w) (drop-bytes n c r)

-- ---- the splice of a tree's table

module _ (s : ℕ) (u : Tree) where
  splice-node : (n : Node) (f : Forest) (R : List ℕ) → T (arity n.kind (size f))
      → cond (is_symbol s n.kind) (place_bytes (encode (rename u 0)) n.limit n.address) (record_bytes n (size f)) ++ (encodes (graft_in s u f) ++ R) ≡ encode (graft s u (node n f)) ++ R
  unfolding graft encode
  splice-node n f R a = go (is_symbol s n.kind) refl
    where
      placed : (f : Forest) → f ≡ nil → place_bytes (encode (rename u 0)) n.limit n.address ++ (encodes (graft_in s u f) ++ R) ≡ encode (in_place u n.limit n.address) ++ R
      placed f e = unfold graft encode in rw (e, place-encode u n.limit n.address) refl

      go : (b : Bool) → is_symbol s n.kind ≡ b
          → cond b (place_bytes (encode (rename u 0)) n.limit n.address) (record_bytes n (size f)) ++ (encodes (graft_in s u f) ++ R) ≡ encode (cond b (in_place u n.limit n.address) (node n (graft_in s u f))) ++ R
      go true e = placed f (symbol-only s n.kind f (subst T (sym e) tt) a).1
      go false e = unfold encode in rw (size-grafted s u f, append_assoc) refl

  mutual
    unfolding listed Writes encode records graft

    pub splice-tree : (t : Tree) → T (listed t) → (m : ℕ) (z : List ℕ)
        → splice s (encode (rename u 0)) (records t + m) (encode t ++ z) ≡ encode (graft s u t) ++ splice s (encode (rename u 0)) m z
    splice-tree (node n f) h m z =
        let (p, c) = both _ _ h in
        let (q, a) = both _ _ p in
        rw (suc-add, append_assoc)
        (splice-next s (encode (rename u 0)) n (size f) (records_in f + m) (encodes f ++ z) (tree-writes (node n f) h).0
        ∙ ap (λ (x : List ℕ). cond (is_symbol s n.kind) (place_bytes (encode (rename u 0)) n.limit n.address) (record_bytes n (size f)) ++ x) (splice-forest f c m z)
        ∙ splice-node n f (splice s (encode (rename u 0)) m z) a)

    splice-forest : (f : Forest) → T (listed_in f) → (m : ℕ) (z : List ℕ)
        → splice s (encode (rename u 0)) (records_in f + m) (encodes f ++ z) ≡ encodes (graft_in s u f) ++ splice s (encode (rename u 0)) m z
    splice-forest nil h m z = rw zero-add refl
    splice-forest (t ▸ f) h m z =
        let (a, b) = both _ _ h in
        rw (add_assoc, append_assoc, append_assoc)
        (splice-tree t a (records_in f + m) (encodes f ++ z) ∙ ap (λ (x : List ℕ). encode (graft s u t) ++ x) (splice-forest f b m z))

-- ---- occurrences counted

mutual
  unfolding listed Writes encode records occurrences

  pub occurrences-tree : (s : ℕ) (t : Tree) → T (listed t) → (m : ℕ) (z : List ℕ) → occurrences_in s (records t + m) (encode t ++ z) ≡ occurrences s t + occurrences_in s m z
  occurrences-tree s (node n f) h m z =
      let (p, c) = both _ _ h in
      rw (suc-add, append_assoc, add_assoc)
      (occurrences-next s n (size f) (records_in f + m) (encodes f ++ z) (tree-writes (node n f) h).0 ∙ ap (λ (x : ℕ). cond (is_symbol s n.kind) 1 0 + x) (occurrences-forest s f c m z))

  occurrences-forest : (s : ℕ) (f : Forest) → T (listed_in f) → (m : ℕ) (z : List ℕ) → occurrences_in s (records_in f + m) (encodes f ++ z) ≡ occurrences_of s f + occurrences_in s m z
  occurrences-forest s nil h m z = rw (zero-add, zero-add) refl
  occurrences-forest s (t ▸ f) h m z =
      let (a, b) = both _ _ h in
      rw (add_assoc, add_assoc, append_assoc) (occurrences-tree s t a (records_in f + m) (encodes f ++ z) ∙ ap (λ (x : ℕ). occurrences s t + x) (occurrences-forest s f b m z))

-- ---- how many records the grafted tree has

module _ (s : ℕ) (u : Tree) where
  records-node : (n : Node) (f : Forest) → T (arity n.kind (size f)) → records_in (graft_in s u f) ≡ records_in f + occurrences_of s f * suc (records u)
      → records (graft s u (node n f)) ≡ suc (records_in f) + (cond (is_symbol s n.kind) 1 0 + occurrences_of s f) * suc (records u)
  unfolding graft records
  records-node n f a e = go (is_symbol s n.kind) refl
    where
      placed : (f : Forest) → f ≡ nil → records (in_place u n.limit n.address) ≡ suc (records_in f) + (1 + occurrences_of s f) * suc (records u)
      placed f e = unfold in_place records occurrences in rw e (omega (arith, rename-records u 0))

      go : (b : Bool) → is_symbol s n.kind ≡ b → records (cond b (in_place u n.limit n.address) (node n (graft_in s u f))) ≡ suc (records_in f) + (cond b 1 0 + occurrences_of s f) * suc (records u)
      go true q = placed f (symbol-only s n.kind f (subst T (sym q) tt) a).1
      go false q = unfold records in rw (e, zero-add (occurrences_of s f)) (omega arith)

  mutual
    unfolding listed records occurrences graft

    pub graft-records : (t : Tree) → T (listed t) → records (graft s u t) ≡ records t + occurrences s t * suc (records u)
    graft-records (node n f) h = let (p, c) = both _ _ h in records-node n f (both _ _ p).1 (graft_in-records f c)

    graft_in-records : (f : Forest) → T (listed_in f) → records_in (graft_in s u f) ≡ records_in f + occurrences_of s f * suc (records u)
    graft_in-records nil h = omega arith
    graft_in-records (t ▸ f) h = let (a, b) = both _ _ h in omega (arith, graft-records t a, graft_in-records f b)

-- ---- accepted tables

module _ (h : List ℕ) (t : IsTable h) where
  pub splice-table : (s : ℕ) (u : Tree) → splice s (encode (rename u 0)) (record_count h) h ≡ encode (graft s u (decode h))
  splice-table s u =
      let e = splice-tree s u (decode h) t.accepted.listed 0 [] in
      sym (ap₂ (splice s (encode (rename u 0))) (add-zero _ ∙ sym (count-is h t)) (whole-table h t)) ∙ e ∙ none s (encode (rename u 0)) (encode (graft s u (decode h)))
    where
      none : (s : ℕ) (body x : List ℕ) → x ++ splice s body 0 [] ≡ x
      none s body x = unfold splice in append-nil x

  pub occurrences-table : (s : ℕ) → occurrences_in s (record_count h) h ≡ occurrences s (decode h)
  occurrences-table s = sym (ap₂ (occurrences_in s) (add-zero _ ∙ sym (count-is h t)) (whole-table h t)) ∙ occurrences-tree s (decode h) t.accepted.listed 0 [] ∙ none s (occurrences s (decode h))
    where
      none : (s x : ℕ) → x + occurrences_in s 0 [] ≡ x
      none s x = unfold occurrences_in in add-zero x

  pub long-table : (s : ℕ) (u : Tree) → splice_records s (records u) (record_count h) h ≡ records (graft s u (decode h))
  unfolding splice_records
  long-table s u = rw (occurrences-table s) (omega (arith, count-is h t, graft-records s u (decode h) t.accepted.listed))

-- ---- which tables may be sent

pub may-send : (s : ℕ) (b : List ℕ) {k : Kind} {x y : Bool} → k ≡ (first_node b).kind → x ≡ is_symbol s k → y ≡ paired_block k → (not x && not y) ≡ sendable_first s b
unfolding sendable_first
may-send s b e f g = rw (and_is, f, g, e) refl

neither : (a b c d : Bool) → ((not a and b) and (not c and d)) ≡ (not (a || c) and (b and d))
unfolding ◌and◌
neither true b c d = refl
neither false b true d = and-false b
neither false b false d = refl

mutual
  unfolding uses every_node ◌and◌

  sendable-nodes : (s : ℕ) (t : Tree) → every_node (λ n. not (is_symbol s n.kind) and single n) t ≡ (not (uses s t) and unpaired t)
  sendable-nodes s (node n f) =
      ap (λ x. (not (is_symbol s n.kind) and single n) and x) (sendable-nodes_in s f) ∙ neither (is_symbol s n.kind) (single n) (uses_in s f) (every_node_in single f)

  sendable-nodes_in : (s : ℕ) (f : Forest) → every_node_in (λ n. not (is_symbol s n.kind) and single n) f ≡ (not (uses_in s f) and every_node_in single f)
  sendable-nodes_in s nil = refl
  sendable-nodes_in s (t ▸ f) = ap₂ ◌and◌ (sendable-nodes s t) (sendable-nodes_in s f) ∙ neither (uses s t) (unpaired t) (uses_in s f) (every_node_in single f)

pub sendable-table : (b : List ℕ) → IsTable b → (s : ℕ) → each (sendable_first s) (record_count b) b ≡ (not (uses s (decode b)) and unpaired (decode b))
unfolding sendable_first
sendable-table b t s = table-nodes (λ n. not (is_symbol s n.kind) and single n) b t ∙ sendable-nodes s (decode b)
