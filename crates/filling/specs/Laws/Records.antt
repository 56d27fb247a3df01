-- Record by record, the bytes are those of the tree.
use Rattle.std.specs.Prelude.{◌≡◌, Bool, true, false, T, ltb, drop, length}
use Rattle.std.proofs.Math.Path.{refl}
use Rattle.std.proofs.Common.{ap, ap₂, sym, subst, ◌∙◌, add_assoc, add-zero, suc-add, zero-add, ltb→lt, length-append, drop_at, ltb-false}
use mathlib.Core.List.{List, [], ◌++◌, append_assoc, append-nil}
use Prim.Native.Nat.{ℕ, zero, suc, ◌+◌, ◌*◌, ◌-◌, ◌<◌}
use native.Mathlib.Omega.{arith}
use Rattle.std.proofs.Math.Seq.{drop-drop}
use Rattle.booleans.specs.Laws.{both, is_T}
use Rattle.table.specs.Numbers.{record_length}
use Rattle.table.specs.Questions.{Accepted, kind_in_range, limit_in_range, listed, listed_in}
use Rattle.table.specs.Table.{decode, encode, encodes, first_node, record_bytes, record_count}
use Rattle.table.specs.Trees.{Forest, Tree, nil, node, records, records_in, size, ◌▸◌}
use Rattle.table.specs.Checking.{IsTable}
use Rattle.table.proofs.Laws.NotRefused.{reads-back, tree-writes}
use Rattle.table.proofs.Laws.RoundTrip.{Writes, WritesNode, children-bytes, drop-bytes, head_bytes, length-bytes, length-encode}
use Rattle.table.proofs.Laws.Tables.{count-is, whole-table, written-table}
use Rattle.filling.specs.Nodes.{Most, Node, Number}
use Rattle.filling.specs.Fill.{on_forest, on_node, on_tree}
use Rattle.marking.specs.Marks.{node_at}
use Rattle.filling.specs.Records.{on_records}
use Rattle.filling.specs.Laws.Shape.{EachIn, EachNode, Ranged, accepted-on, each-listed, each_on, records-on, size-on}

-- ---- the table of the tree

module _ (g : ℕ → Number → Number) (h : ℕ → Most → Most) where
  on-next : (n : Node) (c m i : ℕ) (r : List ℕ) → WritesNode n → on_records g h (suc m) i (record_bytes n c ++ r) ≡ record_bytes (on_node (g i) (h i) n) c ++ on_records g h m (suc i) r
  unfolding on_records
  on-next n c m i r w = rw (head_bytes n c r w, children-bytes n c r, drop-bytes n c r) refl

  node-join : (n : Node) (i k m : ℕ) (f F : Forest) (z : List ℕ) → size F ≡ size f
      → record_bytes n (size f) ++ (encodes F ++ on_records g h m (suc i + k) z) ≡ (record_bytes n (size F) ++ encodes F) ++ on_records g h m (i + suc k) z
  node-join n i k m f F z e =
      let j : i + suc k ≡ suc i + k = omega arith in
      rw (e, j) (sym (append_assoc (record_bytes n (size f)) (encodes F) (on_records g h m (suc i + k) z)))

  mutual
    unfolding listed Writes encode records on_tree

    pub records-tree : (i : ℕ) (t : Tree) → T (listed t) → (m : ℕ) (z : List ℕ) → on_records g h (records t + m) i (encode t ++ z) ≡ encode (on_tree g h i t) ++ on_records g h m (i + records t) z
    records-tree i (node n f) l m z =
        let (p, c) = both _ _ l in
        rw (suc-add, append_assoc (record_bytes n (size f)) (encodes f) z)
        (on-next n (size f) (records_in f + m) i (encodes f ++ z) (tree-writes (node n f) l).0
        ∙ ap (λ (x : List ℕ). record_bytes (on_node (g i) (h i) n) (size f) ++ x) (records-forest (suc i) f c m z)
        ∙ node-join (on_node (g i) (h i) n) i (records_in f) m f (on_forest g h (suc i) f) z (size-on g h (suc i) f))

    records-forest : (i : ℕ) (f : Forest) → T (listed_in f) → (m : ℕ) (z : List ℕ) → on_records g h (records_in f + m) i (encodes f ++ z) ≡ encodes (on_forest g h i f) ++ on_records g h m (i + records_in f) z
    records-forest i nil l m z = rw (zero-add, add-zero) refl
    records-forest i (t ▸ f) l m z =
        let (a, b) = both _ _ l in
        rw (add_assoc (records t) (records_in f) m, append_assoc (encode t) (encodes f) z, append_assoc (encode (on_tree g h i t)) (encodes (on_forest g h (i + records t) f)) (on_records g h m (i + (records t + records_in f)) z), ← add_assoc i (records t) (records_in f))
        (records-tree i t a (records_in f + m) (encodes f ++ z) ∙ ap (λ (x : List ℕ). encode (on_tree g h i t) ++ x) (records-forest (i + records t) f b m z))

  -- some records, then others
  pub records-split : (m n i : ℕ) (b : List ℕ) → on_records g h (m + n) i b ≡ on_records g h m i b ++ on_records g h n (i + m) (drop (record_length * m) b)
  unfolding on_records
  records-split zero n i b = rw (zero-add, add-zero) refl
  records-split (suc m) n i b =
      let j : i + suc m ≡ suc i + m = omega arith in
      let k : record_length * suc m ≡ record_length + record_length * m = omega arith in
      rw (suc-add, j, k, ← drop-drop, append_assoc, records-split m n (suc i) (drop record_length b)) refl

  pub length-records : (n i : ℕ) (b : List ℕ) → length (on_records g h n i b) ≡ record_length * n
  unfolding on_records
  length-records zero i b = refl
  length-records (suc n) i b = rw (length-append, length-bytes, length-records n (suc i) (drop record_length b)) (omega arith)

-- ---- a table's records

module _ (b : List ℕ) (t : IsTable b) where
  pub records-table : (g : ℕ → Number → Number) (h : ℕ → Most → Most) → on_records g h (record_count b) 0 b ≡ encode (on_tree g h 0 (decode b))
  records-table g h =
      sym (ap₂ (λ n x. on_records g h n 0 x) (add-zero _ ∙ sym (count-is b t)) (whole-table b t)) ∙ records-tree g h 0 (decode b) t.accepted.listed 0 [] ∙ none (0 + records (decode b)) (encode (on_tree g h 0 (decode b)))
    where
      none : (i : ℕ) (x : List ℕ) → x ++ on_records g h 0 i [] ≡ x
      none i x = unfold on_records in append-nil x

-- ---- the nodes of a table's records

node-past : (a r : List ℕ) (k j n : ℕ) → length a ≡ record_length * k → n ≡ k + j → node_at (a ++ r) n ≡ node_at r j
node-past a r k j n l e =
    let m : record_length * n ≡ record_length * k + record_length * j = omega arith in
    rw (m, ← drop-drop, drop_at a r (record_length * k) l) refl

module _ (P : ℕ → Node → Type 0) where
  move : (i j : ℕ) (n m : Node) → i ≡ j → n ≡ m → P i n → P j m
  move i j n m e f p = subst (λ k. P k m) e (subst (P i) f p)

  mutual
    unfolding listed Writes encode records EachNode

    each_read : (i : ℕ) (t : Tree) → T (listed t) → (z : List ℕ) → ((j : ℕ) → j < records t → P (i + j) (node_at (encode t ++ z) j)) → EachNode P i t
    each_read i (node n f) l z w =
        let (p, c) = both _ _ l in
        let s : record_bytes n (size f) ++ encodes f ++ z ≡ record_bytes n (size f) ++ (encodes f ++ z) = append_assoc (record_bytes n (size f)) (encodes f) z in (
          move (i + 0) i _ n (add-zero i) (ap first_node s ∙ head_bytes n (size f) (encodes f ++ z) (tree-writes (node n f) l).0) (w 0 (omega arith)),
          each_in-read (suc i) f c z (λ j q. move (i + suc j) (suc i + j) _ _ (omega arith) (ap (λ (x : List ℕ). node_at x (suc j)) s ∙ node-past (record_bytes n (size f)) (encodes f ++ z) 1 j (suc j) (length-bytes n (size f)) (omega arith)) (w (suc j) (omega arith))),
        )

    each_in-read : (i : ℕ) (f : Forest) → T (listed_in f) → (z : List ℕ) → ((j : ℕ) → j < records_in f → P (i + j) (node_at (encodes f ++ z) j)) → EachIn P i f
    each_in-read i nil l z w = tt
    each_in-read i (t ▸ f) l z w =
        let (a, b) = both _ _ l in
        let s : encode t ++ encodes f ++ z ≡ encode t ++ (encodes f ++ z) = append_assoc (encode t) (encodes f) z in (
          each_read i t a (encodes f ++ z) (λ j q. move (i + j) (i + j) _ _ refl (ap (λ (x : List ℕ). node_at x j) s) (w j (omega arith))),
          each_in-read (i + records t) f b z (λ j q. move (i + (records t + j)) (i + records t + j) _ _ (omega arith) (ap (λ (x : List ℕ). node_at x (records t + j)) s ∙ node-past (encode t) (encodes f ++ z) (records t) j (records t + j) (length-encode t) refl) (w (records t + j) (omega arith))),
        )

  -- what holds of each record's node holds of each of the tree's
  pub each-table : (b : List ℕ) → IsTable b → ((j : ℕ) → j < record_count b → P j (node_at b j)) → EachNode P 0 (decode b)
  each-table b t w =
      each_read 0 (decode b) t.accepted.listed [] (λ j q. move j (0 + j) _ _ (omega arith) (ap (λ (x : List ℕ). node_at x j) (sym (whole-table b t))) (w j (omega (arith, count-is b t))))

  split-lt : (j k : ℕ) (Q : Type 0) → (j < k → Q) → ((r : ℕ) → j ≡ k + r → Q) → Q
  split-lt j k Q f g = go (ltb j k) refl
    where
      go : (c : Bool) → ltb j k ≡ c → Q
      go true e = f (ltb→lt j k (is_T _ e))
      go false e = g (j - k) (omega (arith, ltb-false j k e))

  mutual
    unfolding listed Writes encode records EachNode

    pub at_each : (i : ℕ) (t : Tree) → T (listed t) → (z : List ℕ) → EachNode P i t → (j : ℕ) → j < records t → P (i + j) (node_at (encode t ++ z) j)
    at_each i (node n f) l z e zero q =
        let s : record_bytes n (size f) ++ encodes f ++ z ≡ record_bytes n (size f) ++ (encodes f ++ z) = append_assoc (record_bytes n (size f)) (encodes f) z in
        move i (i + 0) n _ (sym (add-zero i)) (sym (ap first_node s ∙ head_bytes n (size f) (encodes f ++ z) (tree-writes (node n f) l).0)) e.0
    at_each i (node n f) l z e (suc j) q =
        let (p, c) = both _ _ l in
        let s : record_bytes n (size f) ++ encodes f ++ z ≡ record_bytes n (size f) ++ (encodes f ++ z) = append_assoc (record_bytes n (size f)) (encodes f) z in
        let past = ap (λ (x : List ℕ). node_at x (suc j)) s ∙ node-past (record_bytes n (size f)) (encodes f ++ z) 1 j (suc j) (length-bytes n (size f)) (omega arith) in
        move (suc i + j) (i + suc j) _ _ (omega arith) (sym past) (at_in-each (suc i) f c z e.1 j (omega arith))

    at_in-each : (i : ℕ) (f : Forest) → T (listed_in f) → (z : List ℕ) → EachIn P i f → (j : ℕ) → j < records_in f → P (i + j) (node_at (encodes f ++ z) j)
    at_in-each i nil l z e j q = absurd (omega arith)
    at_in-each i (t ▸ f) l z e j q =
        let (a, b) = both _ _ l in
        let s : encode t ++ encodes f ++ z ≡ encode t ++ (encodes f ++ z) = append_assoc (encode t) (encodes f) z in
        split-lt j (records t) (P (i + j) (node_at (encode t ++ encodes f ++ z) j))
        (λ m. move (i + j) (i + j) _ _ refl (ap (λ (x : List ℕ). node_at x j) (sym s)) (at_each i t a (encodes f ++ z) e.0 j m))
        (λ r m. move (i + records t + r) (i + j) _ _ (omega arith) (sym (ap (λ (x : List ℕ). node_at x j) s ∙ node-past (encode t) (encodes f ++ z) (records t) r j (length-encode t) m)) (at_in-each (i + records t) f b z e.1 r (omega arith)))

  -- what holds of each node of a listed tree holds of each node of its table
  pub at_table : (t : Tree) → T (listed t) → EachNode P 0 t → (j : ℕ) → j < records t → P j (node_at (encode t) j)
  at_table t l e j q = move (0 + j) j _ _ (omega arith) (ap (λ (x : List ℕ). node_at x j) (append-nil (encode t))) (at_each 0 t l [] e j q)

-- the numbers of each record of a table are in range
pub record-ranged : (b : List ℕ) → IsTable b → (j : ℕ) → j < record_count b → T (kind_in_range (node_at b j).kind) × T (limit_in_range (node_at b j).limit)
record-ranged b t j l =
    subst (λ (x : List ℕ). T (kind_in_range (node_at x j).kind) × T (limit_in_range (node_at x j).limit)) t.back
    (at_table (λ i n. T (kind_in_range n.kind) × T (limit_in_range n.limit)) (decode b) t.accepted.listed
    (each-listed (λ i n. T (kind_in_range n.kind) × T (limit_in_range n.limit)) (λ i n x y. (x, y)) 0 (decode b) t.accepted.listed) j (omega (arith, count-is b t)))

-- the nodes of the table with other numbers
pub nodes-on : (g : ℕ → Number → Number) (h : ℕ → Most → Most) (b : List ℕ) → IsTable b → T (listed (on_tree g h 0 (decode b))) → (j : ℕ) → j < record_count b
    → node_at (encode (on_tree g h 0 (decode b))) j ≡ on_node (g j) (h j) (node_at b j)
nodes-on g h b t l j q =
    at_table (λ i n. n ≡ on_node (g i) (h i) (node_at b i)) (on_tree g h 0 (decode b)) l
    (each_on g h (λ i n. n ≡ on_node (g i) (h i) (node_at b i)) 0 (decode b) (each-table (λ i n. on_node (g i) (h i) n ≡ on_node (g i) (h i) (node_at b i)) b t (λ i k. refl)))
    j (omega (arith, count-is b t, records-on g h 0 (decode b)))

-- ---- a table with other numbers

-- it is as long
pub table-length : (g : ℕ → Number → Number) (h : ℕ → Most → Most) (b : List ℕ) → IsTable b → length (encode (on_tree g h 0 (decode b))) ≡ length b
table-length g h b t = length-encode (on_tree g h 0 (decode b)) ∙ ap (λ k. record_length * k) (records-on g h 0 (decode b)) ∙ sym (length-encode (decode b)) ∙ ap length t.back

-- it is accepted where they are in range
module _ (g : ℕ → Number → Number) (h : ℕ → Most → Most) (b : List ℕ) (t : IsTable b) (ranged : (j : ℕ) → j < record_count b → Ranged g h j (node_at b j)) where
  pub accepted-table-on : Accepted (on_tree g h 0 (decode b))
  accepted-table-on = accepted-on g h (decode b) t.accepted (each-table (Ranged g h) b t ranged)

  pub table_on : IsTable (encode (on_tree g h 0 (decode b)))
  table_on = written-table (on_tree g h 0 (decode b)) accepted-table-on

  pub decode-on : decode (encode (on_tree g h 0 (decode b))) ≡ on_tree g h 0 (decode b)
  decode-on = reads-back (on_tree g h 0 (decode b)) accepted-table-on.listed
