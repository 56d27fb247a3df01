-- Renaming record after record is renaming the tree.
use Rattle.std.specs.Prelude.{◌≡◌, Bool, true, cond, T, leb, drop, get_or, length, set}
use Rattle.std.proofs.Math.Path.{refl}
use Rattle.std.proofs.Common.{ap, ap₂, sym, subst, ◌∙◌, add-zero, suc-add, zero-add, sub-one, arith, get_or-set_other, length-take-le}
use Rattle.std.proofs.Math.Bool.{false}
use mathlib.Core.List.{List, [], ◌∷◌, ◌++◌, append_assoc, append-nil}
use Prim.Native.Nat.{ℕ, zero, suc, ◌+◌, ◌*◌, ◌-◌, ◌<◌, ◌≤◌}
use Rattle.std.proofs.Math.Nat.{add_assoc, add-suc, sub-zero}
use Rattle.std.proofs.Math.Dec.{eqb→eq}
use Rattle.std.proofs.Math.Seq.{get_or-set_same, take-set-lt}
use borrow.Author.Tests.{eq-eqb, le-leb, lt-leb, ne_eqb}
use Rattle.booleans.specs.Laws.{both}
use Rattle.table.specs.Numbers.{most_loops, record_length}
use Rattle.table.specs.Questions.{arity, listed, listed_in, loops, loops_in}
use Rattle.table.specs.Bytes.{to_bytes}
use Rattle.table.specs.Table.{child_byte, decode, encode, encodes, first_node, form_trees, limit_num, loop_byte, record_bytes, record_count}
use Rattle.table.specs.Trees.{Forest, Tree, around, nil, node, records, records_in, rest, size, ◌▸◌}
use Rattle.table.proofs.Laws.RoundTrip.{WritesNode, Writes, children-bytes, drop-bytes, head_bytes}
use Rattle.table.specs.Checking.{IsTable}
use Rattle.table.proofs.Laws.NotRefused.{tree-writes, whole-form}
use Rattle.table.proofs.Laws.Reading.{Wanted, name-byte, next-count, next-part, part-from, wants-next, wants-none, wants-one}
use Rattle.table.proofs.Laws.Survey.{around-rest}
use Rattle.table.proofs.Laws.Trees.{some-loops}
use Rattle.writing.specs.Records.{Appended, front, node_of, slice}
use Rattle.splice.specs.Nodes.{AtMost, Block, Choice, Kind, Limit, Loop, Node, Sequence, Unlimited}
use Rattle.splice.specs.Graft.{rename, rename_in, renamed_limit, renamed_name}
use Rattle.splice.specs.Renaming.{entered, loop_room, renamed_record, renamed_records, renamed_table, still_around, stack}
use Rattle.splice.specs.Laws.Sizes.{size-renamed}
use Rattle.table.proofs.Laws.Tables.{count-is, whole-table}

-- ---- the loops around

-- the innermost loop's count is at most w, so that its body does not end where more are wanted
unfoldable pub Low : ℕ → List ℕ → Type 0
Low w [] = Unit {0}
Low w (x ∷ ends) = x ≤ w

around-low : (w v : ℕ) (ends : List ℕ) → Low w ends → w < v → still_around v ends ≡ ends
unfolding Low still_around
around-low w v [] l h = refl
around-low w v (x ∷ ends) l h = rw (ne_eqb x v (λ e. omega (arith, e))) refl

low-more : (w v : ℕ) (ends : List ℕ) → Low w ends → w ≤ v → Low v ends
unfolding Low
low-more w v [] l h = tt
low-more w v (x ∷ ends) l h = omega arith

-- the children of a node that so many were wanted at: its first child has these loops around, the others those of the node
module _ (w : ℕ) (ends : List ℕ) (l : Low w ends) where
  entered-around : (k : Kind) → around k (length ends) ≤ most_loops → length (entered k (suc w) ends) ≡ around k (length ends)
  unfolding entered around
  entered-around (Block t) h = refl
  entered-around Sequence h = refl
  entered-around Choice h = refl
  entered-around (Loop n) h = rw (le-leb (suc (length ends)) most_loops h) refl

  entered-low : (k : Kind) (c : ℕ) → T (arity k (suc c)) → Low (w + c) (entered k (suc w) ends)
  unfolding entered Low arity
  entered-low (Block t) c a = low-more w (w + c) ends l (omega arith)
  entered-low Sequence c a = low-more w (w + c) ends l (omega arith)
  entered-low Choice c a = low-more w (w + c) ends l (omega arith)
  entered-low (Loop n) c a = go (leb (suc (length ends)) most_loops)
    where
      two : suc c ≡ 2
      two = eqb→eq (suc c) 2 a

      go : (b : Bool) → Low (w + c) (cond b (suc w ∷ ends) ends)
      go true = unfold Low in omega (arith, two)
      go false = low-more w (w + c) ends l (omega arith)

  entered-none : (k : Kind) → T (arity k 0) → entered k (suc w) ends ≡ ends
  unfolding entered arity
  entered-none (Block t) a = refl
  entered-none Sequence a = refl
  entered-none Choice a = refl
  entered-none (Loop n) a = absurd a

  -- with c trees before w to come, what is around the next of them
  unfoldable Leads : (c : ℕ) → List ℕ → Type 0
  Leads zero before = before ≡ ends
  Leads (suc c) before = still_around (w + suc c) before ≡ ends

  leads-none : (before : List ℕ) → Leads 0 before → before ≡ ends
  unfolding Leads
  leads-none before e = e

  leads-next : (c : ℕ) (before : List ℕ) → Leads (suc c) before → still_around (suc (w + c)) before ≡ ends
  unfolding Leads
  leads-next c before e = rw add-suc at e

  leads-on : (c : ℕ) → Leads c ends
  unfolding Leads
  leads-on zero = refl
  leads-on (suc c) = around-low w (w + suc c) ends l (omega arith)

  entered-leads : (k : Kind) (c : ℕ) → T (arity k (suc c)) → around k (length ends) ≤ most_loops → Leads c (entered k (suc w) ends)
  unfolding entered arity around
  entered-leads (Block t) c a h = leads-on c
  entered-leads Sequence c a h = leads-on c
  entered-leads Choice c a h = leads-on c
  entered-leads (Loop n) c a h = left c (eqb→eq (suc c) 2 a)
    where
      left : (c : ℕ) → suc c ≡ 2 → Leads c (cond (leb (suc (length ends)) most_loops) (suc w ∷ ends) ends)
      left zero e = absurd (omega arith)
      left (suc c) e = unfold Leads still_around in rw (le-leb (suc (length ends)) most_loops h, eq-eqb (suc w) (w + suc c) (omega arith)) refl

-- ---- a tree's records

-- a record without a limit has byte 3 zero, which is no loop's name and stays
bytes-renamed : (k : Kind) (l : Limit) (a c d : ℕ) (r : List ℕ) → renamed_record d (record_bytes (node_of k l a) c ++ r) ≡ record_bytes (node_of k (renamed_limit l d) a) c
unfolding renamed_record record_bytes to_bytes renamed_limit loop_byte limit_num
bytes-renamed k Unlimited a c d r = refl
bytes-renamed k (AtMost name m) a c d r = refl

record-renamed : (n : Node) (c m w : ℕ) (before ends r : List ℕ) → WritesNode n → still_around (suc w) before ≡ ends
    → renamed_records (suc m) (suc w) before (record_bytes n c ++ r)
    ≡ record_bytes (node_of n.kind (renamed_limit n.limit (length ends)) n.address) c ++ renamed_records m (w + c) (entered n.kind (suc w) ends) r
unfolding renamed_records
record-renamed n c m w before ends r h e = rw (e, bytes-renamed n.kind n.limit n.address, head_bytes n c r h, children-bytes n c r, drop-bytes n c r, sub-one (suc w)) refl

renamed-node : (n : Node) (f : Forest) (d : ℕ) (r : List ℕ)
    → record_bytes (node_of n.kind (renamed_limit n.limit d) n.address) (size f) ++ (encodes (rename_in n.kind f d) ++ r) ≡ encode (rename (node n f) d) ++ r
unfolding rename encode
renamed-node n f d r = rw (size-renamed n.kind f d, append_assoc) refl

rest-rest : (k : Kind) → rest (rest k) ≡ rest k
unfolding rest
rest-rest (Block t) = refl
rest-rest Sequence = refl
rest-rest Choice = refl
rest-rest (Loop n) = refl

mutual
  unfolding listed loops Writes encode records rename size

  pub renames-tree : (t : Tree) → T (listed t) → (m w : ℕ) (before ends z : List ℕ) → loops t (length ends) ≤ most_loops → Low w ends → still_around (suc w) before ≡ ends
      → renamed_records (records t + m) (suc w) before (encode t ++ z) ≡ encode (rename t (length ends)) ++ renamed_records m w ends z
  renames-tree (node n f) h m w before ends z g l e =
      let (p, c) = both _ _ h in
      rw (suc-add, append_assoc)
      (record-renamed n (size f) (records_in f + m) w before ends (encodes f ++ z) (tree-writes (node n f) h).0 e
      ∙ ap (λ (x : List ℕ). record_bytes (node_of n.kind (renamed_limit n.limit (length ends)) n.address) (size f) ++ x) (renames-children f c n.kind (both _ _ p).1 m w ends z (omega arith) l))
      ∙ renamed-node n f (length ends) (renamed_records m w ends z)

  renames-children : (f : Forest) → T (listed_in f) → (k : Kind) → T (arity k (size f)) → (m w : ℕ) (ends z : List ℕ) → loops_in k f (length ends) ≤ most_loops → Low w ends
      → renamed_records (records_in f + m) (w + size f) (entered k (suc w) ends) (encodes f ++ z) ≡ encodes (rename_in k f (length ends)) ++ renamed_records m w ends z
  renames-children nil h k a m w ends z g l = rw (zero-add, add-zero, entered-none w ends l k a) refl
  renames-children (t ▸ f) h k a m w ends z g l =
      let (x, y) = both _ _ h in
      let few : around k (length ends) ≤ most_loops = omega (arith, some-loops t (around k (length ends))) in
      let same = entered-around w ends l k few in
      let low = entered-low w ends l k (size f) a in
      rw (add_assoc, append_assoc, append_assoc, add-suc)
      (renames-tree t x (records_in f + m) (w + size f) (entered k (suc w) ends) (entered k (suc w) ends) (encodes f ++ z) (rw same (omega arith)) low (around-low (w + size f) (suc (w + size f)) _ low (omega arith))
      ∙ ap₂ (λ (d : ℕ) (r : List ℕ). encode (rename t d) ++ r) same (renames-others f y k m w (entered k (suc w) ends) ends z (omega arith) l (entered-leads w ends l k (size f) a few)))

  renames-others : (f : Forest) → T (listed_in f) → (k : Kind) (m w : ℕ) (before ends z : List ℕ) → loops_in (rest k) f (length ends) ≤ most_loops → (l : Low w ends) → Leads w ends l (size f) before
      → renamed_records (records_in f + m) (w + size f) before (encodes f ++ z) ≡ encodes (rename_in (rest k) f (length ends)) ++ renamed_records m w ends z
  renames-others nil h k m w before ends z g l e = rw (zero-add, add-zero, leads-none w ends l before e) refl
  renames-others (t ▸ f) h k m w before ends z g l e =
      let (x, y) = both _ _ h in
      let few = rw (around-rest k (length ends), rest-rest k) at g in
      let lead = leads-next w ends l (size f) before e in
      rw (add_assoc, append_assoc, append_assoc, add-suc, around-rest k (length ends), rest-rest k)
      (renames-tree t x (records_in f + m) (w + size f) before ends (encodes f ++ z) (omega (arith, few)) (low-more w (w + size f) ends l (omega arith)) lead
      ∙ ap (λ (r : List ℕ). encode (rename t (length ends)) ++ r) (renames-others f y k m w ends ends z (omega (arith, few)) l (leads-on w ends l (size f))))

renamed-table : (b : List ℕ) → IsTable b → renamed_records (record_count b) 1 [] b ≡ renamed_table b
renamed-table b t =
    sym (ap₂ (λ n (x : List ℕ). renamed_records n 1 [] x) (add-zero (records (decode b)) ∙ sym (count-is b t)) (whole-table b t))
    ∙ renames-tree (decode b) t.accepted.listed 0 0 [] [] [] t.accepted.nested (unfold Low in tt) (unfold still_around in refl)
    ∙ none (encode (rename (decode b) 0))
  where
    none : (x : List ℕ) → x ++ renamed_records 0 0 [] [] ≡ x
    none x = unfold renamed_records in append-nil x

-- ---- the counts in an array

length-stack : (e : List ℕ) (n : ℕ) → length (stack e n) ≡ n
unfolding stack
length-stack e zero = refl
length-stack e (suc n) = ap suc (length-stack e n)

-- a count behind them changes none
stack_set : (e : List ℕ) (j x n : ℕ) → n ≤ j → stack (set e j x) n ≡ stack e n
unfolding stack
stack_set e j x zero h = refl
stack_set e j x (suc n) h = ap₂ (λ (y : ℕ) (s : List ℕ). y ∷ s) (get_or-set_other e j n x 0 (λ q. omega (arith, q))) (stack_set e j x n (omega arith))

pub around-none : (e : List ℕ) (w outer : ℕ) → outer ≡ 0 → stack e 0 ≡ still_around w (stack e outer)
unfolding stack still_around
around-none e w outer z = rw z refl

pub around-ended : (e : List ℕ) (w outer : ℕ) → (outer ≡ 0 → ⊥) → get_or e (outer - 1) 0 ≡ w → stack e (outer - 1) ≡ still_around w (stack e outer)
unfolding stack still_around
around-ended e w zero z q = absurd (z refl)
around-ended e w (suc n) z q = rw (sub-one (suc n), eq-eqb (get_or e n 0) w (rw (sub-one (suc n)) at q)) refl

pub around-inside : (e : List ℕ) (w outer : ℕ) → (outer ≡ 0 → ⊥) → (get_or e (outer - 1) 0 ≡ w → ⊥) → stack e outer ≡ still_around w (stack e outer)
unfolding stack still_around
around-inside e w zero z q = absurd (z refl)
around-inside e w (suc n) z q = rw (ne_eqb (get_or e n 0) w (rw (sub-one (suc n)) at q)) refl

module _ (e : List ℕ) (w outer : ℕ) (h : outer < length e) where
  pub enter-inside : (k : Kind) → around k outer ≤ most_loops → stack (set e outer w) (around k outer) ≡ entered k w (stack e outer)
  unfolding entered around stack
  enter-inside (Block t) l = stack_set e outer w outer (omega arith)
  enter-inside Sequence l = stack_set e outer w outer (omega arith)
  enter-inside Choice l = stack_set e outer w outer (omega arith)
  enter-inside (Loop n) l =
      rw (length-stack e outer, le-leb (suc outer) most_loops l, get_or-set_same e outer w 0 h, stack_set e outer w outer (omega arith)) refl

  pub enter-full : (k : Kind) → most_loops < around k outer → stack (set e outer w) outer ≡ entered k w (stack e outer)
  unfolding entered around
  enter-full (Block t) l = stack_set e outer w outer (omega arith)
  enter-full Sequence l = stack_set e outer w outer (omega arith)
  enter-full Choice l = stack_set e outer w outer (omega arith)
  enter-full (Loop n) l = rw (length-stack e outer, lt-leb (suc outer) most_loops l) (stack_set e outer w outer (omega arith))

-- ---- one record

-- a store behind the seam
set-behind : (p q : List ℕ) (n k a : ℕ) → length p ≡ n → set (p ++ q) (n + k) a ≡ p ++ set q k a
set-behind [] q n k a e = rw (← e, zero-add) refl
set-behind (x ∷ p) q n k a e = rw (← e, suc-add) (ap (λ (r : List ℕ). x ∷ r) (set-behind p q (length p) k a refl))

-- what the program's calls tell
pub enters : (b : List ℕ) (e e' : List ℕ) (w outer d r : ℕ) (n : Node) → n ≡ first_node b → stack e d ≡ still_around w (stack e outer)
    → (stack e' r ≡ entered n.kind w (stack e d)) × (r ≤ most_loops) → (stack e' r ≡ entered (first_node b).kind w (still_around w (stack e outer))) × (r ≤ most_loops)
enters b e e' w outer d r n is s (x, l) = (x ∙ ap₂ (λ (m : Node) (y : List ℕ). entered m.kind w y) is s, l)

pub one-renamed : (b e e' : List ℕ) (w outer d i at r k x : ℕ) (out copy : List ℕ) → stack e' d ≡ still_around w (stack e outer) → record_length * at ≤ length out
    → Appended at out 1 (slice b i 1) r copy → k ≡ loop_byte (first_node (drop (record_length * i) b)).limit → x ≡ renamed_name k d
    → front (at + 1) (set copy (record_length * at + 3) x) ≡ front at out ++ renamed_record (length (still_around w (stack e outer))) (drop (record_length * i) b)
unfolding renamed_record
one-renamed b e e' w outer d i at r k x out copy s h (r-is, f) k-is x-is =
    take-set-lt (record_length * (at + 1)) copy (record_length * at + 3) x (omega arith)
    ∙ rw (← r-is, f, ← s, length-stack e' d, ← name-byte, ← k-is, ← x-is) (set-behind (front at out) (slice b i 1) (record_length * at) 3 x (length-take-le (record_length * at) out h))

-- ---- the table

-- the first i records are renamed, behind record `at` of a buffer, and so many trees are wanted
pub record Renamed (b e : List ℕ) (outer w at i : ℕ) (out₀ out : List ℕ) : Type 0 where
  pub wanted : Wanted b w i
  pub nested : outer ≤ most_loops
  pub roomy : length e ≡ loop_room
  pub bytes : front (at + i) out ++ renamed_records (record_count b - i) w (stack e outer) (drop (record_length * i) b) ≡ front at out₀ ++ renamed_records (record_count b) 1 [] b
  pub kept : length out ≡ length out₀

pub none-renamed : (b e : List ℕ) (at : ℕ) (out : List ℕ) → length e ≡ loop_room → Renamed b e 0 1 at 0 out out
unfolding stack
none-renamed b e at out l = record { wanted = wants-one b; nested = omega arith; roomy = l; bytes = rw (sub-zero, add-zero) refl; kept = refl }

-- a table wants a tree until its end
pub some-wanted : (b : List ℕ) → IsTable b → (w i : ℕ) → i < record_count b → Wanted b w i → w ≡ 0 → ⊥
some-wanted b t w i h q z =
    let form : T (form_trees (record_count b) 1 b) = subst (λ (x : List ℕ). T (form_trees (record_count x) 1 x)) t.back (whole-form (decode b)) in
    subst T (wants-none b w i h z q) form

pub next-renamed : (b e e' : List ℕ) (outer outer' w at i c : ℕ) (out₀ out new : List ℕ) → IsTable b → i < record_count b → Renamed b e outer w at i out₀ out
    → (stack e' outer' ≡ entered (first_node (drop (record_length * i) b)).kind w (still_around w (stack e outer))) × (outer' ≤ most_loops)
    → front (at + i + 1) new ≡ front (at + i) out ++ renamed_record (length (still_around w (stack e outer))) (drop (record_length * i) b)
    → (c ≡ child_byte (drop (record_length * i) b)) × (c < 256) → length e' ≡ length e → length new ≡ length out → Renamed b e' outer' (w - 1 + c) at (i + 1) out₀ new
next-renamed b e e' outer outer' w at i c out₀ out new t h r (s, l) f (c-is, few) m k = record {
  wanted = wants-next b w i c h (some-wanted b t w i h r.wanted) r.wanted (c-is ∙ ap child_byte (sym (part-from b (record_length * i)))) few;
  nested = l;
  roomy = m ∙ r.roomy;
  bytes = sym (step (record_count b) h) ∙ r.bytes;
  kept = k ∙ r.kept;
}
  where
    step : (n : ℕ) → i < n → front (at + i) out ++ renamed_records (n - i) w (stack e outer) (drop (record_length * i) b)
        ≡ front (at + (i + 1)) new ++ renamed_records (n - (i + 1)) (w - 1 + c) (stack e' outer') (drop (record_length * (i + 1)) b)
    step n g = unfold renamed_records in rw (next-count n i g, ← add_assoc, f, s, c-is, append_assoc, ← next-part) refl

pub all_renamed : (b e : List ℕ) (outer w at i : ℕ) (out₀ out : List ℕ) → IsTable b → record_count b ≤ i → Renamed b e outer w at i out₀ out
    → front (at + record_count b) out ≡ front at out₀ ++ renamed_table b
all_renamed b e outer w at i out₀ out t h r =
    let end : i ≡ record_count b = omega (arith, r.wanted.within) in
    ap (λ n. front (at + n) out) (sym end) ∙ sym (append-nil (front (at + i) out)) ∙ last (record_count b - i) (omega arith) r.bytes ∙ ap (λ (x : List ℕ). front at out₀ ++ x) (renamed-table b t)
  where
    last : (n : ℕ) → n ≡ 0 → front (at + i) out ++ renamed_records n w (stack e outer) (drop (record_length * i) b) ≡ front at out₀ ++ renamed_records (record_count b) 1 [] b
        → front (at + i) out ++ [] ≡ front at out₀ ++ renamed_records (record_count b) 1 [] b
    last n z q = unfold renamed_records in (rw z at q)
