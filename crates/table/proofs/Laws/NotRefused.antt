-- The table of an accepted tree is not refused, and reads back as that tree.
use Rattle.std.specs.Prelude.{◌≡◌, true, ◌||◌, ◌&&◌, Bool, List, [], ◌++◌, ◌<◌, ◌^◌, zero, suc, ℕ, ◌+◌, ◌*◌, ◌/◌, ◌%◌, ◌≤◌, leb, eqb, length}
use Rattle.std.proofs.Math.Path.{refl, subst}
use Rattle.std.proofs.Common.{sym, ap₂, ◌∙◌, append_assoc, append-nil, suc-add, zero-add, add_assoc, add-zero, add-suc, arith, ltb→lt, leb→le, le→leb}
use Rattle.std.proofs.Math.Bool.{false}
use Rattle.std.proofs.Math.Dec.{T}
use Rattle.table.specs.Nodes.{Number, Plain, Symbol, Most, Kind, Block, Sequence, Choice, Loop, Limit, Unlimited, AtMost, Node}
use Rattle.booleans.specs.Tests.{◌and◌}
use Rattle.booleans.specs.Laws.{both, or_left, &&-join, join-and}
use Rattle.table.specs.Numbers.{how_many_addresses, most_children, whole_run, most_loops, most_depth, most_weight, record_length, most_records, most_time, most_count, first_time_symbol, how_many_symbols}
use Rattle.table.specs.Trees.{Tree, node, Forest, nil, ◌▸◌, size, records, records_in}
use Rattle.table.specs.Questions.{time_in_range, count_in_range, most_in_range, is_address, kind_in_range, limit_in_range, node_in_range, listed, listed_in, arity, depth, loops, named, weight, Accepted}
use Rattle.table.specs.Bytes.{to_bytes, from_bytes}
use Rattle.table.specs.Table.{decode, each, each_by, encode, encodes, flag, form_trees, form_trees_by, kind_byte, limit_num, loop_byte, most_field, most_flags, raw, record_bytes, record_count, value_num}
use Rattle.table.specs.Checking.{flags_listed, kind_listed, limit_listed, record_listed, limit_count, record_in_range, question1, question2, question3, question4, question5, question6, question7, questions, refusal}
use Rattle.table.proofs.Laws.Trees.{some-records}
use Rattle.table.proofs.Laws.RoundTrip.{WritesKind, WritesLimit, WritesNode, Writes, WritesAll, flag-low, flag-high, kind-value, limit-most, head_bytes, drop-bytes, children-bytes, decode-encode, length-encode}
use Rattle.table.proofs.Laws.Asking.{Yes, yes-all}

-- ---- each node can be written

time-writes : (v : Number) → T (time_in_range v) → raw v < 256 ^ 8
unfolding time_in_range
time-writes (Plain n) t = omega (arith, leb→le n most_time t)
time-writes (Symbol n) t = omega (arith, ltb→lt n how_many_symbols (both _ _ t).1)

count-writes : (v : Number) → T (count_in_range v) → raw v < 256 ^ 8
unfolding count_in_range
count-writes (Plain n) t = omega (arith, leb→le n most_count t)
count-writes (Symbol n) t = omega (arith, ltb→lt n first_time_symbol t)

most-writes : (m : Most) → T (most_in_range m) → most_field m < 256 ^ 4
unfolding most_in_range
most-writes (Most.Plain n) t = omega (arith, leb→le n most_count t)
most-writes (Most.Symbol s) t = omega (arith, ltb→lt s first_time_symbol t)
most-writes (Most.Triangular s) t = omega (arith, ltb→lt s first_time_symbol t)

kind-writes : (k : Kind) → T (kind_in_range k) → WritesKind k
unfolding kind_in_range WritesKind
kind-writes (Block v) t = time-writes v t
kind-writes Sequence t = tt
kind-writes Choice t = tt
kind-writes (Loop v) t = count-writes v t

none_named : T ((false and true) || false) → ⊥
unfolding ◌and◌
none_named h = h

limit-writes : (l : Limit) → T (limit_in_range l) → WritesLimit l
unfolding limit_in_range WritesLimit
limit-writes Unlimited t = tt
limit-writes (AtMost zero m) t = absurd (none_named (both ((false and true) || false) (most_in_range m) t).0)
limit-writes (AtMost (suc k) m) t = (omega arith, most-writes m (both _ _ t).1)

node-writes : (n : Node) → T (node_in_range n) → WritesNode n
unfolding is_address
node-writes n h =
    let (p, l) = both _ _ h in
    let (a, k) = both _ _ p in
    record { kind = kind-writes n.kind k; limit = limit-writes n.limit l; address = ltb→lt n.address how_many_addresses a }

mutual
  unfolding listed Writes

  pub tree-writes : (t : Tree) → T (listed t) → Writes t
  tree-writes (node n f) h =
      let (p, c) = both _ _ h in
      (node-writes n (both _ _ p).0, forest-writes f c)

  forest-writes : (f : Forest) → T (listed_in f) → WritesAll f
  forest-writes nil h = tt
  forest-writes (t ▸ f) h = let (a, b) = both _ _ h in (tree-writes t a, forest-writes f b)

shape-ok : (k : Kind) (c : ℕ) → T (arity k c) → T (kind_listed (kind_byte k) c (flag (value_num k)) (raw (value_num k)))
unfolding arity kind_byte value_num flag
shape-ok (Block v) c h = or_left (eqb c 0 || false) false (or_left (eqb c 0) false h)
shape-ok Sequence c h = &&-join (leb 1 c && true) true (&&-join (leb 1 c) true (both (leb 1 c) (leb c most_children) h).0 tt) tt
shape-ok Choice c h = &&-join (leb 1 c && true) true (&&-join (leb 1 c) true (both (leb 1 c) (leb c most_children) h).0 tt) tt
shape-ok (Loop v) c h = or_left (eqb c 2) false h

names-ok : (l : Limit) → T (limit_in_range l) → T (limit_listed (loop_byte l) (most_flags (limit_num l)) (most_field (limit_num l)))
unfolding limit_in_range loop_byte limit_num most_flags
names-ok Unlimited h = tt
names-ok (AtMost k m) h =
    or_left ((leb 1 k && leb k most_loops) || eqb k whole_run) (eqb k 0 && eqb (most_flags m) 0 && eqb (most_field m) 0)
    (go (leb 1 k) (leb k most_loops) (eqb k whole_run) (both ((leb 1 k and leb k most_loops) || eqb k whole_run) (most_in_range m) h).0)
  where
    go : (a b c : Bool) → T ((a and b) || c) → T ((a && b) || c)
    go true true c h = tt
    go true false c h = subst (λ x. T (x || c)) no₁ h
      where
        no₁ : (true and false) ≡ false
        no₁ = unfold ◌and◌ in refl
    go false b c h = subst (λ x. T (x || c)) no₂ h
      where
        no₂ : (false and b) ≡ false
        no₂ = unfold ◌and◌ in refl

flags-ok : (m : Most) → T (flags_listed (most_flags m))
unfolding most_flags
flags-ok (Most.Plain n) = tt
flags-ok (Most.Symbol s) = tt
flags-ok (Most.Triangular s) = tt

listed-fields : (k : Kind) (l : Limit) (c : ℕ) → WritesKind k → WritesLimit l → T (arity k c) → T (limit_in_range l)
    → T (kind_listed (kind_byte k) c ((flag (value_num k) + 2 * most_flags (limit_num l)) % 2) (from_bytes (to_bytes 8 (raw (value_num k))))
    && limit_listed (loop_byte l) ((flag (value_num k) + 2 * most_flags (limit_num l)) / 2) (from_bytes (to_bytes 4 (most_field (limit_num l))))
    && flags_listed ((flag (value_num k) + 2 * most_flags (limit_num l)) / 2)
    && true)
listed-fields k l c x y a b =
    let S = kind_listed (kind_byte k) c (flag (value_num k)) (raw (value_num k)) in
    let N = limit_listed (loop_byte l) (most_flags (limit_num l)) (most_field (limit_num l)) in
    rw (flag-low (value_num k) (most_flags (limit_num l)), flag-high (value_num k) (most_flags (limit_num l)), (kind-value k x).0, (limit-most l y).0)
    (&&-join (S && N && flags_listed (most_flags (limit_num l))) true (&&-join (S && N) _ (&&-join S N (shape-ok k c a) (names-ok l b)) (flags-ok (limit_num l))) tt)

record-listed : (n : Node) (c : ℕ) (r : List ℕ) → T (node_in_range n) → T (arity n.kind c) → T (record_listed (record_bytes n c ++ r))
unfolding record_bytes to_bytes
record-listed n c r h e =
    let w = node-writes n h in
    listed-fields n.kind n.limit c w.kind w.limit e (both _ _ h).1

limit-counts : (l : Limit) → T (limit_in_range l) → T (limit_count l)
unfolding limit_in_range limit_count
limit-counts Unlimited h = tt
limit-counts (AtMost k m) h = (both ((leb 1 k and leb k most_loops) || eqb k whole_run) (most_in_range m) h).1

record-ranged : (n : Node) (c : ℕ) (r : List ℕ) → T (node_in_range n) → T (arity n.kind c) → T (record_in_range (record_bytes n c ++ r))
unfolding record_in_range
record-ranged n c r h e =
    let (p, l) = both _ _ h in
    subst (λ m. T (kind_in_range m.kind and limit_count m.limit)) (sym (head_bytes n c r (node-writes n h)))
    (join-and _ _ (both _ _ p).1 (limit-counts n.limit l))

-- ---- all records of a tree

each_next : (p : List ℕ → Bool) (k : ℕ) (n : Node) (c : ℕ) (r : List ℕ) → T (p (record_bytes n c ++ r)) → T (each p k r) → T (each p (suc k) (record_bytes n c ++ r))
unfolding each_by
each_next p k n c r h i = join-and _ _ h (subst (λ x. T (each p k x)) (sym (drop-bytes n c r)) i)

module _ (p : List ℕ → Bool) (h : (n : Node) (c : ℕ) (r : List ℕ) → T (node_in_range n) → T (arity n.kind c) → T (p (record_bytes n c ++ r))) where
  mutual
    unfolding listed encode records

    each-tree : (t : Tree) → T (listed t) → (m : ℕ) (r : List ℕ) → T (each p m r) → T (each p (records t + m) (encode t ++ r))
    each-tree (node n f) l m r e =
        let (x, c) = both _ _ l in
        let (y, a) = both _ _ x in
        rw (suc-add, append_assoc) (each_next p (records_in f + m) n (size f) (encodes f ++ r) (h n (size f) (encodes f ++ r) y a) (each-forest f c m r e))

    each-forest : (f : Forest) → T (listed_in f) → (m : ℕ) (r : List ℕ) → T (each p m r) → T (each p (records_in f + m) (encodes f ++ r))
    each-forest nil l m r e = rw zero-add e
    each-forest (t ▸ f) l m r e =
        let (a, b) = both _ _ l in
        rw (add_assoc, append_assoc) (each-tree t a (records_in f + m) (encodes f ++ r) (each-forest f b m r e))

form-next : (m k : ℕ) (n : Node) (c : ℕ) (r : List ℕ) → form_trees (suc m) (suc k) (record_bytes n c ++ r) ≡ form_trees m (k + c) r
unfolding form_trees_by
form-next m k n c r = ap₂ (λ x y. form_trees m (k + x) y) (children-bytes n c r) (drop-bytes n c r)

mutual
  unfolding encode records size

  form-tree : (t : Tree) (m k : ℕ) (r : List ℕ) → form_trees (records t + m) (suc k) (encode t ++ r) ≡ form_trees m k r
  form-tree (node n f) m k r = rw (suc-add, append_assoc) (form-next (records_in f + m) k n (size f) (encodes f ++ r) ∙ form-forest f m k r)

  form-forest : (f : Forest) (m k : ℕ) (r : List ℕ) → form_trees (records_in f + m) (k + size f) (encodes f ++ r) ≡ form_trees m k r
  form-forest nil m k r = rw (zero-add, add-zero) refl
  form-forest (t ▸ f) m k r = rw (add_assoc, append_assoc, add-suc) (form-tree t (records_in f + m) (k + size f) (encodes f ++ r) ∙ form-forest f m k r)

-- ---- the seven questions

pub reads-back : (t : Tree) → T (listed t) → decode (encode t) ≡ t
reads-back t l = decode-encode t (tree-writes t l)

count-records : (t : Tree) → record_count (encode t) ≡ records t + 0
count-records t = rw length-encode (omega arith)

whole_each : (p : List ℕ → Bool) → ((n : Node) (c : ℕ) (r : List ℕ) → T (node_in_range n) → T (arity n.kind c) → T (p (record_bytes n c ++ r)))
    → (t : Tree) → T (listed t) → T (each p (record_count (encode t)) (encode t))
whole_each p h t l = rw (count-records t) (rw (← append-nil (encode t)) (each-tree p h t l 0 [] (unfold each_by in tt)))

pub whole-form : (t : Tree) → T (form_trees (record_count (encode t)) 1 (encode t))
whole-form t = rw (count-records t) (rw (← append-nil (encode t)) (subst T (sym (form-tree t 0 0 [])) (unfold form_trees_by in tt)))

pub not-refused : (t : Tree) → Accepted t → refusal (encode t) ≡ 0
unfolding refusal questions question1 question2 question3 question4 question5 question6 question7 Yes
not-refused t a =
    let e = reads-back t a.listed in
    let w : length (encode t) ≡ record_length * records t = length-encode t in
    let z : length (encode t) % record_length ≡ 0 = omega arith in
    let o : record_length ≤ length (encode t) = omega (arith, some-records t) in
    let s : length (encode t) ≤ record_length * most_records = omega (arith, a.short) in
    yes-all (questions (encode t)) (
      join-and _ _ (join-and _ _ (subst (λ x. T (eqb x 0)) (sym z) tt) (le→leb _ _ o)) (le→leb _ _ s),
      (
        whole_each record_listed record-listed t a.listed,
        (
          whole_each record_in_range record-ranged t a.listed,
          (
            whole-form t,
            (
              subst (λ u. T (leb (depth u) most_depth and leb (loops u 0) most_loops)) (sym e) (join-and _ _ (le→leb _ _ a.deep) (le→leb _ _ a.nested)),
              (
                subst (λ u. T (named u 0)) (sym e) a.named,
                (subst (λ u. T (leb (weight u 0) most_weight)) (sym e) (le→leb _ _ a.weighed), tt),
              ),
            ),
          ),
        ),
      ),
    )
