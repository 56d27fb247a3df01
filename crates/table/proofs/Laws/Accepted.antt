-- A table that checking does not refuse is the table of an accepted tree.
use Rattle.std.specs.Prelude.{◌≡◌, ◌||◌, ◌&&◌, Bool, List, ℕ, zero, suc, ◌<◌, ◌/◌, ◌%◌, ◌+◌, ◌*◌, T, leb, eqb, get_or, drop, length}
use Rattle.std.proofs.Common.{subst, sym, ap, ◌∙◌, arith, le→leb, eqb→eq, leb→le, lt→ltb, ne_eqb}
use Rattle.std.proofs.Math.Bool.{false, true}
use Rattle.booleans.specs.Tests.{◌and◌}
use Rattle.booleans.specs.Laws.{join-and, &&-both, or-false, both}
use Rattle.table.specs.Numbers.{how_many_addresses, record_length, most_records, most_children, whole_run, most_loops}
use Rattle.table.specs.Trees.{Forest, nil, ◌▸◌, size, records}
use Rattle.table.specs.Questions.{arity, is_address, limit_in_range, listed, listed_in, node_in_range}
use Rattle.table.specs.Bytes.{AreBytes}
use Rattle.table.specs.Table.{after_ones, child_byte, decode, each, each_by, field, first_node, first_ones, forest, forest_by, form_trees, form_trees_by, kind_from, limit_from, most_from, num_from, record_count, top}
use Rattle.table.specs.Checking.{IsTable, kind_listed, limit_listed, limit_count, record_listed, record_in_range, question1, question2, question3, question4, question5, question6, question7, questions, refusal}
use Rattle.table.proofs.Laws.RoundTrip.{size-first, size-after, length-encode}
use Rattle.table.proofs.Laws.Canonical.{bytes_drop, encode-decode, listed-parts}
use Rattle.table.proofs.Laws.Reading.{field-4}
use Rattle.table.proofs.Laws.Asking.{Yes, all_yes, numbered}

kind-arity : (k c s v : ℕ) → c < 256 → T (kind_listed k c s v) → T (arity (kind_from k (num_from s v)) c)
unfolding arity kind_from
kind-arity zero c s v l t = or-false (eqb c 0) (or-false (eqb c 0 || false) t)
kind-arity (suc zero) c s v l t = let q = &&-both (leb 1 c && eqb s 0) _ t in join-and _ _ (&&-both (leb 1 c) _ q.0).0 (le→leb c most_children (omega arith))
kind-arity (suc (suc zero)) c s v l t = let q = &&-both (leb 1 c && eqb s 0) _ t in join-and _ _ (&&-both (leb 1 c) _ q.0).0 (le→leb c most_children (omega arith))
kind-arity (suc (suc (suc zero))) c s v l t = or-false (eqb c 2) t
kind-arity (suc (suc (suc (suc k)))) c s v l t =
    absurd (simp (ne_eqb (suc (suc (suc (suc k)))) 0 (omega arith), ne_eqb (suc (suc (suc (suc k)))) 1 (omega arith), ne_eqb (suc (suc (suc (suc k)))) 2 (omega arith), ne_eqb (suc (suc (suc (suc k)))) 3 (omega arith)) at t)

limit-ranged : (k s m : ℕ) → T (limit_listed k s m) → T (limit_count (limit_from k (most_from s m))) → T (limit_in_range (limit_from k (most_from s m)))
unfolding limit_count limit_in_range limit_from
limit-ranged zero s m t c = tt
limit-ranged (suc k) s m t c = join-and _ _ (go (leb 1 (suc k)) (leb (suc k) most_loops) (eqb (suc k) whole_run) (eqb (suc k) 0) (ne_eqb (suc k) 0 (omega arith)) t) c
  where
    go : (a b d e : Bool) → e ≡ false → T ((a && b) || d || (e && eqb s 0 && eqb m 0)) → T ((a and b) || d)
    go a b d true q t = absurd (subst T q tt)
    go true true d false q t = unfold ◌and◌ in tt
    go true false d false q t = unfold ◌and◌ in or-false d t
    go false b d false q t = unfold ◌and◌ in or-false d t

address-ok : (b : List ℕ) → AreBytes b → T (is_address (first_node b).address)
unfolding is_address first_node
address-ok b h = lt→ltb (field b 16 4) how_many_addresses (omega (arith, field-4 b 16, h 16, h 17, h 18, h 19))

-- a record that passes questions 2 and 3
record-ok : (b : List ℕ) → AreBytes b → T (record_listed b) → T (record_in_range b) → T (node_in_range (first_node b)) × T (arity (first_node b).kind (child_byte b))
unfolding record_in_range child_byte
record-ok b h t r =
    let p = listed-parts b t in
    let (x, y) = both _ _ r in (
      join-and _ _ (join-and _ _ (address-ok b h) x) (unfold first_node in limit-ranged (get_or b 3 0) (get_or b 1 0 / 2) (field b 4 4) p.limit (unfold first_node in y)),
      unfold first_node in kind-arity (get_or b 0 0) (get_or b 2 0) (get_or b 1 0 % 2) (field b 8 8) (h 2) p.kind,
    )

first-listed : (n : ℕ) (f : Forest) → T (listed_in f) → T (listed_in (first_ones n f))
unfolding listed first_ones
first-listed zero f h = tt
first-listed (suc n) nil h = tt
first-listed (suc n) (t ▸ f) h = let (a, b) = both _ _ h in join-and _ _ a (first-listed n f b)

after-listed : (n : ℕ) (f : Forest) → T (listed_in f) → T (listed_in (after_ones n f))
unfolding listed after_ones
after-listed zero f h = h
after-listed (suc n) nil h = tt
after-listed (suc n) (t ▸ f) h = after-listed n f (both _ _ h).1

pub forest-listed : (n k : ℕ) (b : List ℕ) → AreBytes b → T (each record_listed n b) → T (each record_in_range n b) → T (form_trees n k b) → T (listed_in (forest n b)) × (size (forest n b) ≡ k)
unfolding listed forest_by each_by form_trees_by size
forest-listed zero k b h l r t = (tt, sym (eqb→eq k 0 t))
forest-listed (suc n) zero b h l r t = absurd t
forest-listed (suc n) (suc k) b h l r t =
    let p = both _ _ l in
    let q = both _ _ r in
    let ih = forest-listed n (k + child_byte b) (drop record_length b) (bytes_drop b record_length h) p.1 q.1 t in
    let f = forest n (drop record_length b) in
    let s : size (first_ones (child_byte b) f) ≡ child_byte b = size-first (child_byte b) f (omega arith) in
    let (x, z) = record-ok b h p.0 q.0 in (
      join-and _ _ (join-and _ _ (join-and _ _ x (rw s z)) (first-listed (child_byte b) f ih.0)) (after-listed (child_byte b) f ih.0),
      omega (arith, size-after (child_byte b) f),
    )

top-listed : (f : Forest) → size f ≡ 1 → T (listed_in f) → T (listed (top f))
unfolding listed top size
top-listed nil e h = absurd (omega arith)
top-listed (t ▸ f) e h = (both _ _ h).0

pub decode-listed : (b : List ℕ) → size (forest (record_count b) b) ≡ 1 → T (listed_in (forest (record_count b) b)) → T (listed (decode b))
unfolding decode
decode-listed b e h = top-listed _ e h

pub is-table : (b : List ℕ) → AreBytes b → refusal b ≡ 0 → IsTable b
unfolding refusal questions question1 question2 question3 question4 question5 question6 question7 numbered Yes
is-table b h e =
    let y = all_yes (questions b) tt e in
    let l = both _ _ y.0 in
    let m = both _ _ l.0 in
    let d = both _ _ y.1.1.1.1.0 in
    let w = eqb→eq (length b % record_length) 0 m.0 in
    let k = encode-decode b h w y.1.0 y.1.1.1.0 in
    let f = forest-listed (record_count b) 1 b h y.1.0 y.1.1.0 y.1.1.1.0 in
    let g : record_length * records (decode b) ≡ length b = sym (length-encode (decode b)) ∙ ap length k in
    record {
      accepted = record {
        short = omega (arith, leb→le (length b) (record_length * most_records) l.1);
        listed = decode-listed b f.1 f.0;
        deep = leb→le _ _ d.0;
        nested = leb→le _ _ d.1;
        named = y.1.1.1.1.1.0;
        weighed = leb→le _ _ y.1.1.1.1.1.1.0;
      };
      back = k;
    }
