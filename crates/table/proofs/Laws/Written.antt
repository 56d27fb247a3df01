-- What a listed tree's table holds is bytes.
use Rattle.std.specs.Prelude.{◌≡◌, refl, Bool, true, false, ◌||◌, List, [], ◌∷◌, ◌++◌, ℕ, zero, suc, ◌+◌, ◌*◌, ◌<◌, T, leb, eqb}
use Rattle.std.proofs.Common.{arith, leb→le, eqb→eq}
use Rattle.booleans.specs.Tests.{◌and◌}
use Rattle.booleans.specs.Laws.{both, is_T}
use Rattle.table.specs.Nodes.{Number, Most, Limit, Unlimited, AtMost, Kind, Block, Sequence, Choice, Loop, Node}
use Rattle.table.specs.Numbers.{most_children, most_loops, whole_run}
use Rattle.table.specs.Trees.{Tree, node, Forest, nil, ◌▸◌, size}
use Rattle.table.specs.Questions.{arity, limit_in_range, listed, listed_in}
use Rattle.table.specs.Bytes.{to_bytes, AreBytes}
use Rattle.table.specs.Table.{filler, flag, raw, most_field, most_flags, kind_byte, value_num, loop_byte, limit_num, record_bytes, encode, encodes}
use Rattle.table.proofs.Laws.Bytes.{bytes-to, bytes-append}
use Rattle.table.proofs.Laws.RoundTrip.{flag_small}

flags-byte : (v : Number) (m : Most) → flag v + 2 * most_flags m < 256
unfolding most_flags
flags-byte v (Most.Plain n) = omega (arith, flag_small v)
flags-byte v (Most.Symbol s) = omega (arith, flag_small v)
flags-byte v (Most.Triangular s) = omega (arith, flag_small v)

kind-byte : (k : Kind) → kind_byte k < 256
unfolding kind_byte
kind-byte (Block v) = omega arith
kind-byte Sequence = omega arith
kind-byte Choice = omega arith
kind-byte (Loop v) = omega arith

loop-byte : (l : Limit) → T (limit_in_range l) → loop_byte l < 256
unfolding loop_byte limit_in_range
loop-byte Unlimited h = omega arith
loop-byte (AtMost k m) h = go (leb 1 k and leb k most_loops) refl (both _ _ h).0
  where
    go : (a : Bool) → (leb 1 k and leb k most_loops) ≡ a → T (a || eqb k whole_run) → k < 256
    go true e t = omega (arith, leb→le k most_loops (both (leb 1 k) _ (is_T _ e)).1)
    go false e t = omega (arith, eqb→eq k whole_run t)

few-children : (k : Kind) (c : ℕ) → T (arity k c) → c < 256
unfolding arity
few-children (Block v) c h = omega (arith, eqb→eq c 0 h)
few-children Sequence c h = omega (arith, leb→le c most_children (both _ _ h).1)
few-children Choice c h = omega (arith, leb→le c most_children (both _ _ h).1)
few-children (Loop v) c h = omega (arith, eqb→eq c 2 h)

four_bytes : (a b c d : ℕ) → a < 256 → b < 256 → c < 256 → d < 256 → AreBytes (a ∷ b ∷ c ∷ d ∷ [])
four_bytes a b c d p q r s zero = p
four_bytes a b c d p q r s (suc zero) = q
four_bytes a b c d p q r s (suc (suc zero)) = r
four_bytes a b c d p q r s (suc (suc (suc zero))) = s
four_bytes a b c d p q r s (suc (suc (suc (suc i)))) = omega arith

record-bytes : (n : Node) (c : ℕ) → T (limit_in_range n.limit) → T (arity n.kind c) → AreBytes (record_bytes n c)
unfolding record_bytes
record-bytes n c l a =
    let v = value_num n.kind in
    let m = limit_num n.limit in
    let front : List ℕ = kind_byte n.kind ∷ (flag v + 2 * most_flags m) ∷ c ∷ loop_byte n.limit ∷ [] in
    let limited = front ++ to_bytes 4 (most_field m) in
    let valued = limited ++ to_bytes 8 (raw v) in
    let addressed = valued ++ to_bytes 4 n.address in
    bytes-append addressed filler
    (bytes-append valued (to_bytes 4 n.address)
    (bytes-append limited (to_bytes 8 (raw v))
    (bytes-append front (to_bytes 4 (most_field m)) (four_bytes _ _ _ _ (kind-byte n.kind) (flags-byte v m) (few-children n.kind c a) (loop-byte n.limit l)) (bytes-to 4 (most_field m)))
    (bytes-to 8 (raw v)))
    (bytes-to 4 n.address))
    (four_bytes _ _ _ _ (omega arith) (omega arith) (omega arith) (omega arith))

mutual
  unfolding listed encode

  pub table-bytes : (t : Tree) → T (listed t) → AreBytes (encode t)
  table-bytes (node n f) h =
      let (p, c) = both _ _ h in
      let (q, a) = both _ _ p in
      bytes-append (record_bytes n (size f)) (encodes f) (record-bytes n (size f) (both _ _ q).1 a) (forest-bytes f c)

  forest-bytes : (f : Forest) → T (listed_in f) → AreBytes (encodes f)
  forest-bytes nil h = λ i. omega arith
  forest-bytes (t ▸ f) h = let (a, b) = both _ _ h in bytes-append (encode t) (encodes f) (table-bytes t a) (forest-bytes f b)
