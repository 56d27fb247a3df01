-- A former record, and the record of 24 bytes that is made of it: what is read of the one is read of the other.
use Rattle.std.specs.Prelude.{◌≡◌, Bool, ◌&&◌, true, false, List, ◌++◌, ℕ, ◌+◌, ◌<◌, ◌≤◌, drop, get_or, length, take}
use Rattle.std.proofs.Math.Path.{refl}
use Rattle.std.proofs.Common.{ap, ap₂, sym, ◌∙◌, append_assoc, arith, length-append, drop_at, get_or-drop, get_or-take, length-take-le, take-add, take_at, take-take}
use Rattle.std.proofs.Math.Seq.{drop-append_seam}
use Rattle.table.specs.Bytes.{from_bytes}
use Rattle.table.specs.Checking.{fields_listed, fill_listed, record_in_range, record_listed}
use Rattle.table.specs.Numbers.{record_length}
use Rattle.table.specs.Table.{child_byte, first_node, no_address}
use Rattle.former.specs.Former.{former_length, former_node}
use Rattle.former.specs.Converted.{new_record}

pub record-long : (b : List ℕ) → former_length ≤ length b → length (new_record b) ≡ record_length
record-long b l = length-append (take former_length b) no_address ∙ ap (λ k. k + 8) (length-take-le former_length b l)

module _ (b r : List ℕ) (l : former_length ≤ length b) where
  abbrev new : List ℕ
  new = new_record b ++ r

  front : take former_length new ≡ take former_length b
  front = ap (take former_length) (append_assoc (take former_length b) no_address r) ∙ take_at (take former_length b) (no_address ++ r) former_length (length-take-le former_length b l)

  behind : drop former_length new ≡ no_address ++ r
  behind = ap (drop former_length) (append_assoc (take former_length b) no_address r) ∙ drop_at (take former_length b) (no_address ++ r) former_length (length-take-le former_length b l)

  pub next : drop record_length new ≡ r
  next = drop_at (new_record b) r record_length (record-long b l)

  -- each byte and each field before the address
  byte : (i : ℕ) → i < former_length → get_or new i 0 ≡ get_or b i 0
  byte i h = sym (get_or-take former_length new i 0 h) ∙ ap (λ x. get_or x i 0) front ∙ get_or-take former_length b i 0 h

  upto : (m : ℕ) → m ≤ former_length → take m new ≡ take m b
  upto m h = sym (take-take m former_length new h) ∙ ap (take m) front ∙ take-take m former_length b h

  part : (i n : ℕ) → i + n ≤ former_length → take n (drop i new) ≡ take n (drop i b)
  part i n h =
      let x = take i new in
      let y = take i b in
      let s : x ++ take n (drop i new) ≡ y ++ take n (drop i b) = sym (take-add i n new) ∙ upto (i + n) h ∙ take-add i n b in
      sym (drop-append_seam x _) ∙ ap₂ (λ p q. drop (length p) q) (upto i (omega (arith, h))) s ∙ drop-append_seam y _

  -- the address, and what stands behind it
  last : (i : ℕ) → get_or new (former_length + i) 0 ≡ get_or (no_address ++ r) i 0
  last i = sym (get_or-drop former_length new i 0) ∙ ap (λ x. get_or x i 0) behind

  pub same-node : first_node new ≡ former_node b
  unfolding first_node former_node from_bytes
  same-node = rw (byte 0 (omega arith), byte 1 (omega arith), byte 3 (omega arith), part 8 8 (omega arith), part 4 4 (omega arith), behind) refl

  pub same-children : child_byte new ≡ child_byte b
  unfolding child_byte
  same-children = byte 2 (omega arith)

  same-fields : fields_listed new ≡ fields_listed b
  same-fields = rw (byte 0 (omega arith), byte 1 (omega arith), byte 2 (omega arith), byte 3 (omega arith), part 8 8 (omega arith), part 4 4 (omega arith)) refl

  same-fill : fill_listed (get_or new 20 0) (get_or new 21 0) (get_or new 22 0) (get_or new 23 0) ≡ true
  same-fill = rw (last 4, last 5, last 6, last 7) refl

  pub same-listed : record_listed new ≡ fields_listed b
  same-listed = ap₂ ◌&&◌ same-fields same-fill ∙ always (fields_listed b)
    where
      always : (x : Bool) → (x && true) ≡ x
      always true = refl
      always false = refl

  pub same-range : record_in_range new ≡ record_in_range b
  unfolding record_in_range former_node
  same-range = rw same-node refl
