-- A record's bytes from its fields, and bytes copied into a buffer, one at a time.
use Rattle.std.specs.Prelude.{◌≡◌, refl, List, [], ◌∷◌, ◌++◌, ℕ, ◌+◌, ◌*◌, ◌<◌, ◌≤◌, drop, get_or, length, set, take}
use Rattle.std.proofs.Common.{ap, ap₂, sym, ◌∙◌, append_assoc, add-one, arith, get_or-take, length-take-le, take_at}
use Rattle.std.proofs.lemmas.List.Edits.{drop-paste, length-paste, take-paste}
use Rattle.std.proofs.Math.Seq.{paste, paste-suc, paste-zero}
use Rattle.table.specs.Numbers.{record_length}
use Rattle.table.specs.Bytes.{to_bytes}
use Rattle.table.specs.Table.{filler, flag, kind_byte, limit_num, loop_byte, most_field, most_flags, raw, record_bytes, value_num}
use Rattle.table.specs.declared.Node.{Node}
use Rattle.writing.specs.Records.{front}

-- ---- a record's bytes

pub record-parts : (n : Node) (c : ℕ) {b f g k v m : ℕ} → b ≡ kind_byte n.kind → f ≡ flag (value_num n.kind) → g ≡ most_flags (limit_num n.limit) → k ≡ loop_byte n.limit
    → v ≡ raw (value_num n.kind) → m ≡ most_field (limit_num n.limit) → (b ∷ (f + 2 * g) ∷ c ∷ k ∷ []) ++ to_bytes 4 m ++ to_bytes 8 v ++ to_bytes 4 n.address ++ filler ≡ record_bytes n c
unfolding record_bytes
record-parts n c eb ef eg ek ev em = rw (eb, ef, eg, ek, ev, em) refl

-- ---- bytes copied

-- the first k bytes of s stand in d from byte `over` on, and no other byte of d is changed
pub record Copied (s d : List ℕ) (over : ℕ) (out : List ℕ) (k : ℕ) : Type 0 where
  pub from : k ≤ length s
  pub room : over + k ≤ length d
  pub long : length out ≡ length d
  pub is : out ≡ paste d over s k

pub copy-none : (s d : List ℕ) (over : ℕ) → over ≤ length d → Copied s d over d 0
copy-none s d over l = record { from = omega arith; room = omega arith; long = refl; is = paste-zero d over s }

pub copy-next : (s d : List ℕ) (over : ℕ) (out : List ℕ) (k x : ℕ) → x ≡ get_or s k 0 → k < length s → over + k < length d → Copied s d over out k
    → Copied s d over (set out (over + k) x) (k + 1)
copy-next s d over out k x e l m c =
    let z : set out (over + k) x ≡ paste d over s (k + 1) =
    rw add-one (ap₂ (λ (o : List ℕ) (y : ℕ). set o (over + k) y) c.is e ∙ paste-suc d over s k 0 m l) in
    record {
      from = omega arith;
      room = omega arith;
      long = ap length z ∙ length-paste d over s (k + 1) (omega arith) (omega arith);
      is = z;
    }

-- a byte before them stands as it did
pub copy-before : (s d : List ℕ) (over : ℕ) (out : List ℕ) (k j : ℕ) → j < over → over ≤ length d → Copied s d over out k → get_or out j 0 ≡ get_or d j 0
copy-before s d over out k j l m c =
    let same : take over out ≡ take over d = rw (c.is, append_assoc) (take_at (take over d) _ over (length-take-le over d m)) in
    sym (get_or-take over out j 0 l) ∙ ap (λ (x : List ℕ). get_or x j 0) same ∙ get_or-take over d j 0 l

-- bytes copied: what stands before their end, and behind it
pub copied-parts : (s d : List ℕ) (at : ℕ) (out : List ℕ) (n k : ℕ) → k ≡ n → Copied s d at out k
    → (take (at + n) out ≡ take at d ++ take n s) × (drop (at + n) out ≡ drop (at + n) d)
copied-parts s d at out n k e c =
    let room : at ≤ length d = omega (arith, c.room) in
    let from : n ≤ length s = omega (arith, c.from) in
    (rw (c.is, e) (take-paste d at s n room from), rw (c.is, e) (drop-paste d at s n room from))

-- records copied
pub front-add : (at n : ℕ) (b : List ℕ) → front (at + n) b ≡ take (record_length * at + record_length * n) b
front-add at n b = let m : record_length * (at + n) ≡ record_length * at + record_length * n = omega arith in ap (λ k. take k b) m

pub copied-records : (s d : List ℕ) (at : ℕ) (out : List ℕ) (n k : ℕ) → k ≡ record_length * n → Copied s d (record_length * at) out k
    → front (at + n) out ≡ front at d ++ take (record_length * n) s
copied-records s d at out n k e c = front-add at n out ∙ (copied-parts s d (record_length * at) out (record_length * n) k e c).0
