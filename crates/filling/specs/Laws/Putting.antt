-- Records put one after the other, as the program does it.
use Rattle.std.specs.Prelude.{◌≡◌, List, ◌++◌, drop, length}
use Rattle.std.proofs.Math.Path.{refl, ap, sym}
use Rattle.std.proofs.Common.{ap₂, ◌∙◌, append_assoc, append-nil}
use Prim.Native.Nat.{ℕ, zero, suc, ◌+◌, ◌*◌, ◌-◌, ◌<◌, ◌≤◌}
use Rattle.std.proofs.Math.Nat.{sub-zero}
use native.Mathlib.Omega.{arith}
use Rattle.table.specs.Numbers.{record_length}
use Rattle.table.specs.Table.{child_byte, first_node, record_bytes, record_count}
use Rattle.table.proofs.Laws.Reading.{next-count, next-part, none_left}
use Rattle.writing.specs.Records.{Appended, front}
use Rattle.filling.specs.Nodes.{Most, Node, Number}
use Rattle.filling.specs.Fill.{on_node, put}
use Rattle.filling.specs.Records.{on_record, on_records, put_record}

-- ---- a field, and a record

pub put-none : {A : Type 0} (mark : ℕ) (new old : A) → mark ≡ 0 → old ≡ put mark new old
unfolding put
put-none mark new old e = rw e refl

pub put-new : {A : Type 0} (mark : ℕ) (new old : A) → (mark ≡ 0 → ⊥) → new ≡ put mark new old
unfolding put
put-new zero new old z = absurd (z refl)
put-new (suc mark) new old z = refl

pub put-told : (g : Number → Number) (h : Most → Most) (b : List ℕ) (n k : Node) (c i z : ℕ) (out new : List ℕ) → c ≡ child_byte b → n ≡ first_node b → k ≡ on_node g h n
    → Appended i out 1 (record_bytes k c) z new → Appended i out 1 (on_record g h b) z new
put-told g h b n k c i z out new e f p (x, y) = (x, y ∙ ap₂ (λ (m : Node) (d : ℕ). front i out ++ record_bytes m d) (p ∙ ap (on_node g h) f) e)

-- by the digit as it was read
pub digit-put : (v : Number) (m : Most) (digit : ℕ → ℕ) (i d z : ℕ) (b out new : List ℕ) → d ≡ digit i
    → Appended i out 1 (put_record v m d b) z new → Appended i out 1 (put_record v m (digit i) b) z new
digit-put v m digit i d z b out new e (x, y) = (x, y ∙ ap (λ k. front i out ++ put_record v m k b) e)

-- ---- all records

pub record Put (g : ℕ → Number → Number) (h : ℕ → Most → Most) (b out₀ : List ℕ) (i : ℕ) (out : List ℕ) : Type 0 where
  pub within : i ≤ record_count b
  pub bytes : front i out ++ on_records g h (record_count b - i) i (drop (record_length * i) b) ≡ on_records g h (record_count b) 0 b
  pub kept : length out ≡ length out₀

module _ (g : ℕ → Number → Number) (h : ℕ → Most → Most) (b out₀ : List ℕ) where
  pub none-put : Put g h b out₀ 0 out₀
  none-put = record { within = omega arith; bytes = rw sub-zero refl; kept = refl }

  records-one : (n i : ℕ) → i < n
      → on_records g h (n - i) i (drop (record_length * i) b) ≡ on_record (g i) (h i) (drop (record_length * i) b) ++ on_records g h (n - (i + 1)) (i + 1) (drop (record_length * (i + 1)) b)
  unfolding on_records
  records-one n i l = let k : i + 1 ≡ suc i = omega arith in rw (next-count n i l, ← next-part, k) refl

  module _ (i : ℕ) (out : List ℕ) (p : Put g h b out₀ i out) where
    pub one-put : (z : ℕ) (new : List ℕ) → i < record_count b → length new ≡ length out → Appended i out 1 (on_record (g i) (h i) (drop (record_length * i) b)) z new → Put g h b out₀ z new
    one-put z new l k (x, y) = record {
      within = omega arith;
      bytes = rw (y, append_assoc) (rw x (ap (λ (r : List ℕ). front i out ++ r) (sym (records-one (record_count b) i l)) ∙ p.bytes));
      kept = k ∙ p.kept;
    }

    pub all-put : record_count b ≤ i → front (record_count b) out ≡ on_records g h (record_count b) 0 b
    all-put l = last p.bytes
      where
        there : i ≡ record_count b
        there = omega (arith, p.within)

        last : front i out ++ on_records g h (record_count b - i) i (drop (record_length * i) b) ≡ on_records g h (record_count b) 0 b → front (record_count b) out ≡ on_records g h (record_count b) 0 b
        last q = unfold on_records in ap (λ n. front n out) (sym there) ∙ sym (append-nil (front i out)) ∙ (rw (none_left (record_count b) i l) at q)
