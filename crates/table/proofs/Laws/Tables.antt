-- A table by its tree: that it is one, how many records it has, and how long it is.
use Rattle.std.specs.Prelude.{◌≡◌, List, [], ◌++◌, ℕ, ◌*◌, ◌≤◌, length}
use Rattle.std.proofs.Common.{ap, sym, ◌∙◌, append-nil, arith}
use Rattle.table.specs.Checking.{IsTable, refusal}
use Rattle.table.specs.Numbers.{most_records, record_length}
use Rattle.table.specs.Table.{decode, encode, record_count}
use Rattle.table.specs.Questions.{Accepted}
use Rattle.table.specs.Trees.{Tree, records}
use Rattle.table.proofs.Laws.NotRefused.{not-refused, reads-back}
use Rattle.table.proofs.Laws.RoundTrip.{length-encode}

pub written-table : (t : Tree) → Accepted t → IsTable (encode t)
written-table t a = let e = reads-back t a.listed in record { accepted = rw e a; back = ap encode e }

module _ (b : List ℕ) (t : IsTable b) where
  pub accepted-table : refusal b ≡ 0
  accepted-table = ap refusal (sym t.back) ∙ not-refused (decode b) t.accepted

  pub count-is : record_count b ≡ records (decode b)
  count-is = ap record_count (sym t.back) ∙ rw length-encode (omega arith)

  pub few-records : record_count b ≤ most_records
  few-records = omega (arith, count-is, t.accepted.short)

  pub length-is : length b ≡ record_length * record_count b
  length-is = ap length (sym t.back) ∙ length-encode (decode b) ∙ ap (λ n. record_length * n) (sym count-is)

  pub whole-table : encode (decode b) ++ [] ≡ b
  whole-table = append-nil _ ∙ t.back

  pub not-long : length b ≤ record_length * most_records
  not-long = omega (arith, length-is, few-records)
