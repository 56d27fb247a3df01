-- The records stand in the front part, and the back part gets them at its front.
use mathlib.Core.Path.{◌≡◌, refl, ap, ◌∙◌}
use mathlib.Core.List.{◌++◌}
use Prim.Native.Nat.{◌*◌, ◌+◌}
use native.Mathlib.Nat.{zero-add}
use native.Mathlib.Omega.{arith}
use lib.ListN.{length-drop, take}
use Rattle.std.proofs.Math.Seq.{take-append-add}
use Rattle.std.proofs.lemmas.List.{drop-append-le, take-append-le}
use Rattle.table.specs.Numbers.{record_length}
use Rattle.writing.specs.Records.{slice}
use Rattle.writing.specs.Laws.Records.{front-add}
use Rattle.writing.proofs.repeat_records.Goals as goal

pub returns : goal.returns
returns c =
    let a = c.args in let s = c.split_at_mut-front.ensures in
    let ahead = c.split_at_mut-front.result.0.now in let behind = c.split_at_mut-front.result.1.now in let after = c.copy_records.new.out in
    let joined : take (record_length * a.at + record_length * a.n) (ahead ++ after) ≡ ahead ++ take (record_length * a.n) after =
    rw s.front_len at (take-append-add ahead after (record_length * a.n)) in
    let copied : take (record_length * a.n) after ≡ slice ahead a.i a.n = rw (c.copy_records.ensures.0, zero-add) at c.copy_records.ensures.1 in
    let there : slice a.out.now a.i a.n ≡ slice ahead a.i a.n =
    rw s.value
    (ap (take (record_length * a.n)) (drop-append-le (record_length * a.i) ahead behind (omega (arith, s.front_len)))
    ∙ take-append-le (record_length * a.n) _ behind (omega (arith, s.front_len, length-drop (record_length * a.i) ahead))) in
    (refl, front-add a.at a.n (ahead ++ after) ∙ joined ∙ rw (copied, ← there, s.front) refl)
