use Rattle.std.proofs.Common.{rules, subst, sym}
use Rattle.std.proofs.KnownBytes.{Consumes-trans}
use Rattle.std.specs.Io.KnownBytes.{Consumes}
use Rattle.files.proofs.Reading.{front-grows}
use Rattle.files.proofs.read_whole.Goals as goal

pub loop-done-preserved : goal.loop-done-preserved
loop-done-preserved g c =
    let read = c.in_ok-more.ensures in
    let before = c.loop-done.invariant in
    let more = Consumes-trans _ _ _ _ _ before.2 read.bytes.0 in
    (search rules, search rules, subst (Consumes _ _) (sym (front-grows _ _ _ _ _ before.0 read.bound.0)) more)
