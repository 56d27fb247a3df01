use Rattle.std.proofs.Common.{refl, length-take-le}
use Rattle.writing.specs.Over.{over}
use Rattle.writing.proofs.write_front.Goals as goal

pub returns : goal.returns
unfolding over
returns g c = rw (length-take-le c.args.n c.args.from.now c.requires.0, c.copy_from_slice.ensures.after) refl
