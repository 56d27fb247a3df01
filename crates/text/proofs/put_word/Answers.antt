use native.Mathlib.Omega.{arith}
use Rattle.text.specs.Laws.Texts.{written_after}
use Rattle.text.proofs.put_word.Goals as goal

pub returns-clause-out_after : goal.returns-clause-out_after
returns-clause-out_after c = let a = c.args in written_after a.out.now a.word.now _ _ _ a.at (omega arith) c.write_front.ensures
