use mathlib.Core.Path.{refl}
use borrow.Author.Rules.{rules}
use Rattle.deskfiles.specs.Files.{file_value}
use Rattle.deskfiles.proofs.Laws.Files.{values-filled}
use Rattle.deskfiles.proofs.ValuesFile.values.Goals as goal

pub returns : goal.returns
returns c = values-filled _ (λ f. file_value f.0.now.bytes.now) (λ f p i y k. search rules) _ _ _ refl c.from_fn.ensures.items
