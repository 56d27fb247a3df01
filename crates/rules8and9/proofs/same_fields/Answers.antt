-- What stands before an address is whole words, so its bytes are the same exactly where no word differs.
use mathlib.Core.Path.{◌≡◌, ◌∙◌}
use borrow.Author.Rules.{rules}
use Rattle.std.specs.Prelude.{is_none}
use Rattle.rules8and9.specs.Laws.Comparing.{whole_words, words-compared}
use Rattle.rules8and9.proofs.same_fields.Goals as goal

pub compare-differing-requires : goal.compare-differing-requires
compare-differing-requires c = whole_words _ _ _ c.requires.0 c.requires.1

pub returns : goal.returns
returns c =
    let none : c.is_none.result ≡ is_none c.compare-differing.result = search rules in
    none ∙ words-compared c.args.table.now c.args.a c.args.b _ c.compare-differing.ensures
