-- `lasts` is 1 where neither the value nor what is left is 0.
use mathlib.Core.Path.{◌∙◌, sym}
use native.Mathlib.Omega.{arith}
use borrow.Author.Rules.{rules}
use Rattle.lists.specs.Laws.Group.{some-le-one}
use Rattle.lists.proofs.Caps.{lasts-none, lasts-some}
use Rattle.lists.proofs.lasts.Goals as goal

pub returns-then-v-eq0 : goal.returns-then-v-eq0
returns-then-v-eq0 c = (sym (lasts-none _ _ c.if-v-eq0.true), search rules)

pub returns : goal.returns
returns c =
    (c.some_of.ensures ∙ sym (lasts-some c.args.v c.args.left c.if-v-eq0.false), omega (arith, some-le-one c.args.left))
