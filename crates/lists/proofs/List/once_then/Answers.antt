-- The first pair is stored with count 1, and the last over it or after it.
use Prim.Native.Nat.{◌-◌}
use native.Mathlib.Omega.{arith}
use borrow.Author.Rules.{rules}
use Rattle.lists.specs.Laws.Group.{some-le-one}
use Rattle.lists.proofs.Stored.{once-stored}
use Rattle.lists.proofs.List.once_then.Goals as goal

pub put_pair-requires-2 : goal.put_pair-requires-2
put_pair-requires-2 c = omega (arith, c.some_of-k.ensures, some-le-one (c.args.first - c.args.later))

pub overflow_add-self : goal.overflow_add-self
overflow_add-self c =
    omega (arith, c.some_of-k.ensures, some-le-one (c.args.first - c.args.later))

pub returns : goal.returns
returns c =
    rw (c.put_pair-2.ensures, c.put_pair.ensures) (once-stored _ _ _ _ c.requires c.some_of-k.ensures (search rules))
