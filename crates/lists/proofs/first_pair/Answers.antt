-- `first_pair` is `head_of` of the two pairs, by its two tests.
use mathlib.Core.Path.{◌∙◌, ◌≡◌}
use Rattle.lists.specs.Reading.{count_at, head_of, value_at}
use Rattle.lists.proofs.Merges.{head-both, head-left, head-right}
use Rattle.lists.proofs.first_pair.Goals.{After-count_at-d}
use Rattle.lists.proofs.first_pair.Goals as goal

-- by what was read
read : (c : After-count_at-d) → let s = c in
    head_of c.value_at-v.result c.count_at-c.result c.value_at-w.result c.count_at-d.result
    ≡ head_of (value_at s.args.a.now.pairs s.args.i) (count_at s.args.a.now.pairs s.args.i) (value_at s.args.b.now.pairs s.args.j) (count_at s.args.b.now.pairs s.args.j)
read c = rw (c.value_at-v.ensures, c.count_at-c.ensures, c.value_at-w.ensures, c.count_at-d.ensures)

pub returns-then-w-v : goal.returns-then-w-v
returns-then-w-v c = head-left _ _ _ _ c.if-w-v.true ∙ read (goal.at.returns-then-w-v c).After-count_at-d

pub returns-then-v-w : goal.returns-then-v-w
returns-then-v-w c = head-right _ _ _ _ c.if-w-v.false c.if-v-w.true ∙ read (goal.at.returns-then-v-w c).After-count_at-d

pub returns : goal.returns
returns c = head-both _ _ _ _ c.if-w-v.false c.if-v-w.false c.joined_of.ensures ∙ read (goal.at.returns c).After-count_at-d
