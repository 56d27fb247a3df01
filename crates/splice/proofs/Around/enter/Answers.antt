use Rattle.std.proofs.Common.{◌<◌, length, refl, rules}
use Rattle.splice.specs.Laws.Renaming.{enter-full, enter-inside}
use Rattle.splice.proofs.Around.enter.Goals as goal

pub returns-then-inside-le-MOST_LOOPS : goal.returns-then-inside-le-MOST_LOOPS
returns-then-inside-le-MOST_LOOPS c =
    let inside = c.loops_inside-inside.ensures in
    let room : c.args.self.now.outer < length c.args.self.now.ends = search rules in
    (rw inside (enter-inside c.args.self.now.ends c.args.self.now.wanted c.args.self.now.outer room _ (rw inside at c.if-inside-le-MOST_LOOPS.true)), refl)

pub returns-else-inside-le-MOST_LOOPS : goal.returns-else-inside-le-MOST_LOOPS
returns-else-inside-le-MOST_LOOPS c =
    let inside = c.loops_inside-inside.ensures in
    let room : c.args.self.now.outer < length c.args.self.now.ends = search rules in
    (enter-full c.args.self.now.ends c.args.self.now.wanted c.args.self.now.outer room _ (rw inside at c.if-inside-le-MOST_LOOPS.false), refl)
