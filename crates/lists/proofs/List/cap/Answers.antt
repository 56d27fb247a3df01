use mathlib.Core.Path.{◌≡◌, refl}
use Prim.Native.Nat.{◌-◌, ◌≤◌}
use native.Mathlib.Omega.{arith}
use Rattle.lists.specs.Reading.{count_at}
use Rattle.lists.proofs.Caps.{cap-last, cap-start, cap-turn, passes-last, passes-not}
use Rattle.lists.proofs.Suffix.{inner-count, last-count}
use Rattle.lists.proofs.List.cap.Goals as goal

pub loop-k-init : goal.loop-k-init
loop-k-init c = (refl, cap-start c.requires refl)

pub returns-then-left-c : goal.returns-then-left-c
returns-then-left-c c =
    let (same, i) = c.loop-k.invariant in
    let reached : c.loop-k.left ≤ count_at c.args.self.now.pairs c.loop-k.k = rw (← same, ← c.count_at-c.ensures) c.if-left-c.true in
    rw (c.end_at.ensures, same) (cap-last i (passes-not _ _ reached))

pub loop-k-preserved : goal.loop-k-preserved
loop-k-preserved c =
    let (same, i) = c.loop-k.invariant in
    let some = inner-count c.args.self.now c.requires.list c.loop-k.k (omega (arith, c.loop-k-test.true)) in
    (same, rw (c.count_at-c.ensures, same) (cap-turn i some (rw (c.count_at-c.ensures, same) at c.if-left-c.false) refl))

pub returns : goal.returns
returns c =
    let (same, i) = c.loop-k.invariant in
    let last : c.args.self.now.len - 1 ≡ c.loop-k.k = omega (arith, c.loop-k.auto.k-end, c.loop-k-test.false) in
    rw (c.end_at-2.ensures, same, last) (cap-last i (passes-last _ _ (last-count c.args.self.now c.requires.list _ last)))
