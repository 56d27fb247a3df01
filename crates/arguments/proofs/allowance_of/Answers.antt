use mathlib.Core.Path.{◌≡◌, sym, ◌∙◌}
use native.Mathlib.Numerals.{add-one}
use native.Mathlib.Omega.{arith}
use borrow.Author.Rules.{rules}
use lib.ListN.{get_or}
use Prim.Native.Nat.{◌+◌, ◌*◌, ◌-◌}
use Rattle.std.proofs.lemmas.Bool.{eqb-false}
use Rattle.arguments.specs.Laws.Reading.{no-digits, none_read, one-read, other-character, too_large, all_read}
use Rattle.arguments.proofs.allowance_of.Goals as goal

pub returns-then-is_empty : goal.returns-then-is_empty
returns-then-is_empty c = no-digits _ (search rules)

pub loop-c-init : goal.loop-c-init
loop-c-init c = (omega arith, none_read _ (eqb-false _ _ (sym c.if-is_empty.ensures)))

pub returns-then-not-is_ascii_digit : goal.returns-then-not-is_ascii_digit
returns-then-not-is_ascii_digit c =
    other-character _ _ _ c.loop-c-test.true c.loop-c.invariant.1 (sym c.if-not-is_ascii_digit.ensures.value)

pub returns-in_err-checked_mul : goal.returns-in_err-checked_mul
returns-in_err-checked_mul c =
    c.from_residual.ensures
    ∙ too_large _ _ _ _ c.loop-c-test.true c.loop-c.invariant.1 (sym c.if-not-is_ascii_digit.ensures.value) c.from-digit.ensures (omega (arith, c.in_err-checked_mul.ensures))

pub returns-in_err-number : goal.returns-in_err-number
returns-in_err-number c =
    c.from_residual-in_err-number.ensures
    ∙ too_large _ _ _ _ c.loop-c-test.true c.loop-c.invariant.1 (sym c.if-not-is_ascii_digit.ensures.value) c.from-digit.ensures
    (omega (arith, c.in_err-number.ensures, c.in_ok-checked_mul.ensures.1))

pub loop-c-preserved : goal.loop-c-preserved
loop-c-preserved c =
    let n = c.in_ok-number.ensures in
    let m = c.in_ok-checked_mul.ensures.1 in
    let is : c.in_ok-number.number ≡ 10 * c.loop-c.number + (get_or c.args.characters.now c.loop-c.c-index 0 - 48) = omega (arith, n.1, m, c.from-digit.ensures) in
    (omega (arith, n.0, n.1), rw (add-one, is) (one-read _ c.loop-c.number _ c.loop-c-test.true c.loop-c.invariant.1 (sym c.if-not-is_ascii_digit.ensures.value)))

pub returns : goal.returns
returns c = all_read _ _ c.loop-c.c-index (omega arith) c.loop-c.invariant.0 c.loop-c.invariant.1
