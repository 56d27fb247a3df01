-- The two questions in their order, then the records.
use Rattle.std.specs.Prelude.{not}
use Rattle.std.proofs.Math.Path.{ap}
use mathlib.Core.Path.{ap, ◌∙◌}
use mathlib.Core.List.{List}
use Prim.Native.Nat.{ℕ}
use Rattle.writing.specs.Over.{over}
use Rattle.former.proofs.Laws.Converting.{made-whole, converts, too-odd, too_short}
use Rattle.former.proofs.convert.Goals as goal

pub returns-then-not-length_allowed : goal.returns-then-not-length_allowed
returns-then-not-length_allowed c = let no = too-odd _ _ _ c.length_allowed.ensures (ap not c.if-not-length_allowed.true) in
    record {
      answer = no.0;
      written = no.1;
      promise = converts _;
    }

pub returns-then-out-n : goal.returns-then-out-n
returns-then-out-n c = let no = too_short _ _ _ c.length_allowed.ensures (ap not c.if-not-length_allowed.false) c.if-out-n.true in
    record {
      answer = no.0;
      written = no.1;
      promise = converts _;
    }

pub returns : goal.returns
returns c =
    let a = c.args in
    let made = made-whole a.old.now a.out.now _ c.length_allowed.ensures (ap not c.if-not-length_allowed.false) c.if-out-n.false in
    record {
      answer = made.0;
      written = c.convert_records.ensures ∙ ap (λ (x : List ℕ). over x a.out.now) made.1;
      promise = converts _;
    }
