use Rattle.std.proofs.Common.{◌∙◌, arith, ap, sym, zero-add, ◌<◌, of_calls}
use Rattle.std.proofs.lemmas.Grind.{same_number_lists}
use Rattle.marking.specs.Marks.{mark_byte, mark_digit, mark_length, marks_of}
use Rattle.marking.specs.Laws.Digits.{marks-at, marks-length}
use Rattle.marking.specs.Laws.Turns.{made}
use Rattle.marking.proofs.marks_of.Goals as goal

pub returns : goal.returns
unfolding marks_of
returns c =
    let d = mark_digit c.args.symbol c.args.table.now in
    let items = c.from_fn.ensures.items in
    same_number_lists c.from_fn.result _ (items.long ∙ sym (marks-length d mark_length 0)) (λ k l.
    let m : k < mark_length = omega (arith, items.long) in
    made _ _ (mark_byte d) c.from_fn.result mark_length (λ x r q h. search of_calls) items k m ∙ ap (mark_byte d) (sym (zero-add k)) ∙ sym (marks-at d mark_length 0 k m))
