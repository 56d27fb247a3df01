use Rattle.std.proofs.Common.{of_calls, ◌∙◌}
use Rattle.table.specs.Table.{record_count}
use Rattle.splice.specs.Laws.Splicing.{is_place, numbers-kept, occurrences-few, places-counted}
use Rattle.splice.proofs.count_occurrences.Goals as goal

pub returns : goal.returns
returns c =
    let s = c.args.symbol in
    let b = c.args.table.now in
    let n = record_count b in
    let ran = c.count.ensures.ran in
    let counted = ran.2 ∙ numbers-kept _ _ (is_place s b) n ran.0 ran.1 (cc) c.filter.ensures.closure (λ x r q h. search of_calls) ∙ places-counted s b n 0 in
    (counted, rw counted (occurrences-few s n b))
