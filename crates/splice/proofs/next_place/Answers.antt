use Rattle.std.proofs.Common.{◌≡◌, ℕ, ◌<◌, ◌*◌, drop, of_calls, refl, subst, true, false, Some}
use Rattle.std.proofs.lemmas.Iterator.{first_from_Range}
use Rattle.table.specs.Numbers.{record_length}
use Rattle.table.specs.Table.{record_count}
use Rattle.splice.specs.Laws.Splicing.{is_place, some-found}
use Rattle.splice.specs.Splice.{NoPlace, occurs_first}
use Rattle.splice.proofs.next_place.Goals.{After-find}
use Rattle.splice.proofs.next_place.Goals as goal

-- what the library's `find` says of the records from i on
place : (c : After-find) → (r : ℕ) × (c.find.result ≡ Some r) × NoPlace c.args.symbol c.args.host.now c.args.i r × (r < record_count c.args.host.now) × (occurs_first c.args.symbol (drop (record_length * r) c.args.host.now) ≡ 1)
place c =
    let at = is_place c.args.symbol c.args.host.now in
    some-found c.args.symbol c.args.host.now c.args.i c.requires c.find.result
    (first_from_Range _ _ _ c.find.result (λ k. at k ≡ true) (λ k. at k ≡ false) c.find.ensures.ran (λ x q h. search of_calls) (λ x q h. search of_calls))

pub unwrap-requires : goal.unwrap-requires
unwrap-requires c = rw (place c).1 refl

pub returns : goal.returns
returns c =
    let here = place (goal.at.returns c).After-find in
    let same : here.0 ≡ c.unwrap.result = cc (here.1, c.unwrap.ensures) in
    subst (λ r. NoPlace c.args.symbol c.args.host.now c.args.i r × (r < record_count c.args.host.now) × (occurs_first c.args.symbol (drop (record_length * r) c.args.host.now) ≡ 1)) same (here.2, here.3, here.4)
