-- What a step makes of addresses, an example for each rule (document 02, CR 6): a block that a rule makes has address 0, and what stays keeps its own.
-- And what rule 8 leaves alone for a paired symbol (CR 7).
use Rattle.std.specs.Prelude.{◌≡◌, refl, ℕ}
use Rattle.std.proofs.Math.Option.{some, none}
use Rattle.booleans.specs.Tests.{◌and◌}
use Rattle.table.specs.Table.{most_flags}
use Rattle.table.specs.Questions.{paired, paired_block}
use Rattle.table.specs.Trees.{Tree, nil, ◌▸◌, ◌⧺◌, size, rest}
use Rattle.table.specs.Notation.{◌addressed◌, ◌/◌at◌, block, both, choice, either, loop, sequence, symbol}
use Rattle.lists.specs.Streams.{S, const, add, cap, group, shift, merge, next, taken}
use Rattle.evaluate.specs.Evaluate.{allowed, amount, later, once_then, inner, outward, seen, name, limit, rounds, turns, join, start, list, figure}
use Rattle.evaluate.specs.Closed.{stays, closed, is_plain, plain_kind, plain_most, plain_limit, symbol_free, is_unlimited}
use Rattle.simplify.specs.Same.{same_number, same_most, same_limit, same_kind, same}
use Rattle.simplify.specs.Rules.{is_block, is_sum, limit_of, address_of, children, relimit, leaf, bare, time_of_kind, time_of, when, rule1, gives, any_gives, give_way, rule2, alone, rule3, rule4, is_zero, any_zero, without, rule5, bares, others, total, largest, rule6, at_first, rule7, is_pair, head_of, tail_of, first_of, second_of, all_pairs, firsts, shares, shared_out, rule8, exit, rule9}
use Rattle.simplify.specs.Steps.{or_else, also, rule, inside, step, is_none, onward, steps}

-- to unfold this is to unfold all that steps compute with
unfoldable pub computed_steps : ℕ
unfolding block symbol ◌/◌at◌ ◌addressed◌ sequence both either loop ◌and◌ ◌⧺◌ size rest most_flags S const add cap group shift merge next taken paired paired_block allowed amount later once_then inner outward seen name limit rounds turns join start list figure stays closed is_plain plain_kind plain_most plain_limit symbol_free is_unlimited same_number same_most same_limit same_kind same is_block is_sum limit_of address_of children relimit leaf bare time_of_kind time_of when rule1 gives any_gives give_way rule2 alone rule3 rule4 is_zero any_zero without rule5 bares others total largest rule6 at_first rule7 is_pair head_of tail_of first_of second_of all_pairs firsts shares shared_out rule8 exit rule9 or_else also rule inside step is_none onward steps
computed_steps = 0

-- a time symbol at an address
abbrev time : (s a : ℕ) → Tree
time s a = symbol s addressed a

-- a second child of rule 8, with these addresses: loop 3 of a symbol, exit 2
abbrev shared : (a b c : ℕ) → Tree
shared a b c = loop 3 (time 16 b) (block 2 addressed c) addressed a

record Examples : Type 0 where
  -- 1 passes a lone unlimited plain block by, whatever its address, and makes address 0 of any other table's
  lone : step (block 7 addressed 5) ≡ none
  limited : step (block 7 / 1 at 255 addressed 5) ≡ some (block 7)
  whole : step (both (block 5 addressed 1) (block 4 addressed 2) addressed 3) ≡ some (block 9)
  -- 2: the address of the child that gives way goes
  given-way : step (both (both (time 16 1) (time 17 2) addressed 3) (time 18 4) addressed 5) ≡ some (sequence (time 16 1 ▸ time 17 2 ▸ time 18 4 ▸ nil) addressed 5)
  -- 3: the child keeps its own, also where the limit moves to it
  alone-unlimited : step (sequence (time 16 1 ▸ nil) addressed 2) ≡ some (time 16 1)
  alone-limited : step (sequence (time 16 1 ▸ nil) / 3 at 255 addressed 2) ≡ some (time 16 1 / 3 at 255)
  -- 4
  symbol-free : step (both (loop 3 (block 5 addressed 1) (block 4 addressed 2) / 6 at 255 addressed 3) (time 16 4) addressed 5) ≡ some (both (block 19 / 6 at 255) (time 16 4) addressed 5)
  -- 5
  zero : step (sequence (block 0 addressed 1 ▸ time 16 2 ▸ time 17 3 ▸ nil) addressed 4) ≡ some (both (time 16 2) (time 17 3) addressed 4)
  -- 6
  summed : step (sequence (block 5 addressed 1 ▸ time 16 2 ▸ block 4 addressed 3 ▸ nil) addressed 4) ≡ some (both (block 9) (time 16 2) addressed 4)
  -- 7
  largest-one : step (choice (time 16 1 ▸ block 5 addressed 2 ▸ block 9 addressed 3 ▸ nil) addressed 4) ≡ some (either (time 16 1) (block 9) addressed 4)
  -- 8: second children that agree but for their addresses, of which the first one's stay; the sequence takes the choice's, and the new choice has 0
  shared-out : step (either (both (time 17 1) (shared 2 3 4) addressed 5) (both (time 18 6) (shared 7 8 9) addressed 10) / 6 at 255 addressed 11)
      ≡ some (both (either (time 17 1) (time 18 6)) (shared 2 3 4) / 6 at 255 addressed 11)
  shared-out-unlimited : step (either (both (time 17 1) (time 16 2)) (both (time 18 3) (time 16 4)) addressed 5) ≡ some (both (either (time 17 1) (time 18 3)) (time 16 2) addressed 5)
  -- but not a second child with a paired symbol, whose first pass in the run is dearer, whether it is the child itself or below it
  paired-stays : step (either (both (block 5) (symbol 24)) (both (block 4) (symbol 24))) ≡ none
  paired-below-stays : step (either (both (block 5) (loop 2 (symbol 31) (block 0))) (both (block 4) (loop 2 (symbol 31) (block 0)))) ≡ none
  single-shared-out : step (either (both (block 5) (symbol 23)) (both (block 4) (symbol 23))) ≡ some (both (either (block 5) (block 4)) (symbol 23))
  -- 9
  never-passed : step (loop 0 (time 17 1) (time 16 2) addressed 3) ≡ some (time 16 2)

examples-hold : Examples
unfolding computed_steps
examples-hold = record {
  lone = refl;
  limited = refl;
  whole = refl;
  given-way = refl;
  alone-unlimited = refl;
  alone-limited = refl;
  symbol-free = refl;
  zero = refl;
  summed = refl;
  largest-one = refl;
  shared-out = refl;
  shared-out-unlimited = refl;
  paired-stays = refl;
  paired-below-stays = refl;
  single-shared-out = refl;
  never-passed = refl;
}
