-- An example of a former table with a symbol that is paired now: it did not weigh, and weighs in the table that is made of it.
use Rattle.std.specs.Prelude.{◌≡◌, refl, List, [], ◌∷◌, ◌++◌, ℕ, zero, suc, replicate}
use Rattle.booleans.specs.Tests.{◌and◌}
use Rattle.table.specs.Asking.{first_no}
use Rattle.table.specs.Bytes.{from_bytes}
use Rattle.table.specs.Checking.{limit_count, question1, question2, question3, question4, question5, question6, question7, questions, record_in_range, refusal}
use Rattle.table.specs.Questions.{arity, count_in_range, depth, kind_in_range, loops, most_in_range, name_ok, named, paired, paired_block, paired_share, share, time_in_range, weight}
use Rattle.table.specs.Table.{after_ones, child_byte, decode, each_by, first_node, first_ones, forest_by, form_trees_by, kind_from, limit_from, most_from, num_from, top}
use Rattle.table.specs.Trees.{around, rest, size}
use Rattle.former.specs.Former.{former_node, former_question1, former_questions, former_refusal, former_tree, former_weight}
use Rattle.former.specs.Converted.{converted, new_table}

-- the records of so many loops of bound 1, each the body of the one before
loop_records : ℕ → List ℕ
loop_records zero = []
loop_records (suc n) = (3 ∷ 0 ∷ 2 ∷ 0 ∷ replicate 4 0 ++ (1 ∷ replicate 7 0)) ++ loop_records n

-- symbol 24 in eight loops, whose exits are blocks of 0
in_eight : List ℕ
in_eight = loop_records 8 ++ (0 ∷ 1 ∷ 0 ∷ 0 ∷ replicate 4 0 ++ (24 ∷ replicate 7 0)) ++ replicate 128 0

record Examples : Type 0 where
  was : former_refusal in_eight ≡ 0
  is : refusal (new_table in_eight) ≡ 7

examples-hold : Examples
unfolding loop_records in_eight ◌and◌ first_no from_bytes limit_count question1 question2 question3 question4 question5 question6 question7 questions record_in_range refusal arity count_in_range depth kind_in_range loops most_in_range name_ok named paired paired_block paired_share share time_in_range weight after_ones child_byte decode each_by first_node first_ones forest_by form_trees_by kind_from limit_from most_from num_from top around rest size former_node former_question1 former_questions former_refusal former_tree former_weight converted
examples-hold = record { was = refl; is = refl }
