-- Tables as they were before firmware addresses (document 02, CR 6): records of 16 bytes, which are now those before a record's address.
-- Questions 1 to 7 of them, and their tree, as document 01 and its requests before that one have them: no symbol is paired (CR 7).
use Rattle.std.specs.Prelude.{Bool, List, [], ◌∷◌, ◌++◌, ℕ, ◌+◌, ◌*◌, ◌/◌, ◌%◌, eqb, leb, length}
use Rattle.booleans.specs.Tests.{◌and◌}
use Rattle.table.specs.Asking.{Question, ◌asks◌, first_no}
use Rattle.table.specs.Checking.{fields_listed, record_in_range}
use Rattle.table.specs.Numbers.{most_depth, most_loops, most_records, most_weight}
use Rattle.table.specs.Questions.{depth, loops, named, share}
use Rattle.table.specs.Table.{each_by, first_node, forest_by, form_trees_by, top}
use Rattle.table.specs.Trees.{Forest, Tree, around, nil, node, rest, ◌▸◌}
use Rattle.table.specs.declared.Kind.{Kind}
use Rattle.table.specs.declared.Node.{Node}

-- bytes in a record
abbrev pub former_length : ℕ
former_length = 16

-- how many records a table of these bytes has
abbrev pub former_count : List ℕ → ℕ
former_count b = length b / former_length

-- ---- the tree

-- the node of the first record: its address is 0
unfoldable pub former_node : List ℕ → Node
former_node b = record { kind = (first_node b).kind; limit = (first_node b).limit; address = 0 }

unfoldable pub former_tree : List ℕ → Tree
former_tree b = top (forest_by former_length former_node (former_count b) b)

-- ---- the questions

-- 1. a multiple of 16 from 16 to 8,192
unfoldable pub former_question1 : List ℕ → Bool
former_question1 b = eqb (length b % former_length) 0 and leb former_length (length b) and leb (length b) (former_length * most_records)

-- 1 to 6
abbrev pub former_six : List ℕ → List Question
former_six b =
    1 asks former_question1 b
    ∷ 2 asks each_by former_length fields_listed (former_count b) b
    ∷ 3 asks each_by former_length record_in_range (former_count b) b
    ∷ 4 asks form_trees_by former_length (former_count b) 1 b
    ∷ 5 asks (leb (depth (former_tree b)) most_depth and leb (loops (former_tree b) 0) most_loops)
    ∷ 6 asks named (former_tree b) 0
    ∷ []

-- 7. the sum of the limits' weights
unfoldable mutual
  pub former_weight : Tree → ℕ → ℕ
  former_weight (node n f) d = share n.limit d + former_weight_in n.kind f d

  pub former_weight_in : Kind → Forest → ℕ → ℕ
  former_weight_in k nil d = 0
  former_weight_in k (t ▸ f) d = former_weight t (around k d) + former_weight_in (rest k) f d

unfoldable pub former_questions : List ℕ → List Question
former_questions b = former_six b ++ 7 asks leb (former_weight (former_tree b) 0) most_weight ∷ []

-- the refusal's number, 0 for none
unfoldable pub former_refusal : List ℕ → ℕ
former_refusal b = first_no (former_questions b)
