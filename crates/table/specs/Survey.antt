-- Questions 5 to 7 of document 01 as the program answers them: one walk of the table's tree, on bytes.
-- It is total, and meant where questions 1 to 4 say yes: proofs/Laws/Survey says what it then answers.
use Rattle.std.specs.Prelude.{Option, None, Some, option_map, option_and_then, true, cond, ◌&&◌, List, [], ◌∷◌, ℕ, zero, suc, ◌+◌, ◌-◌, ◌*◌, ◌^◌, ◌≤◌, leb, eqb, drop, length}
use Rattle.table.specs.declared.Survey.{Survey}
use Rattle.table.specs.Asking.{◌asks◌, first_no}
use Rattle.table.specs.Nodes.{Limit, Unlimited, AtMost, Node}
use Rattle.table.specs.Numbers.{record_length, whole_run, most_loops, most_weight}
use Rattle.table.specs.Trees.{around}
use Rattle.table.specs.Questions.{name_ok, paired_share}
use Rattle.table.specs.Table.{first_node, child_byte}

-- a tree that is not as question 5 asks has no survey
abbrev pub unfit : Option Survey
unfit = None

-- the survey of no tree at all
abbrev pub empty : Survey
empty = record { records = 0; named = true; weight = 0 }

-- trees that fit, and the next one, which fits too
abbrev pub with_next : Survey → Survey → Survey
with_next s c = record { records = s.records + c.records; named = s.named && c.named; weight = s.weight + c.weight }

-- question 7: what a limit with byte 3 of k adds, d loops around its node. A byte 3 that question 2 does not let pass adds nothing.
abbrev pub name_share : (k d : ℕ) → ℕ
name_share k d = cond (eqb k whole_run) (2 ^ d) (cond (leb 1 k && leb k most_loops) (2 ^ (k - 1)) 0)

unfoldable pub listed_share : Limit → ℕ → ℕ
listed_share Unlimited d = 0
listed_share (AtMost k m) d = name_share k d

-- children that fit, and the node that they belong to, with d loops around it
abbrev pub with_parent : Node → ℕ → Survey → Survey
with_parent n d s = record { records = s.records + 1; named = name_ok n.limit d && s.named; weight = listed_share n.limit d + paired_share n.kind d + s.weight }

-- n more trees of b after those of s, with so many loops around the first of them and around the others; f surveys a tree by the loops around it
-- and the bytes from its record on. A tree that does not fit ends the walk.
unfoldable pub survey_more : (f : ℕ → List ℕ → Option Survey) (first others n : ℕ) → List ℕ → Survey → Option Survey
survey_more f first others zero b s = Some s
survey_more f first others (suc n) b s =
    option_and_then (λ c. survey_more f others others n b (with_next s c)) (f first (drop (record_length * s.records) b))

-- the node of b's first record with everything below it, at most h nodes deep, with d loops around it
unfoldable pub survey_node : (h d : ℕ) → List ℕ → Option Survey
survey_node zero d b = unfit
survey_node (suc h) d b =
    cond (leb record_length (length b) && leb d most_loops)
    (option_map (with_parent (first_node b) d) (survey_more (survey_node h) (around (first_node b).kind d) d (child_byte b) (drop record_length b) empty))
    unfit

-- the first n trees of b, each at most h nodes deep
abbrev pub survey_children : (h first others n : ℕ) → List ℕ → Option Survey
survey_children h first others n b = survey_more (survey_node h) first others n b empty

-- the most that a limit adds to question 7's sum: 2 to the power of most_loops
abbrev pub most_share : ℕ
most_share = 2 ^ most_loops

-- the most that a node adds: as much for its limit, and for a paired symbol
abbrev pub node_share : ℕ
node_share = 2 * most_share

-- a survey of b that is small enough to add to
pub record Small (b : List ℕ) (s : Survey) : Type 0 where
  pub short : record_length * s.records ≤ length b
  pub light : s.weight ≤ node_share * s.records

-- the first of questions 6 and 7 that says no of a tree that fits, or 0
abbrev pub fitting_refusal : Survey → ℕ
fitting_refusal s = first_no (6 asks s.named ∷ 7 asks leb s.weight most_weight ∷ [])

-- the first of questions 5 to 7 that says no, or 0
abbrev pub survey_refusal : Option Survey → ℕ
survey_refusal None = 5
survey_refusal (Some s) = fitting_refusal s
