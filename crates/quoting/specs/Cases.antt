-- What document 01's cases say of a quote and of a list.
use Rattle.std.specs.Prelude.{Bool, false, ℕ, eqb, replicate}
use Rattle.booleans.specs.Tests.{◌and◌}
use Rattle.refusals.specs.Refusals.{Answer, Given, Refused}
use Rattle.table.specs.Numbers.{how_many_values}
use Rattle.table.specs.Trees.{Tree, ◌⧺◌, size, rest, around, records}
use Rattle.table.specs.Questions.{arity, time_in_range, count_in_range, most_in_range, kind_in_range, limit_in_range, listed, paired, paired_block, depth, loops, name_ok, named, share, paired_share, weight}
use Rattle.table.specs.Bytes.{to_bytes, from_bytes}
use Rattle.table.specs.Table.{flag, most_flags, most_from, num_from, kind_byte, value_num, kind_from, loop_byte, limit_num, limit_from, record_bytes, encode, first_node, child_byte, first_ones, after_ones, top, decode, each_by, forest_by, form_trees_by}
use Rattle.table.specs.Checking.{question1, question2, limit_count, record_in_range, question3, question4, question5, question6, question7, questions}
use Rattle.table.specs.Asking.{by_refusal, first_no}
use Rattle.table.specs.Notation.{◌/T◌at◌, ◌/◌at◌, all_hold, block, both, either, loop, sequence, symbol}
use Rattle.lists.specs.Streams.{S, const, add, cap, group, shift, merge, next, taken, holder}
use Rattle.lists.specs.Pairs.{Pairs, ever, run, in_front, tail, pairs}
use Rattle.evaluate.specs.Evaluate.{allowed, amount, later, once_then, inner, outward, seen, name, limit, rounds, turns, join, start, list, figure, no_branch, holder_in, branch_in, branch, fits, zeros}
use Rattle.evaluate.specs.ListPairs.{place_of, turned, place, list_pairs}
use Rattle.quoting.specs.declared.Quote.{Quote}
use Rattle.values.specs.Values.{ceiling, later_low, question13, question14, question9, ranged, record_small, triangle_small, value_questions}
use Rattle.table.specs.Limits.{limit_holds}
use Rattle.quoting.specs.Answers.{figure_answer, figure_refusal, quote_questions}

-- the figure x with branch c
pub is_quote : (x c : ℕ) → Answer Quote → Bool
is_quote x c (Given q) = eqb x q.figure and eqb c q.branch
is_quote x c (Refused n) = false

-- the figure x without a branch
pub is_figure : ℕ → Answer Quote → Bool
is_figure x q = is_quote x no_branch q

-- the figure call answers this figure on the tree's table, with all values 0, and no branch
pub quotes : Tree → ℕ → Bool
quotes t x = is_figure x (figure_answer (encode t) (replicate how_many_values 0))

pub same_pairs : Pairs → Pairs → Bool
same_pairs (ever v) (ever w) = eqb v w
same_pairs (ever v) (run w d s) = false
same_pairs (run v c r) (ever w) = false
same_pairs (run v c r) (run w d s) = eqb v w and eqb c d and same_pairs r s

-- the tree's list has these pairs
pub lists : Tree → Pairs → Bool
lists t ps = same_pairs ps (list_pairs zeros t)

pub is_refused : ℕ → Answer Quote → Bool
is_refused n (Given q) = false
is_refused n (Refused r) = eqb n r

-- to unfold this is to unfold all that the cases compute with
unfoldable pub computed : ℕ
unfolding block symbol ◌/◌at◌ ◌/T◌at◌ sequence both either loop all_hold is_quote is_figure is_refused quotes same_pairs lists ◌and◌ ◌⧺◌ size rest around records S const add cap group shift merge next taken holder allowed amount later once_then inner outward seen name limit rounds turns join start list figure holder_in branch_in branch fits arity time_in_range count_in_range most_in_range kind_in_range limit_in_range listed depth loops paired paired_block name_ok named share paired_share weight to_bytes from_bytes flag most_flags most_from num_from kind_byte value_num kind_from loop_byte limit_num limit_from record_bytes encode first_node child_byte first_ones after_ones forest_by top decode form_trees_by each_by limit_count record_in_range question1 question2 question3 question4 question5 question6 question7 questions first_no by_refusal place_of turned place in_front tail pairs list_pairs ceiling ranged question9 limit_holds triangle_small record_small question13 later_low question14 value_questions quote_questions figure_refusal figure_answer
computed = 0
