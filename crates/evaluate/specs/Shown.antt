-- How the evaluator's answers, an option and the list that was lent, show what the definition finds.
use Rattle.std.specs.Prelude.{◌≡◌, List, None, Option, Some, ℕ, ◌*◌, ◌≤◌}
use Rattle.table.specs.Numbers.{most_count, most_records, most_time}
use Rattle.lists.specs.declared.List.{List as Listed}
use Rattle.lists.specs.Pairs.{places, top}
use Rattle.lists.specs.Reading.{Proper, pairs_of}
use Rattle.evaluate.specs.declared.Valued.{Valued}
use Rattle.evaluate.specs.Nodes.{Kind}
use Rattle.evaluate.specs.Evaluate.{Values}
use Rattle.evaluate.specs.Evaluator.{Found, and_then, evaluate_more, evaluate_node, found, gone_round, joined, none_yet, unfit}

-- what is found where the answer is r, with its list in a
abbrev pub found_in : Valued → Listed → Found
found_in r a = found (pairs_of a) r.named r.records r.branch

-- the same of an answer that may be None, where question 10 says no
abbrev pub answered_in : Option Valued → Listed → Found
answered_in None a = unfit
answered_in (Some r) a = found_in r a

-- The answer, with the lent list a, says what e says. Where it is None, question 10 says no, and a may hold anything.
abbrev pub Shows : Option Valued → Listed → Found → Type 0
Shows None a e = e ≡ unfit
Shows (Some r) a e = Proper a × (e ≡ found_in r a)

-- the answer r, with its list a, is in range for the next step
pub record Ready (r : Valued) (a : Listed) : Type 0 where
  pub proper : Proper a
  pub low : top (pairs_of a) ≤ most_time
  pub near : places (pairs_of a) ≤ most_count * r.records
  pub few : r.records ≤ most_records

-- the answer r, of a node before its own limit, is in range for that limit
pub record Limitable (r : Valued) (a : Listed) : Type 0 where
  pub proper : Proper a
  pub few : r.records ≤ most_records

-- the children so far, s, and the next one, c, number i, as a node of kind k takes it
unfoldable pub with_next : Values → Kind → (i : ℕ) → Found → Found → Found
with_next v k i s c = and_then c (λ c. and_then (gone_round v k c) (joined k i s))

-- the first n trees of b, each at most h nodes deep, as children of a node of kind k
abbrev pub evaluate_children : Values → (h : ℕ) → Kind → ℕ → List ℕ → Found
evaluate_children v h k n b = evaluate_more v (evaluate_node v h) k 0 n b none_yet
