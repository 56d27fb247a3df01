-- Where each later value equals its first, evaluation says what it said before symbols were paired.
use Rattle.std.specs.Prelude.{◌≡◌, Bool, ℕ, ◌+◌, ◌<◌, ◌≤◌, T, leb}
use Rattle.std.proofs.Math.Path.{refl, ap, ap₂, sym}
use Rattle.std.proofs.Common.{◌∙◌, arith, leb→le}
use Rattle.std.proofs.Math.Dec.{ltb→lt}
use Rattle.booleans.specs.Tests.{◌and◌}
use Rattle.booleans.specs.Laws.{both}
use Rattle.table.specs.Checking.{limit_count}
use Rattle.table.specs.Numbers.{first_paired_symbol, first_time_symbol, how_many_symbols, later_place, most_time}
use Rattle.table.specs.Questions.{count_in_range, kind_in_range, most_in_range, time_in_range}
use Rattle.table.specs.Trees.{Forest, Tree, every_node, every_node_in, nil, node, rest, ◌▸◌}
use Rattle.table.specs.declared.Kind.{Kind}
use Rattle.table.specs.declared.Kind.TheVariants.{Block, Choice, Loop, Sequence}
use Rattle.table.specs.declared.Limit.{Limit}
use Rattle.table.specs.declared.Limit.TheVariants.{AtMost, Unlimited}
use Rattle.table.specs.declared.Most.{Most}
use Rattle.table.specs.declared.Node.{Node}
use Rattle.table.specs.declared.Number.{Number}
use Rattle.table.specs.declared.Number.TheVariants.{Plain, Symbol}
use Rattle.triangular.specs.Triangular.{triangular}
use Rattle.lists.specs.Pairs.{pairs}
use Rattle.lists.specs.Streams.{Stream, cap, const}
use Rattle.evaluate.specs.Evaluate.{Values, allowed, amount, before, branch, branch_in, figure, fits, fits_in, holder_in, join, later, limit, list, name, rounds, start, turns}
use Rattle.evaluate.specs.ListPairs.{list_pairs, place, place_in, place_of, turned}
use Rattle.evaluate.proofs.Laws.Evaluator.{rest-ranged}
use Rattle.evaluate.proofs.Laws.Times.{level-value, once-same}
use Rattle.formerquotes.specs.Evaluation.{former_before, former_branch, former_branch_in, former_figure, former_fits, former_fits_in, former_holder_in, former_list, former_pairs, former_start}

-- w has v's value for each symbol, and has it again as the later one of a paired symbol
pub record Repeats (v w : Values) : Type 0 where
  pub first : (k : ℕ) → k < how_many_symbols → w k ≡ v k
  pub again : (k : ℕ) → first_paired_symbol ≤ k → k < how_many_symbols → w (k + later_place) ≡ v k

-- what question 3 asks of a node
abbrev pub in_range : Node → Bool
in_range n = kind_in_range n.kind and limit_count n.limit

module _ (v w : Values) (o : Repeats v w) where
  count-was : (n : Number) → T (count_in_range n) → amount w n ≡ amount v n
  unfolding amount count_in_range
  count-was (Plain n) h = refl
  count-was (Symbol k) h = o.first k (omega (arith, ltb→lt k first_time_symbol h))

  pub symbol-was : (k : ℕ) → k < first_time_symbol → w k ≡ v k
  symbol-was k l = o.first k (omega arith)

  allowed-was : (m : Most) → T (most_in_range m) → allowed w m ≡ allowed v m
  unfolding allowed most_in_range
  allowed-was (Most.Plain n) h = refl
  allowed-was (Most.Symbol k) h = symbol-was k (ltb→lt k first_time_symbol h)
  allowed-was (Most.Triangular k) h = ap triangular (symbol-was k (ltb→lt k first_time_symbol h))

  limit-was : (l : Limit) (f : Stream) → T (limit_count l) → limit w l f ≡ limit v l f
  unfolding limit limit_count
  limit-was Unlimited f h = refl
  limit-was (AtMost k m) f h = ap (λ n. cap n f) (allowed-was m h)

  start-was : (k : Kind) → T (kind_in_range k) → start w k ≡ former_start v k
  unfolding start former_start amount later kind_in_range time_in_range
  start-was (Block (Plain n)) h = once-same n
  start-was (Block (Symbol k)) h =
      let (a, b) = both _ _ h in
      let l = ltb→lt k how_many_symbols b in
      level-value w k (λ p. o.again k (leb→le first_paired_symbol k (both _ _ p).0) l ∙ sym (o.first k l)) ∙ ap const (o.first k l)
  start-was Sequence h = refl
  start-was Choice h = refl
  start-was (Loop n) h = refl

  turns-was : (k : Kind) (i : ℕ) (f : Stream) → T (kind_in_range k) → turns w k i f ≡ turns v k i f
  unfolding turns kind_in_range
  turns-was (Block t) i f h = refl
  turns-was Sequence i f h = refl
  turns-was Choice i f h = refl
  turns-was (Loop n) i f h = ap (λ m. rounds i m f) (count-was n h)

  -- ---- the list

  mutual
    unfolding list former_list every_node

    pub list-was : (t : Tree) → T (every_node in_range t) → list w t ≡ former_list v t
    list-was (node n f) h =
        let (a, c) = both _ _ h in
        let (k, l) = both _ _ a in
        limit-was n.limit _ l ∙ ap (limit v n.limit) (before-was n.kind f k c)

    pub before-was : (k : Kind) (f : Forest) → T (kind_in_range k) → T (every_node_in in_range f) → before w k f ≡ former_before v k f
    before-was k nil r h = start-was k r
    before-was k (t ▸ f) r h =
        let (a, c) = both _ _ h in
        ap₂ (join k) (turns-was k (name t) _ r ∙ ap (turns v k (name t)) (list-was t a)) (before-was (rest k) f (rest-ranged k) c)

  pub figure-was : (t : Tree) → T (every_node in_range t) → figure w t ≡ former_figure v t
  unfolding figure former_figure
  figure-was t h = ap (λ (f : Stream). f 0) (list-was t h)

  -- ---- its pairs

  place_of-was : (l : Limit) (p : ℕ) → T (limit_count l) → place_of w l p ≡ place_of v l p
  unfolding place_of limit_count
  place_of-was Unlimited p h = refl
  place_of-was (AtMost k m) p h = allowed-was m h

  mutual
    unfolding place every_node

    place-was : (t : Tree) → T (every_node in_range t) → place w t ≡ place v t
    place-was (node n f) h =
        let (a, c) = both _ _ h in
        place_of-was n.limit _ (both _ _ a).1 ∙ ap (place_of v n.limit) (place_in-was n.kind f c)

    place_in-was : (k : Kind) (f : Forest) → T (every_node_in in_range f) → place_in w k f ≡ place_in v k f
    place_in-was k nil h = refl
    place_in-was k (t ▸ f) h = let (a, c) = both _ _ h in ap₂ (λ p q. turned k (name t) p + q) (place-was t a) (place_in-was (rest k) f c)

  pub pairs-was : (t : Tree) → T (every_node in_range t) → list_pairs w t ≡ former_pairs v t
  unfolding list_pairs former_pairs
  pairs-was t h = ap₂ pairs (list-was t h) (place-was t h)

  -- ---- the branch

  holder-was : (f : Forest) → T (every_node_in in_range f) → holder_in w f ≡ former_holder_in v f
  unfolding holder_in former_holder_in every_node kind_in_range
  holder-was nil h = refl
  holder-was (t ▸ f) h =
      let (a, c) = both _ _ h in
      let e = list-was t a in
      let g = before-was Choice f tt c in
      rw (e, g, holder-was f c) refl

  branch_in-was : (k : Kind) (f : Forest) → T (every_node_in in_range f) → branch_in w k f ≡ former_branch_in v k f
  unfolding branch_in former_branch_in
  branch_in-was (Block t) f h = refl
  branch_in-was Sequence f h = refl
  branch_in-was Choice f h = holder-was f h
  branch_in-was (Loop n) f h = refl

  pub branch-was : (t : Tree) → T (every_node in_range t) → branch w t ≡ former_branch v t
  unfolding branch former_branch every_node
  branch-was (node n f) h = branch_in-was n.kind f (both _ _ h).1

  -- ---- question 10

  mutual
    unfolding fits former_fits every_node

    pub fits-was : (t : Tree) → T (every_node in_range t) → fits w t ≡ former_fits v t
    fits-was (node n f) h =
        let (a, c) = both _ _ h in
        ap₂ ◌and◌ (ap (λ (g : Stream). leb (g 0) most_time) (before-was n.kind f (both _ _ a).0 c)) (fits_in-was f c)

    fits_in-was : (f : Forest) → T (every_node_in in_range f) → fits_in w f ≡ former_fits_in v f
    fits_in-was nil h = refl
    fits_in-was (t ▸ f) h = let (a, c) = both _ _ h in ap₂ ◌and◌ (fits-was t a) (fits_in-was f c)
