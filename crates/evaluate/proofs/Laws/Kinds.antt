-- What kinds have in common: a law of a node is said for each way in which a kind treats its children, not for each kind.
use Rattle.std.specs.Prelude.{◌≡◌, refl, Bool, cond, false, true, ℕ, ◌*◌, ◌≤◌, leb}
use Rattle.std.proofs.Common.{sym, subst}
use Rattle.table.specs.Questions.{paired, paired_block}
use Rattle.table.specs.Trees.{rest, around}
use Rattle.lists.specs.Streams.{Stream, const, add, merge}
use Rattle.evaluate.specs.Nodes.{Number, Kind, Block, Sequence, Choice, Loop}
use Rattle.evaluate.specs.Evaluate.{Values, amount, later, once_then, seen, turns, join, start}
use Rattle.evaluate.specs.ListPairs.{turned}
use Rattle.evaluate.proofs.Laws.Times.{later-le, one_value}

-- lists are added, or taken together
pub by-join : (P : (Stream → Stream → Stream) → Type 0) (k : Kind) → P add → P merge → P (join k)
unfolding join
by-join P (Block t) a m = a
by-join P Sequence a m = a
by-join P Choice a m = m
by-join P (Loop n) a m = a

-- what they are joined to repeats one number, or, of a paired block, has one number once and then another, which is not above it
pub by-start : (P : Bool → Stream → Type 0) (v : Values) (k : Kind) → ((x : ℕ) → P false (const x)) → ((x y : ℕ) → y ≤ x → P true (once_then x y)) → P (paired_block k) (start v k)
unfolding start paired_block
by-start P v (Block t) c o = go (paired t) refl
  where
    go : (b : Bool) → paired t ≡ b → P b (once_then (amount v t) (later v t))
    go true e = o (amount v t) (later v t) (later-le v t)
    go false e = subst (P false) (sym (one_value v t e)) (c (amount v t))
by-start P v Sequence c o = c 0
by-start P v Choice c o = c 0
by-start P v (Loop n) c o = c 0

-- the children after the first are those of a sequence or a choice
pub by-rest : (P : Kind → Type 0) (k : Kind) → P Sequence → P Choice → P (rest k)
unfolding rest
by-rest P (Block t) s c = s
by-rest P Sequence s c = s
by-rest P Choice s c = c
by-rest P (Loop n) s c = s

-- no kind of the children after the first is a block's
pub rest-single : (k : Kind) → paired_block (rest k) ≡ false
unfolding paired_block
rest-single k = by-rest (λ j. paired_block j ≡ false) k refl refl

-- at most how often the first child's list falls as its parent takes it, where it falls w times itself and names loop k
unfoldable pub grouped : Kind → ℕ → ℕ → ℕ
grouped (Block t) k w = w
grouped Sequence k w = w
grouped Choice k w = w
grouped (Loop n) k w = cond (leb k 1) 0 (2 * w)

-- how a node takes its first child
pub record Takes : Type 0 where
  pub around : ℕ → ℕ
  pub seen : ℕ → ℕ
  pub turns : Values → ℕ → Stream → Stream
  pub turned : ℕ → ℕ → ℕ
  pub grouped : ℕ → ℕ → ℕ

abbrev pub taking : Kind → Takes
taking k = record { around = around k; seen = seen k; turns = λ v. turns v k; turned = turned k; grouped = grouped k }

-- as it is, or, a loop, by going round it
pub by_first : (P : Takes → Type 0) (k : Kind) → P (taking Sequence) → ((m : Number) → k ≡ Loop m → P (taking (Loop m))) → P (taking k)
unfolding around seen turns turned grouped
by_first P (Block t) s r = s
by_first P Sequence s r = s
by_first P Choice s r = s
by_first P (Loop m) s r = r m refl
