-- Joining lists, as a sequence or a choice does: zero, order and brackets do not matter.
use Rattle.std.specs.Prelude.{◌≡◌, refl, ◌≤◌}
use Rattle.std.proofs.Common.{◌∙◌, ap, sym, arith}
use Rattle.table.specs.Trees.{rest}
use Rattle.lists.specs.Streams.{Stream, const, add, merge, taken}
use Rattle.lists.specs.Laws.MergeLaws.{merge-zero, add_zero_r, merge-comm, add_comm, merge-assoc, add_assoc}
use Rattle.lists.specs.Laws.Sums.{Falls, const-falls}
use Rattle.evaluate.specs.Nodes.{Kind, Block, Sequence, Choice, Loop}
use Rattle.evaluate.specs.Evaluate.{join}
use Rattle.evaluate.proofs.Laws.Kinds.{by-join}

pub join-zero : (k : Kind) (f : Stream) → Falls f → join k f (const 0) ≡ f
join-zero k f h = by-join (λ j. j f (const 0) ≡ f) k (add_zero_r f) (merge-zero f h)

pub join-comm : (k : Kind) (f g : Stream) → Falls f → Falls g → join k f g ≡ join k g f
join-comm k f g h i = by-join (λ j. j f g ≡ j g f) k (add_comm f g) (merge-comm f g h i)

pub zero-join : (k : Kind) (f : Stream) → Falls f → join k (const 0) f ≡ f
zero-join k f h = join-comm k (const 0) f (const-falls 0) h ∙ join-zero k f h

pub join-assoc : (k : Kind) (f g h : Stream) → Falls f → Falls g → Falls h → join k (join k f g) h ≡ join k f (join k g h)
join-assoc k f g h a b c = by-join (λ j. j (j f g) h ≡ j f (j g h)) k (add_assoc f g h) (merge-assoc f g h a b c)

pub join-swap : (k : Kind) (f g h : Stream) → Falls f → Falls g → Falls h → join k f (join k g h) ≡ join k g (join k f h)
join-swap k f g h a b c = sym (join-assoc k f g h a b c) ∙ ap (λ s. join k s h) (join-comm k f g a b) ∙ join-assoc k g f h b a c

-- the first member of what is joined
pub join-left : (k : Kind) (f g : Stream) → f 0 ≤ join k f g 0
unfolding add merge taken
join-left k f g = by-join (λ j. f 0 ≤ j f g 0) k (omega arith) (omega arith)

pub join-right : (k : Kind) (f g : Stream) → g 0 ≤ join k f g 0
unfolding add merge taken
join-right k f g = by-join (λ j. g 0 ≤ j f g 0) k (omega arith) (omega arith)

pub rest-join : (k : Kind) (f g : Stream) → join (rest k) f g ≡ join k f g
unfolding join rest
rest-join (Block t) f g = refl
rest-join Sequence f g = refl
rest-join Choice f g = refl
rest-join (Loop n) f g = refl
