-- What the evaluator's walk finds of any bytes, at any values, is in range.
use Rattle.std.specs.Prelude.{◌≡◌, Bool, cond, List, ℕ, ◌*◌, ◌≤◌, ◌+◌, suc, zero, T, leb, length, drop}
use Rattle.std.proofs.Math.Path.{refl}
use Rattle.std.proofs.Common.{arith, leb→le, length-drop}
use Rattle.booleans.specs.Laws.{by_cond}
use Rattle.table.specs.Numbers.{record_length, most_time, most_count, most_weight, whole_run}
use Rattle.table.specs.Table.{first_node, child_byte}
use Rattle.table.specs.Trees.{rest}
use Rattle.lists.specs.Operations.{first}
use Rattle.lists.specs.Pairs.{top, width, places, Canonical, ever, Pairs}
use Rattle.lists.specs.Laws.Cap.{cap-facts}
use Rattle.lists.specs.Laws.Group.{group-canonical, group-thin}
use Rattle.evaluate.specs.Nodes.{Kind, Block, Sequence, Choice, Loop, Limit, Unlimited, AtMost, Number}
use Rattle.evaluate.specs.Evaluate.{Values, amount, later, no_branch}
use Rattle.evaluate.specs.Evaluator.{Found, time_pairs, unfit, none_yet, checked, joined, looped, gone_round, limited, evaluate_more, evaluate_below, evaluate_node, looked}
use Rattle.evaluate.proofs.Laws.Found.{join-facts}
use Rattle.evaluate.proofs.Laws.Children.{time-front, time-wide}

-- what is found at the start of b, with the places that n records may have
pub record SaneBy (n : ℕ) (b : List ℕ) (e : Found) : Type 0 where
  pub canonical : Canonical e.pairs
  pub low : top e.pairs ≤ most_time
  pub thin : width e.pairs ≤ most_weight
  pub near : places e.pairs ≤ most_count * n
  pub short : record_length * e.records ≤ length b

abbrev pub Sane : List ℕ → Found → Type 0
Sane b e = SaneBy e.records b e

-- below the first record of b, before its own limit: the record may be a block, with a place of its own
abbrev pub Below : List ℕ → Found → Type 0
Below b e = SaneBy (suc e.records) b e

pub sane-is-below : (b : List ℕ) (e : Found) → Sane b e → Below b e
sane-is-below b e p = record { canonical = p.canonical; low = p.low; thin = p.thin; near = omega (arith, p.near); short = p.short }

-- ---- the steps

pub sane-unfit : (b : List ℕ) → Sane b unfit
unfolding Canonical top width places
sane-unfit b = record { canonical = tt; low = omega arith; thin = omega arith; near = omega arith; short = omega arith }

-- no children yet
pub sane-none : (b : List ℕ) → Sane b none_yet
unfolding Canonical top width places
sane-none b = record { canonical = tt; low = omega arith; thin = omega arith; near = omega arith; short = omega arith }

-- where a test says no, nothing is found
pub sane-where : (b : List ℕ) (t : Bool) (e : Found) → (T t → Sane b e) → Sane b (cond t e unfit)
sane-where b t e h = by_cond (Sane b) t _ _ h (λ i. sane-unfit b)

pub sane-checked : (b : List ℕ) (r : Pairs) (k n c : ℕ) → Canonical r → width r ≤ most_weight → places r ≤ most_count * n → record_length * n ≤ length b → Sane b (checked r k n c)
sane-checked b r k n c h w p l =
    sane-where b (leb (top r) most_time) _ (λ t. record { canonical = h; low = leb→le (top r) most_time t; thin = w; near = p; short = l })

-- children s of b, and the next one, c, number i
pub sane-joined : (k : Kind) (i : ℕ) (b : List ℕ) (s c : Found) → Sane b s → Sane (drop (record_length * s.records) b) c → Sane b (joined k i s c)
unfolding joined
sane-joined k i b s c p q =
    let j = join-facts k s.pairs c.pairs p.canonical q.canonical in
    sane-where b (leb (width s.pairs + width c.pairs) most_weight) _
    (λ t.
    sane-checked b _ _ _ _ j.canonical (omega (arith, j.thin, leb→le)) (omega (arith, j.few, p.near, q.near))
    (omega (arith, p.short, q.short, length-drop (record_length * s.records) b)))

pub sane-looped : (n : ℕ) (b : List ℕ) (c : Found) → Sane b c → Sane b (looped n c)
unfolding looped Canonical width places
sane-looped n b c p =
    sane-where b (leb n most_count) _
    (λ t.
    by_cond (Sane b) (leb c.named 1) _ _
    (λ t. sane-checked b (ever (first c.pairs n)) _ _ _ tt (omega arith) (omega arith) p.short)
    (λ t.
    sane-where b (leb (2 * width c.pairs) most_weight) _
    (λ t.
    let g = group-thin n c.pairs p.canonical in
    sane-checked b _ _ _ _ (group-canonical n c.pairs p.canonical) (omega (arith, g.0, leb→le)) (omega (arith, g.1, p.near)) p.short)))

pub sane-round : (v : Values) (k : Kind) (b : List ℕ) (c : Found) → Sane b c → Sane b (gone_round v k c)
unfolding gone_round
sane-round v (Block t) b c p = p
sane-round v Sequence b c p = p
sane-round v Choice b c p = p
sane-round v (Loop n) b c p = sane-looped (amount v n) b c p

-- the first record of b, with what is found below it
pub sane-limited : (v : Values) (l : Limit) (b : List ℕ) (s : Found) → record_length ≤ length b → Below (drop record_length b) s → Sane b (limited v l s)
unfolding limited
sane-limited v Unlimited b s g p =
    record { canonical = p.canonical; low = p.low; thin = p.thin; near = omega (arith, p.near); short = omega (arith, p.short, length-drop record_length b) }
sane-limited v (AtMost k m) b s g p =
    sane-where b (leb (looked v m) most_count) _
    (λ t.
    sane-where b (leb (suc (width s.pairs)) most_weight) _
    (λ u.
    let q = cap-facts (looked v m) s.pairs p.canonical in
    record {
      canonical = q.canonical;
      low = omega (arith, q.low, p.low);
      thin = omega (arith, q.thin, leb→le);
      near = omega (arith, q.few, leb→le);
      short = omega (arith, p.short, length-drop record_length b);
    }))

-- ---- the walk

-- one more child: what a loop over the children keeps
pub sane-next : (v : Values) (k : Kind) (i : ℕ) (b : List ℕ) (s c : Found) → Sane b s → Sane (drop (record_length * s.records) b) c → Sane b (joined k i s (gone_round v k c))
sane-next v k i b s c p q = sane-joined k i b s _ p (sane-round v k _ c q)

-- n more children, whatever sane things f finds
pub sane-more : (v : Values) (f : List ℕ → Found) → ((b : List ℕ) → Sane b (f b)) → (k : Kind) (i n : ℕ) (b : List ℕ) (s : Found) → Sane b s → Sane b (evaluate_more v f k i n b s)
unfolding evaluate_more
sane-more v f h k i zero b s p = p
sane-more v f h k i (suc n) b s p =
    let c = f (drop (record_length * s.records) b) in
    let d = gone_round v k c in
    let e = joined k i s d in
    sane-where b c.fits _ (λ t. sane-where b d.fits _ (λ t. sane-where b e.fits _ (λ t. sane-more v f h (rest k) (suc i) n b e (sane-next v k i b s c p (h _)))))

pub below-block : (v : Values) (t : Number) (b : List ℕ) → Below b (checked (time_pairs v t) whole_run 0 no_branch)
below-block v t b =
    let f = time-front v t in
    by_cond (Below b) (leb (top (time_pairs v t)) most_time) _ _
    (λ e. record { canonical = f.canonical; low = leb→le (top (time_pairs v t)) most_time e; thin = omega (arith, time-wide v t); near = omega (arith, f.reach, none); short = omega arith })
    (λ e. sane-is-below b unfit (sane-unfit b))
  where
    none : places (ever (later v t)) ≡ 0
    none = unfold places in refl

pub sane-below : (v : Values) (f : List ℕ → Found) → ((b : List ℕ) → Sane b (f b)) → (k : Kind) (n : ℕ) (b : List ℕ) → Below b (evaluate_below v f k n b)
unfolding evaluate_below
sane-below v f h (Block t) n b = below-block v t b
sane-below v f h Sequence n b = sane-is-below b _ (sane-more v f h Sequence 0 n b _ (sane-none b))
sane-below v f h Choice n b = sane-is-below b _ (sane-more v f h Choice 0 n b _ (sane-none b))
sane-below v f h (Loop m) n b = sane-is-below b _ (sane-more v f h (Loop m) 0 n b _ (sane-none b))

pub sane : (v : Values) (h : ℕ) (b : List ℕ) → Sane b (evaluate_node v h b)
unfolding evaluate_node
sane v zero b = sane-unfit b
sane v (suc h) b =
    let e = evaluate_below v (evaluate_node v h) (first_node b).kind (child_byte b) (drop record_length b) in
    sane-where b (leb record_length (length b)) _
    (λ t. sane-where b e.fits _ (λ u. sane-limited v (first_node b).limit b e (leb→le record_length (length b) t) (sane-below v (evaluate_node v h) (sane v h) _ _ _)))
