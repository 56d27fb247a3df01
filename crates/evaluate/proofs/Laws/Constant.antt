-- A closed tree's list is constant and names the whole run; a symbol-free tree's list is the same at all values.
use Rattle.std.specs.Prelude.{◌≡◌, false, cond, Bool, true, not, ℕ, ◌≤◌, ◌-◌, ◌<◌, suc, leb}
use Rattle.std.proofs.Math.Path.{refl, ap, ap₂}
use Rattle.std.proofs.Common.{◌∙◌, sym, subst, arith, ltb→lt, leb→le, leb-true, leb-false}
use Rattle.std.proofs.Math.Dec.{T}
use Rattle.evaluate.specs.Nodes.{Kind, Block, Sequence, Choice, Loop, Limit, Unlimited, AtMost, Number, Plain, Symbol, Most}
use Rattle.booleans.specs.Laws.{by_cond, both}
use Rattle.table.specs.Numbers.{whole_run}
use Rattle.table.specs.Questions.{paired, paired_block}
use Rattle.table.specs.Trees.{Tree, node, Forest, nil, ◌▸◌, rest, around}
use Rattle.lists.specs.Streams.{Stream, group, add, merge, const, cap}
use Rattle.lists.specs.Laws.MergeLaws.{Const, group-const, add-consts, merge-consts}
use Rattle.evaluate.specs.Evaluate.{rounds, outward, Values, amount, later, once_then, seen, turns, join, start, inner, limit, name, name_in, list, before, allowed}
use Rattle.evaluate.specs.Closed.{is_unlimited, stays, closed, closed_in, is_plain, plain_kind, plain_limit, symbol_free, symbol_free_in, plain_most}
use Rattle.evaluate.proofs.Laws.Monotone.{name-le, name_in-le}
use Rattle.evaluate.proofs.Laws.Kinds.{by-join, by-start, by-rest, by_first, rest-single}

rounds-const : (k n : ℕ) (f : Stream) → (leb k 1 ≡ false → Const f) → Const (rounds k n f)
unfolding rounds
rounds-const k n f h =
    by_cond Const (leb k 1) _ _ (λ e. (_, refl)) (λ e. let (c, q) = h e in (_, ap (group n) q ∙ group-const n c))

-- what a name seen from outside says of the name inside
outward-run : (k : ℕ) → whole_run ≤ outward k → leb k 1 ≡ false → whole_run ≤ k
unfolding outward
outward-run k h e = go (leb whole_run k) refl (rw e at h)
  where
    go : (c : Bool) → leb whole_run k ≡ c → whole_run ≤ cond c whole_run (k - 1) → whole_run ≤ k
    go true e₂ h = leb-true whole_run k e₂
    go false e₂ h = let h₁ : whole_run ≤ k - 1 = h in omega arith

turns-const : (v : Values) (k : Kind) (n : ℕ) (f : Stream) → whole_run ≤ seen k n → (whole_run ≤ n → Const f) → Const (turns v k n f)
unfolding turns seen
turns-const v k n f h g =
    by_first (λ q. whole_run ≤ q.seen n → Const (q.turns v n f)) k g (λ m e i. rounds-const n (amount v m) f (λ o. g (outward-run n i o))) h

join-const : (k : Kind) (f g : Stream) → Const f → Const g → Const (join k f g)
join-const k f g (a, p) (b, q) = by-join (λ j. Const (j f g)) k (_, ap₂ add p q ∙ add-consts a b) (_, ap₂ merge p q ∙ merge-consts a b)

limit-const : (v : Values) (l : Limit) (d : ℕ) (f : Stream) (k : ℕ) → T (stays l d) → whole_run ≤ inner l k → (whole_run ≤ k → Const f) → Const (limit v l f)
unfolding limit inner stays
limit-const v Unlimited d f k t h g = g h
limit-const v (AtMost j m) d f k t h g = let (a, b) = both _ _ t in absurd (omega (arith, ltb→lt j whole_run b))

mutual
  unfolding list name closed

  pub list-const : (v : Values) (t : Tree) (d : ℕ) → T (closed t d) → whole_run ≤ name t → Const (list v t)
  list-const v (node n f) d r h =
      let (p, b) = both _ _ r in
      let (a, q) = both _ _ p in
      limit-const v n.limit d _ _ a h (λ m. before-const v n.kind f d q b m)

  pub before-const : (v : Values) (k : Kind) (f : Forest) (d : ℕ) → T (not (paired_block k)) → T (closed_in k f d) → whole_run ≤ name_in k f → Const (before v k f)
  before-const v k nil d q r h = by-start (λ b s. T (not b) → Const s) v k (λ x o. (x, refl)) (λ x y l o. absurd o) q
  before-const v k (t ▸ f) d q r h =
      let (a, b) = both _ _ r in
      join-const k _ _
      (turns-const v k (name t) _ (omega arith) (λ m. list-const v t (around k d) a m))
      (before-const v (rest k) f d (subst (λ b. T (not b)) (sym (rest-single k)) tt) b (omega arith))

-- ---- the name of a closed tree: one of the d loops around, or the whole run

record Named (d k : ℕ) : Type 0 where
  low : 1 ≤ k
  high : d < k → whole_run ≤ k

outward-named : (d k : ℕ) → Named (suc d) k → Named d (outward k)
unfolding outward
outward-named d k h = go (leb k 1) refl (leb whole_run k) refl
  where
    go : (b : Bool) → leb k 1 ≡ b → (c : Bool) → leb whole_run k ≡ c → Named d (cond b whole_run (cond c whole_run (k - 1)))
    go true e c q = record { low = omega arith; high = λ g. omega arith }
    go false e true q = record { low = omega arith; high = λ g. omega arith }
    go false e false q =
        let l : 1 < k = leb-false k 1 e in
        let r : Named d (k - 1) = record { low = omega arith; high = λ g. absurd (omega (arith, h.high (omega arith), leb-false whole_run k q)) } in
        r

seen-named : (k : Kind) (d n : ℕ) → Named (around k d) n → Named d (seen k n)
unfolding seen around
seen-named k d n h = by_first (λ q. Named (q.around d) n → Named d (q.seen n)) k (λ i. i) (λ m e. outward-named d n) h

inner-named : (d : ℕ) (l : Limit) (k : ℕ) → T (stays l d) → Named d k → Named d (inner l k)
unfolding stays inner
inner-named d Unlimited k r h = h
inner-named d (AtMost j m) k r h =
    let (q, z) = both _ _ r in
    let (x, y) = both _ _ q in
    record { low = omega (arith, leb→le 1 j x, h.low); high = λ g. omega (arith, leb→le j d y) }

mutual
  unfolding closed name

  closed-named : (t : Tree) (d : ℕ) → T (closed t d) → Named d (name t)
  closed-named (node n f) d r = let (a, b) = both _ _ r in inner-named d n.limit _ (both _ _ a).0 (closed_in-named n.kind f d b)

  closed_in-named : (k : Kind) (f : Forest) (d : ℕ) → T (closed_in k f d) → Named d (name_in k f)
  closed_in-named k nil d r = record { low = omega arith; high = λ g. omega arith }
  closed_in-named k (t ▸ f) d r =
      let (x, y) = both _ _ r in
      let i = seen-named k d _ (closed-named t (around k d) x) in
      let j = closed_in-named (rest k) f d y in
      record { low = omega (arith, i.low, j.low); high = λ g. omega (arith, i.high (omega arith), j.high (omega arith)) }

pub closed_run : (t : Tree) → T (closed t 0) → name t ≡ whole_run
closed_run t r = let n = closed-named t 0 r in omega (arith, n.high n.low, name-le t)

pub closed_in-run : (k : Kind) (f : Forest) → T (closed_in k f 0) → name_in k f ≡ whole_run
closed_in-run k f r = let n = closed_in-named k f 0 r in omega (arith, n.high n.low, name_in-le k f)

pub closed-const : (v : Values) (t : Tree) → T (closed t 0) → Const (list v t)
closed-const v t r = list-const v t 0 r (omega (arith, closed_run t r))

pub closed_in-const : (v : Values) (k : Kind) (f : Forest) → T (not (paired_block k)) → T (closed_in k f 0) → before v k f ≡ const (before v k f 0)
unfolding const
closed_in-const v k f q r =
    let (c, e) = before-const v k f 0 q r (omega (arith, closed_in-run k f r)) in
    e ∙ ap const (sym (ap (λ s. s 0) e))

-- ---- symbol-free

pub plain-single : (k : Kind) → T (plain_kind k) → T (not (paired_block k))
unfolding plain_kind is_plain paired_block paired
plain-single (Block (Plain n)) h = tt
plain-single (Block (Symbol s)) h = absurd h
plain-single Sequence h = tt
plain-single Choice h = tt
plain-single (Loop n) h = tt

module _ (v w : Values) where
  amount-free : (n : Number) → T (is_plain n) → amount v n ≡ amount w n
  unfolding is_plain amount
  amount-free (Plain n) h = refl
  amount-free (Symbol k) h = absurd h

  later-free : (n : Number) → T (is_plain n) → later v n ≡ later w n
  unfolding is_plain later
  later-free (Plain n) h = refl
  later-free (Symbol k) h = absurd h

  allowed-free : (m : Most) → T (plain_most m) → allowed v m ≡ allowed w m
  unfolding plain_most allowed
  allowed-free (Most.Plain n) h = refl
  allowed-free (Most.Symbol k) h = absurd h
  allowed-free (Most.Triangular k) h = absurd h

  limit-free : (l : Limit) (f : Stream) → T (plain_limit l) → limit v l f ≡ limit w l f
  unfolding plain_limit limit
  limit-free Unlimited f h = refl
  limit-free (AtMost k m) f h = ap (λ n. cap n f) (allowed-free m h)

  start-free : (k : Kind) → T (plain_kind k) → start v k ≡ start w k
  unfolding plain_kind start
  start-free (Block t) h = ap₂ once_then (amount-free t h) (later-free t h)
  start-free Sequence h = refl
  start-free Choice h = refl
  start-free (Loop n) h = refl

  turns-free : (k : Kind) (n : ℕ) (f : Stream) → T (plain_kind k) → turns v k n f ≡ turns w k n f
  unfolding turns plain_kind
  turns-free k n f h = by_first (λ q. q.turns v n f ≡ q.turns w n f) k refl (λ m e. ap (λ x. rounds n x f) (amount-free m (subst (λ j. T (plain_kind j)) e h)))

  rest_plain : (k : Kind) → T (plain_kind (rest k))
  unfolding plain_kind
  rest_plain k = by-rest (λ j. T (plain_kind j)) k tt tt

  mutual
    unfolding symbol_free list

    pub list-free : (t : Tree) → T (symbol_free t) → list v t ≡ list w t
    list-free (node n f) h =
        let (p, c) = both _ _ h in
        let (a, b) = both _ _ p in
        limit-free n.limit _ b ∙ ap (limit w n.limit) (before-free n.kind f a c)

    pub before-free : (k : Kind) (f : Forest) → T (plain_kind k) → T (symbol_free_in f) → before v k f ≡ before w k f
    before-free k nil h g = start-free k h
    before-free k (t ▸ f) h g =
        let (a, b) = both _ _ g in
        ap₂ (join k) (turns-free k (name t) _ h ∙ ap (turns w k (name t)) (list-free t a)) (before-free (rest k) f (rest_plain k) b)

-- ---- unlimited

pub unlimited-is : (l : Limit) → T (is_unlimited l) → l ≡ Unlimited
unfolding is_unlimited
unlimited-is Unlimited h = refl
unlimited-is (AtMost k m) h = absurd h
