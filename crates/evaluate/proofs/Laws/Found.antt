-- What each step of the evaluator's walk finds, if what it is given is the list that it should be.
use Rattle.std.specs.Prelude.{◌≡◌, refl, true, Bool, false, cond, T, leb}
use Rattle.std.proofs.Common.{sym, ◌∙◌, subst, ap₂, arith, leb→le}
use Rattle.std.proofs.Math.Path.{ap}
use Prim.Native.Nat.{ℕ, ◌≤◌, ◌+◌, min, ◌*◌, suc, ◌<◌}
use borrow.Author.Tests.{leb-false, le-leb}
use Rattle.booleans.specs.Laws.{by_cond, both}
use Rattle.table.specs.Numbers.{most_time, most_weight, most_count, first_time_symbol}
use Rattle.table.specs.Questions.{kind_in_range, limit_in_range}
use Rattle.lists.specs.Operations.{first, group_pairs}
use Rattle.lists.specs.Pairs.{width, ArePairs, Pairs, expand, places, Canonical, ever, top}
use Rattle.lists.specs.Streams.{Stream, const, group, cap}
use Rattle.lists.specs.Laws.Add.{add_is, add-facts}
use Rattle.lists.specs.Laws.Cap.{cap-is, cap-facts}
use Rattle.lists.specs.Laws.Group.{group-is, group-canonical, group-top, group-thin}
use Rattle.lists.specs.Laws.Pairs.{members, first-top, are-pairs, top-is}
use Rattle.lists.specs.Laws.Union.{merge-facts, expand-ever}
use Rattle.evaluate.specs.Nodes.{Kind, Block, Sequence, Choice, Loop, Limit, Unlimited, AtMost}
use Rattle.evaluate.specs.Evaluate.{join, outward, rounds, Values, amount, inner, seen, limit, turns, allowed}
use Rattle.evaluate.specs.Evaluator.{Agree, Found, alike, next_holder, join_pairs, unfit, found, checked, joined, looped, gone_round, limited}
use Rattle.evaluate.proofs.Laws.PairCount.{own}
use Rattle.evaluate.proofs.Laws.Amounts.{allowed-most, amount-most}
use Rattle.evaluate.proofs.Laws.Kinds.{grouped}
use Rattle.evaluate.proofs.Laws.Alike.{count-alike, limit-alike}
use Rattle.table.specs.Limits.{most_holds}

-- what a walk found is the stream f, with at most w falls, naming loop k, of n records, with branch c
pub record Holds (e : Found) (f : Stream) (w k n c : ℕ) : Type 0 where
  pub fits : e.fits ≡ true
  pub are : ArePairs f e.pairs
  pub thin : width e.pairs ≤ w
  pub named : e.named ≡ k
  pub records : e.records ≡ n
  pub branch : e.branch ≡ c

-- a walk finds that where p, and fits nowhere else
pub record Finds (p : Type 0) (e : Found) (f : Stream) (w k n c : ℕ) : Type 0 where
  pub only : e.fits ≡ true → p
  pub holds : p → Holds e f w k n c

-- joined as a node of kind k joins them
pub record Joined (k : Kind) (r s t : Pairs) : Type 0 where
  pub members : expand t ≡ join k (expand r) (expand s)
  pub canonical : Canonical t
  pub thin : width t ≤ width r + width s
  pub few : places t ≤ places r + places s

pub join-facts : (k : Kind) (r s : Pairs) → Canonical r → Canonical s → Joined k r s (join_pairs k r s)
unfolding join join_pairs
join-facts (Block t) r s h i = let q = add-facts r s h i in record { members = add_is r s h i; canonical = q.canonical; thin = q.thin; few = omega (arith, q.few) }
join-facts Sequence r s h i = let q = add-facts r s h i in record { members = add_is r s h i; canonical = q.canonical; thin = q.thin; few = omega (arith, q.few) }
join-facts Choice r s h i = let q = merge-facts r s h i in record { members = q.members; canonical = q.canonical; thin = q.thin; few = q.few }
join-facts (Loop n) r s h i = let q = add-facts r s h i in record { members = add_is r s h i; canonical = q.canonical; thin = q.thin; few = omega (arith, q.few) }

-- the first sum, for ever
sum_is : (n : ℕ) (f : Stream) (r : Pairs) → ArePairs f r → ArePairs (const (group n f 0)) (ever (first r n))
unfolding Canonical
sum_is n f r a =
    let e : first r n ≡ group n f 0 = sym (group-top n r a.canonical) ∙ sym (first-top _ (group-canonical n r a.canonical)) ∙ ap (λ g. g 0) (group-is n r a.canonical) ∙ ap (λ g. group n g 0) (members a) in
    are-pairs tt (expand-ever (first r n) ∙ ap const e)

-- ---- the walk's tests

-- what is found already
pub known-finds : {p : Type 0} {e : Found} {f : Stream} {w k n c : ℕ} → p → Holds e f w k n c → Finds p e f w k n c
known-finds x a = record { only = λ e. x; holds = λ y. a }

-- where p is known not to hold
unfit-finds : (p : Type 0) (f : Stream) (w k n c : ℕ) → (p → ⊥) → Finds p unfit f w k n c
unfit-finds p f w k n c h = record { only = λ e. absurd (subst T (sym e) tt); holds = λ x. absurd (h x) }

pub found-holds : (f : Stream) (r : Pairs) (w k n c : ℕ) → ArePairs f r → width r ≤ w → Holds (found r k n c) f w k n c
found-holds f r w k n c a l = record { fits = refl; are = a; thin = l; named = refl; records = refl; branch = refl }

pub checked-finds : (f : Stream) (r : Pairs) (w k n c : ℕ) → ArePairs f r → width r ≤ w → Finds (f 0 ≤ most_time) (checked r k n c) f w k n c
checked-finds f r w k n c a l =
    by_cond (λ e. Finds (f 0 ≤ most_time) e f w k n c) (leb (top r) most_time) _ _
    (λ t. record { only = λ e. omega (arith, top-is a, leb→le (top r) most_time t); holds = λ p. found-holds f r w k n c a l })
    (λ t. unfit-finds _ f w k n c (λ p. omega (arith, top-is a, leb-false (top r) most_time t)))

-- one after the other
pub then-finds : {p q : Type 0} {c e : Found} {f g : Stream} {w u k j m n x y : ℕ} → Finds p c f w k m x → (p → Holds c f w k m x → Finds q e g u j n y) → Finds (p × q) (cond c.fits e unfit) g u j n y
then-finds {p} {q} {c} {e} {f} {g} {w} {u} {k} {j} {m} {n} {x} {y} a b = go c.fits refl
  where
    go : (t : Bool) → c.fits ≡ t → Finds (p × q) (cond t e unfit) g u j n y
    go true i = let x = a.only i in let y = b x (a.holds x) in record { only = λ o. (x, y.only o); holds = λ o. y.holds o.1 }
    go false i = unfit-finds _ g u j n y (λ o. subst T (sym (a.holds o.0).fits ∙ i) tt)

-- the same, said in another way
pub same-finds : {p q : Type 0} {e : Found} {f g : Stream} {w u k j m n x y : ℕ} → (p → q) → (q → p) → f ≡ g → w ≤ u → k ≡ j → m ≡ n → x ≡ y → Finds p e f w k m x → Finds q e g u j n y
same-finds {e = e} a b i₁ i₂ i₃ i₄ i₅ h = record {
  only = λ o. a (h.only o);
  holds = λ o.
      let x = h.holds (b o) in
      record { fits = x.fits; are = subst (λ f. ArePairs f e.pairs) i₁ x.are; thin = omega (arith, x.thin); named = x.named ∙ i₃; records = x.records ∙ i₄; branch = x.branch ∙ i₅ };
}

-- ---- the steps

pub joined-finds : (k : Kind) (o : ℕ) (s c : Found) (f g : Stream) (w u i j m n x y : ℕ) → Holds s f w i m x → Holds c g u j n y → w + u ≤ most_weight
    → Finds (join k f g 0 ≤ most_time) (joined k o s c) (join k f g) (w + u) (min i j) (m + n) (next_holder k x (f 0) o (g 0))
unfolding joined
joined-finds k o s c f g w u i j m n x y a b l =
    let q = join-facts k s.pairs c.pairs a.are.canonical b.are.canonical in
    rw (le-leb (width s.pairs + width c.pairs) most_weight (omega (arith, a.thin, b.thin)), a.named, a.records, a.branch, b.named, b.records, top-is a.are, top-is b.are)
    (checked-finds _ _ (w + u) _ _ _ (are-pairs q.canonical (q.members ∙ ap₂ (join k) (members a.are) (members b.are))) (omega (arith, q.thin, a.thin, b.thin)))

looped-finds : (m : ℕ) (c : Found) (f : Stream) (w k n x : ℕ) → Holds c f w k n x → m ≤ most_count → cond (leb k 1) 0 (2 * w) ≤ most_weight
    → Finds (rounds k m f 0 ≤ most_time) (looped m c) (rounds k m f) (cond (leb k 1) 0 (2 * w)) (outward k) n x
unfolding looped rounds width
looped-finds m c f w k n x a l b = rw (le-leb m most_count l, a.named, a.records, a.branch) (go (leb k 1) b)
  where
    r : Pairs
    r = c.pairs

    go : (t : Bool) → cond t 0 (2 * w) ≤ most_weight
        → Finds (cond t (const (group m f 0)) (group m f) 0 ≤ most_time)
        (cond t (checked (ever (first r m)) (outward k) n x) (cond (leb (2 * width r) most_weight) (checked (group_pairs m r) (outward k) n x) unfit))
        (cond t (const (group m f 0)) (group m f)) (cond t 0 (2 * w)) (outward k) n x
    go true b = checked-finds _ _ 0 _ _ _ (sum_is m f r a.are) (omega arith)
    go false b =
        rw (le-leb (2 * width r) most_weight (omega (arith, a.thin)))
        (checked-finds _ _ (2 * w) _ _ _ (are-pairs (group-canonical m r a.are.canonical) (group-is m r a.are.canonical ∙ ap (group m) (members a.are)))
        (omega (arith, (group-thin m r a.are.canonical).0, a.thin)))

module _ (u v : Values) (agree : Agree u v) (ranged : (k : ℕ) → k < first_time_symbol → v k ≤ most_count) where
  pub round-finds : (k : Kind) (c : Found) (f : Stream) (w j n x : ℕ) → Holds c f w j n x → f 0 ≤ most_time → T (kind_in_range k) → grouped k j w ≤ most_weight
      → Finds (turns v k j f 0 ≤ most_time) (gone_round u k c) (turns v k j f) (grouped k j w) (seen k j) n x
  unfolding turns gone_round grouped seen kind_in_range
  round-finds (Block t) c f w j n x a l h b = known-finds l a
  round-finds Sequence c f w j n x a l h b = known-finds l a
  round-finds Choice c f w j n x a l h b = known-finds l a
  round-finds (Loop m) c f w j n x a l h b = rw (count-alike u v agree m h) (looped-finds (amount v m) c f w j n x a (amount-most v ranged m h) b)

  pub limited-holds : (l : Limit) (s : Found) (f : Stream) (w k n x : ℕ) → Holds s f w k n x → T (limit_in_range l) → T (most_holds (alike u v) l) → own l w ≤ most_weight
      → Holds (limited u l s) (limit v l f) (own l w) (inner l k) (suc n) x
  unfolding limited limit own inner limit_in_range
  limited-holds Unlimited s f w k n x a h i b = record { fits = refl; are = a.are; thin = a.thin; named = a.named; records = ap suc a.records; branch = a.branch }
  limited-holds (AtMost j m) s f w k n x a h i b =
      let q = cap-facts (allowed v m) s.pairs a.are.canonical in
      rw (limit-alike u v j m i, le-leb (allowed v m) most_count (allowed-most v ranged m (both _ _ h).1), le-leb (suc (width s.pairs)) most_weight (omega (arith, a.thin)), a.named, a.records, a.branch)
      (found-holds _ _ _ _ _ _ (are-pairs q.canonical (cap-is (allowed v m) s.pairs ∙ ap (cap (allowed v m)) (members a.are))) (omega (arith, q.thin, a.thin)))
