-- Steps up to an allowance, one after the other, each an edit of the table's bytes.
use Rattle.std.specs.Prelude.{◌≡◌, refl, Bool, true, false, not, ◌&&◌, List, ◌++◌, ℕ, ◌+◌, ◌*◌, ◌-◌, ◌<◌, ◌≤◌, suc, zero, T, ltb, drop, length, take, is_some, Some, None}
use Rattle.std.specs.declared.option.Option.{Option as Maybe}
use Rattle.std.proofs.Common.{ap, sym, subst, ◌∙◌, append-nil, add-zero, zero-add, arith, length-take-le, ltb-false, ltb-true}
use Rattle.std.proofs.lemmas.Option.{none-some}
use Rattle.std.proofs.Math.Option.{Option, none, some}
use Rattle.std.proofs.Math.Nat.{sub-zero}
use Rattle.table.specs.Checking.{IsTable}
use Rattle.table.specs.Numbers.{record_length}
use Rattle.table.specs.Questions.{Accepted}
use Rattle.table.specs.Table.{decode, encode, encodes, record_count}
use Rattle.table.specs.Trees.{Tree, nil, ◌▸◌, records, records_in}
use Rattle.table.proofs.Laws.NotRefused.{reads-back}
use Rattle.table.proofs.Laws.Reading.{part-to}
use Rattle.table.proofs.Laws.RoundTrip.{length-encode}
use Rattle.evaluate.specs.Evaluate.{zeros}
use Rattle.simplify.specs.Steps.{Made, also, is_none, onward, step, steps}
use Rattle.simplify.proofs.Laws.Keeps.{Kept}
use Rattle.simplify.proofs.Laws.Stepping.{Steps, ends, goes, last, step-steps}
use Rattle.subtrees.specs.Facts.{Sized, Surveyed, extent_at}
use Rattle.subtrees.specs.declared.Facts.{Facts}
use Rattle.searching.specs.declared.Spot.{Spot}
use Rattle.subtrees.specs.Parts.{Simplifiable}
use Rattle.subtrees.specs.Laws.Parts.{extent-some, sized}
use Rattle.writing.specs.Records.{front}
use Rattle.searching.specs.Found.{Found, Placed, Settled}
use Rattle.searching.specs.Rewritten.{Rewritten}
use Rattle.onestep.specs.Step.{stepped}
use Rattle.stepping.specs.Steps.{Ends}

-- after k steps, what is made of the rest
abbrev pub added : ℕ → Made → Made
added k m = record { tree = m.tree; taken = k + m.taken; finished = m.finished }

-- k of at most n steps made b of the table b₀
pub record Going (b₀ : List ℕ) (n : ℕ) (b : List ℕ) (k : ℕ) : Type 0 where
  pub simplifiable : Simplifiable b
  pub within : k ≤ n
  pub no_longer : length b ≤ length b₀
  pub same : steps n (decode b₀) ≡ added k (steps (n - k) (decode b))

pub going-as : {b₀ : List ℕ} {n : ℕ} {b c : List ℕ} {k : ℕ} → b ≡ c → Going b₀ n c k → Going b₀ n b k
going-as {b₀} {n} {k = k} e g = subst (λ x. Going b₀ n x k) (sym e) g

none-added : (m : Made) → m ≡ added 0 m
none-added m = λ i. record { tree = m.tree; taken = sym (zero-add m.taken) i; finished = m.finished }

pub going_start : (b : List ℕ) (n : ℕ) → Simplifiable b → Going b n b 0
going_start b n s =
    record { simplifiable = s; within = omega arith; no_longer = omega arith; same = none-added (steps n (decode b)) ∙ ap (λ k. added 0 (steps k (decode b))) (sym (sub-zero n)) }

-- ---- the next step

-- what a step makes of the table's tree
pub record Next (b : List ℕ) (at n : ℕ) (out : List ℕ) : Type 0 where
  pub tree : Tree
  pub is : step (decode b) ≡ some tree
  pub inside : at ≤ record_count b
  pub count : at + n ≡ records tree
  pub bytes : front at b ++ front n out ≡ encode tree

next_of : (b : List ℕ) (spot : Spot) (out : List ℕ) (x : Option Tree) → step (decode b) ≡ x → Rewritten (also (λ u. u ▸ nil) x) b (Some spot) out → Next b spot.at spot.len out
unfolding also Rewritten encodes records_in
next_of b spot out none e w = absurd w
next_of b spot out (some u) e w = record { tree = u; is = e; inside = w.2; count = omega (arith, w.1); bytes = w.3 ∙ append-nil (encode u) }

pub next-step : (b : List ℕ) (spot : Spot) (out : List ℕ) → Rewritten (stepped (decode b)) b (Some spot) out → Next b spot.at spot.len out
unfolding stepped
next-step b spot out w = next_of b spot out (step (decode b)) refl w

unfoldable keeps : Tree → Option Tree → Type 0
keeps t none = Unit {0}
keeps t (some u) = Kept true u t

step_keeps : (t : Tree) → keeps t (step t)
step_keeps t = go (step t) (step-steps t)
  where
    go : (x : Option Tree) → Steps t x → keeps t x
    go none ends = unfold keeps in tt
    go (some u) (goes k l) = unfold keeps in k
    go (some u) (last k o e) = unfold keeps in k

kept_step : (t u : Tree) → step t ≡ some u → Kept true u t
unfolding keeps
kept_step t u e = subst (keeps t) e (step_keeps t)

one_more : (k : ℕ) (m : Made) → added k (record { tree = m.tree; taken = suc m.taken; finished = m.finished }) ≡ added (k + 1) m
one_more k m = λ i. record { tree = m.tree; taken = count i; finished = m.finished }
  where
    count : k + suc m.taken ≡ k + 1 + m.taken
    count = omega arith

next-steps : (n : ℕ) (t u : Tree) → step t ≡ some u → steps (suc n) t ≡ record { tree = (steps n u).tree; taken = suc (steps n u).taken; finished = (steps n u).finished }
unfolding steps onward
next-steps n t u e = rw e refl

pub going_next : (b₀ : List ℕ) (n : ℕ) (b : List ℕ) (k : ℕ) → Going b₀ n b k → k < n → {at m : ℕ} {out : List ℕ} (x : Next b at m out) → Going b₀ n (front at b ++ front m out) (k + 1)
going_next b₀ n b k g l {at} {m} {out} x =
    let t = decode b in
    let u = x.tree in
    let kept = kept_step t u x.is in
    let s = g.simplifiable in
    let a : Accepted u = kept.still_accepted (λ x. s.fits) s.table.accepted in
    let back : decode (encode u) ≡ u = reads-back u a.listed in
    let left : n - k ≡ suc (n - (k + 1)) = omega arith in
    rw x.bytes (record {
      simplifiable = record { table = record { accepted = rw back a; back = ap encode back }; fits = rw back (kept.still_fits zeros s.fits) };
      within = omega arith;
      no_longer = omega (arith, length-encode u, length-encode t, ap length s.table.back, kept.no_more (λ x. s.fits) s.table.accepted, g.no_longer);
      same = g.same ∙ ap (λ j. added k (steps j t)) left ∙ ap (added k) (next-steps (n - (k + 1)) t u x.is) ∙ one_more k (steps (n - (k + 1)) u) ∙ ap (λ w. added (k + 1) (steps (n - (k + 1)) w)) (sym back);
    })

-- ---- the end

done : (n : ℕ) (t : Tree) → step t ≡ none → steps n t ≡ record { tree = t; taken = 0; finished = true }
unfolding steps onward is_none
done zero t e = λ i. record { tree = t; taken = 0; finished = is_none (e i) }
done (suc n) t e = rw e refl

used : (t u : Tree) → step t ≡ some u → steps 0 t ≡ record { tree = t; taken = 0; finished = false }
unfolding steps is_none
used t u e = λ i. record { tree = t; taken = 0; finished = is_none (e i) }

ends_by : (b₀ : List ℕ) (n : ℕ) (b : List ℕ) (k : ℕ) (finished : Bool) → Going b₀ n b k → steps (n - k) (decode b) ≡ record { tree = decode b; taken = 0; finished = finished } → Ends b₀ n b k finished
ends_by b₀ n b k finished g e =
    let m = g.same ∙ ap (added k) e in
    record { bytes = ap (λ x. encode x.tree) m ∙ g.simplifiable.table.back; taken = ap (λ x. x.taken) m ∙ add-zero k; ending = ap (λ x. x.finished) m }

none_of : (x : Option Tree) (b out : List ℕ) → Rewritten (also (λ u. u ▸ nil) x) b None out → x ≡ none
unfolding also Rewritten
none_of none b out w = refl
none_of (some u) b out w = absurd w

-- no rule fits
pub ends-finished : (b₀ : List ℕ) (n : ℕ) (b : List ℕ) (k : ℕ) (out : List ℕ) → Going b₀ n b k → Rewritten (stepped (decode b)) b None out → Ends b₀ n b k true
unfolding stepped
ends-finished b₀ n b k out g w = ends_by b₀ n b k true g (done (n - k) (decode b) (none_of (step (decode b)) b out w))

-- the allowance is used, and a rule fits
pub ends-spent : (b₀ : List ℕ) (n : ℕ) (b : List ℕ) (k : ℕ) → Going b₀ n b k → n ≤ k → {at m : ℕ} {out : List ℕ} → Next b at m out → Ends b₀ n b k false
ends-spent b₀ n b k g l x =
    let none_left : n - k ≡ 0 = omega arith in
    ends_by b₀ n b k false g (rw none_left (used (decode b) x.tree x.is))

-- the allowance is used: whether a rule fits is asked once more
pub ends-used : (b₀ : List ℕ) (n : ℕ) (b : List ℕ) (k : ℕ) (out : List ℕ) → Going b₀ n b k → n ≤ k → (next : Maybe Spot) → Rewritten (stepped (decode b)) b next out
    → (finished : Bool) → is_some next ≡ not finished → Ends b₀ n b k finished
ends-used b₀ n b k out g l None w true e = ends-finished b₀ n b k out g w
ends-used b₀ n b k out g l None w false e = absurd (subst T (sym e) tt)
ends-used b₀ n b k out g l (Some spot) w true e = absurd (subst T e tt)
ends-used b₀ n b k out g l (Some spot) w false e = ends-spent b₀ n b k g l (next-step b spot out w)

-- ---- on the table in the first bytes of a buffer

-- what a slice of a buffer's first bytes is
abbrev pub part : ℕ → List ℕ → List ℕ
part n work = take (n - 0) (drop 0 work)

-- k steps made the table in the first `long` bytes of work, whose facts are known, the last of them at record `at`
pub record Stage (b₀ : List ℕ) (n : ℕ) (work : List ℕ) (long k : ℕ) (facts : List Facts) (at : ℕ) : Type 0 where
  pub going : Going b₀ n (take long work) k
  pub room : long ≤ length work
  pub known : Surveyed (take long work) facts
  pub settled : Settled (take long work) facts at

-- a part of a buffer, ready to be surveyed
pub survey-ready : (work : List ℕ) (n facts : ℕ) → Simplifiable (take n work) → n ≤ length work → n ≤ record_length * facts → IsTable (part n work) × (record_count (part n work) ≤ facts)
survey-ready work n facts s l f =
    let long = length-take-le n work l in
    rw (part-to work n) (s.table, omega arith)

-- and ready for a step
pub step-ready : (work : List ℕ) (facts : List Facts) (n at out : ℕ) → Simplifiable (take n work) → n ≤ length work → Surveyed (take n work) facts → Settled (take n work) facts at → n ≤ out
    → let b = part n work in Simplifiable b × (Surveyed b facts × (Settled b facts at × (length b ≤ out)))
step-ready work facts n at out s l v q h =
    let long = length-take-le n work l in
    rw (part-to work n) (s, (v, (q, omega arith)))

-- before the first step every subtree ends behind record 0
pub none-settled : (b : List ℕ) (facts : List Facts) → Sized b facts → Settled b facts 0
none-settled b facts x j l o = absurd (omega (arith, o, extent-some b facts x j l))

pub stage_start : (work : List ℕ) (n long : ℕ) (facts : List Facts) → Simplifiable (take long work) → long ≤ length work → Surveyed (part long work) facts → Stage (take long work) n work long 0 facts 0
stage_start work n long facts s l v =
    let known : Surveyed (take long work) facts = rw (part-to work long) at v in
    record { going = going_start _ n s; room = l; known = known; settled = none-settled _ facts (sized _ facts known) }

module _ {b₀ : List ℕ} {n : ℕ} {work : List ℕ} {long k : ℕ} {facts : List Facts} {at : ℕ} (s : Stage b₀ n work long k facts at) where
  long-is : length (take long work) ≡ long
  long-is = length-take-le long work s.room

  pub stage-short : long ≤ length b₀
  stage-short = omega (arith, s.going.no_longer, long-is)

  -- the part, ready for a step
  pub stage-known : Surveyed (part long work) facts
  stage-known = rw (part-to work long) s.known

  pub stage-ready : Simplifiable (part long work) × Settled (part long work) facts at × (length (part long work) ≡ long)
  stage-ready = rw (part-to work long) (s.going.simplifiable, s.settled, long-is)

  -- no rule fits
  pub stage-finished : (out : List ℕ) → Rewritten (stepped (decode (part long work))) (part long work) None out → Ends b₀ n (take long work) k true
  stage-finished out w = ends-finished b₀ n (take long work) k out s.going (rw (part-to work long) at w)

  -- the allowance is used
  pub stage-used : (out : List ℕ) (next : Maybe Spot) → Rewritten (stepped (decode (part long work))) (part long work) next out → n ≤ k → (finished : Bool) → is_some next ≡ not finished
      → Ends b₀ n (take long work) n finished
  stage-used out next w l finished e =
      let all : k ≡ n = omega (arith, s.going.within) in
      subst (λ m. Ends b₀ n (take long work) m finished) all (ends-used b₀ n (take long work) k out s.going l next (rw (part-to work long) at w) finished e)

  -- a step at a spot
  module _ (spot : Spot) (out : List ℕ) (w : Rewritten (stepped (decode (part long work))) (part long work) (Some spot) out) where
    next_one : Next (take long work) spot.at spot.len out
    next_one = next-step _ spot out (rw (part-to work long) at w)

    -- the step leaves no more records
    pub stage-fewer : record_length * (spot.at + spot.len) ≤ long
    stage-fewer =
        let t = s.going.simplifiable in
        omega (arith, next_one.count, (kept_step _ _ next_one.is).no_more (λ x. t.fits) t.table.accepted, length-encode (decode (take long work)), ap length t.table.back, long-is)

    pub stage-next : k < n → Going b₀ n (front spot.at (take long work) ++ front spot.len out) (k + 1)
    stage-next l = going_next b₀ n (take long work) k s.going l next_one

    -- the allowance is used, and a rule fits
    pub stage-spent : n ≤ k → Ends b₀ n (take long work) k false
    stage-spent l = ends-spent b₀ n (take long work) k s.going l next_one

    pub stage-placed : Found (part long work) facts (Some spot) out → Placed (take long work) spot.at (spot.at + extent_at facts spot.at) spot.len out
    stage-placed f = rw (part-to work long) at f

    -- made
    pub stage_made : k < n → (new : List ℕ) (r : ℕ) (facts' : List Facts) → take r new ≡ front spot.at (take long work) ++ front spot.len out → r ≤ length new
        → Surveyed (take r new) facts' → Settled (take r new) facts' spot.at → Stage b₀ n new r (k + 1) facts' spot.at
    stage_made l new r facts' e o v q = record { going = going-as e (stage-next l); room = o; known = v; settled = q }

  -- by a loop's test
  pub stage-ends : (next : Maybe Spot) (out : List ℕ) → Rewritten (stepped (decode (part long work))) (part long work) next out → (is_some next && ltb k n) ≡ false
      → Ends b₀ n (take long work) k (not (is_some next))
  stage-ends None out w e = stage-finished out w
  stage-ends (Some spot) out w e = stage-spent spot out w (ltb-false k n e)

  -- and where it goes on
  pub stage-on : (next : Maybe Spot) → (is_some next && ltb k n) ≡ true → (next ≡ None → ⊥) × (k < n)
  stage-on None e = absurd (subst T (sym e) tt)
  stage-on (Some spot) e = (λ d. none-some _ (sym d), ltb-true k n e)

-- what holds in a turn of the loop
pub record Turn (b₀ : List ℕ) (n : ℕ) (work : List ℕ) (long k : ℕ) (facts : List Facts) (next : Maybe Spot) (out : List ℕ) : Type 0 where
  pub spot : Spot
  pub is : next ≡ Some spot
  pub more : k < n
  pub fewer : record_length * (spot.at + spot.len) ≤ long
  pub placed : Placed (take long work) spot.at (spot.at + extent_at facts spot.at) spot.len out
  pub going : Going b₀ n (front spot.at (take long work) ++ front spot.len out) (k + 1)

pub turn-of : {b₀ : List ℕ} {n : ℕ} {work : List ℕ} {long k : ℕ} {facts : List Facts} {at : ℕ} → Stage b₀ n work long k facts at → (next : Maybe Spot) (out : List ℕ)
    → Rewritten (stepped (decode (part long work))) (part long work) next out → Found (part long work) facts next out → (is_some next && ltb k n) ≡ true → Turn b₀ n work long k facts next out
turn-of s None out w f e = absurd (subst T (sym e) tt)
turn-of s (Some spot) out w f e =
    let (z, o) = stage-on s (Some spot) e in
    record { spot = spot; is = refl; more = o; fewer = stage-fewer s spot out w; placed = stage-placed s spot out w f; going = stage-next s spot out w o }
