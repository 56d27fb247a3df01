-- What answers show, and what the next step may rely on.
use Rattle.std.specs.Prelude.{◌≡◌, refl, cond, List, None, Option, Some, ℕ, suc, false, true, ◌*◌, ◌^◌, ◌<◌, ◌≤◌, T, length, replicate}
use Rattle.std.proofs.Math.Path.{sym}
use Rattle.std.proofs.Common.{ap, ◌∙◌, subst, mul-le-mul, arith}
use Rattle.std.proofs.lemmas.List.{length-replicate}
use Rattle.table.specs.Numbers.{most_count, most_records, most_time, record_length}
use Rattle.lists.specs.declared.List.{List as Listed}
use Rattle.lists.specs.Pairs.{Pairs, top, width}
use Rattle.lists.specs.Reading.{Is, Proper, pairs_of, value_at}
use Rattle.lists.proofs.Suffix.{len_is, suffix-top, suffix-whole}
use Rattle.evaluate.specs.declared.Valued.{Valued}
use Rattle.evaluate.specs.Nodes.{Kind}
use Rattle.evaluate.specs.Evaluate.{Values}
use Rattle.evaluate.specs.Evaluator.{Found, and_then, found, gone_round, joined, unfit}
use Rattle.evaluate.specs.Shown.{Limitable, Ready, Shows, answered_in, found_in, with_next}
use Rattle.evaluate.proofs.Laws.Sane.{Below, Sane}

-- ---- lists

-- a list has one pair more than it has falls, and its first value stands in front
pub len-width : {a : Listed} → Proper a → a.len ≡ suc (width (pairs_of a))
len-width {a} p = len_is a p

pub first-top : {a : Listed} → Proper a → top (pairs_of a) ≡ value_at a.pairs 0
first-top {a} p = ap top (sym (suffix-whole a)) ∙ suffix-top a 0 (omega (arith, p.some))

-- ---- answers

pub found-shown : {r : Valued} {a : Listed} {p : Pairs} {e : Found} → Is a p → e ≡ found p r.named r.records r.branch → Shows (Some r) a e
found-shown {r} h e = (h.proper, e ∙ ap (λ p. found p r.named r.records r.branch) (sym h.pairs))

-- the list of an answer
pub list-shown : {a : Listed} {k n c : ℕ} {e : Found} → Proper a × (e ≡ found (pairs_of a) k n c) → Is a e.pairs
list-shown s = record { proper = s.0; pairs = sym (ap (λ c. c.pairs) s.1) }

-- that there is one where question 10 says yes
pub shown-fits : (r : Option Valued) (a : Listed) (e : Found) → Shows r a e → e.fits ≡ true → Is a e.pairs
shown-fits None a e s f = absurd (subst T (sym f ∙ ap (λ c. c.fits) s) tt)
shown-fits (Some r) a e s f = list-shown s

-- that nothing is found
pub unfit-shown : (a : Listed) {e : Found} → e ≡ unfit → Shows None a e
unfit-shown a e = e

-- where it fits, an answer is what it shows
pub shown-is : {r : Valued} {a : Listed} {e : Found} → Shows (Some r) a e → found_in r a ≡ e
shown-is s = sym s.1

-- and so it is where it may be None
pub answered-is : (r : Option Valued) (a : Listed) {e : Found} → Shows r a e → answered_in r a ≡ e
answered-is None a s = sym s
answered-is (Some r) a s = shown-is s

-- what comes next after what is found
pub then-shown : {r : Valued} {a : Listed} {e : Found} → Shows (Some r) a e → (f : Found → Found) → and_then e f ≡ f (found_in r a)
then-shown s f = ap (λ c. and_then c f) s.1

-- and after what is not
pub then-unfit : {e : Found} → e ≡ unfit → (f : Found → Found) → and_then e f ≡ unfit
then-unfit s f = ap (λ c. and_then c f) s

-- ---- the next child

pub then-fits : (c : Found) (f : Found → Found) → c.fits ≡ true → and_then c f ≡ f c
then-fits c f e = ap (λ t. cond t (f c) unfit) e

module _ (v : Values) (k : Kind) (i : ℕ) (s c : Found) where
  pub next-unfit : c.fits ≡ false → with_next v k i s c ≡ unfit
  unfolding with_next
  next-unfit e = rw e refl

  -- t, with its list a, is what is left of it when it has gone round
  module _ (fits : c.fits ≡ true) where
    pub next-unfit-round : (gone_round v k c).fits ≡ false → with_next v k i s c ≡ unfit
    unfolding with_next
    next-unfit-round e = then-fits c (λ c. and_then (gone_round v k c) (joined k i s)) fits ∙ ap (λ t. cond t (joined k i s (gone_round v k c)) unfit) e

    pub next-joined : {t : Valued} {a : Listed} → Shows (Some t) a (gone_round v k c) → with_next v k i s c ≡ joined k i s (found_in t a)
    unfolding with_next
    next-joined shows = then-fits c (λ c. and_then (gone_round v k c) (joined k i s)) fits ∙ then-shown shows (joined k i s)

-- ---- answers in range

pub ready-shown : {b : List ℕ} {r : Valued} {a : Listed} {e : Found} → length b ≤ record_length * most_records → Sane b e → Shows (Some r) a e → Ready r a
ready-shown {b} l q s =
    let w = subst (Sane b) s.1 q in
    record { proper = s.0; low = w.low; near = w.near; few = omega (arith, w.short, l) }

pub limitable-shown : {b : List ℕ} {r : Valued} {a : Listed} {e : Found} → length b ≤ record_length * most_records → Below b e → Shows (Some r) a e → Limitable r a
limitable-shown {b} l q s = record { proper = s.0; few = omega (arith, (subst (Below b) s.1 q).short, l) }

pub itself-shown : {r : Valued} {a : Listed} → Ready r a → Shows (Some r) a (found_in r a)
itself-shown h = (h.proper, refl)

pub sane-ready : {b : List ℕ} {r : Valued} {a : Listed} → record_length * r.records ≤ length b → Ready r a → Sane b (found_in r a)
sane-ready l h = record { canonical = h.proper.canonical; low = h.low; thin = omega (arith, len-width h.proper, h.proper.room); near = h.near; short = l }

pub product-fits : (n t : ℕ) → n ≤ most_count → t ≤ most_time → n * t < 2 ^ 64
product-fits n t l m = omega (arith, mul-le-mul l m)

-- a table as long as any, for what is said of none in particular
pub longest : List ℕ
longest = replicate (record_length * most_records) 0

pub longest-is : length longest ≡ record_length * most_records
unfolding longest
longest-is = length-replicate {A = ℕ} (record_length * most_records) 0
