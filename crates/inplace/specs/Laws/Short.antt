-- Sums and unions with a short list: one value for ever, or one run and 0 after.
use Rattle.std.proofs.Common.{◌∙◌, ap, arith}
use Rattle.std.specs.Prelude.{◌≡◌, refl, Bool, cond, true, ◌+◌, ◌-◌, ◌<◌, ◌≤◌, suc, zero, ℕ, leb}
use Rattle.std.proofs.Math.Path.{sym}
use Rattle.std.proofs.Math.Bool.{false}
use borrow.Author.Tests.{le-leb, leb-false, leb-true}
use Rattle.lists.specs.Operations.{add_pairs, count, lead, merge_pairs, shorter, skip}
use Rattle.lists.specs.Pairs.{Canonical, Pairs, ever, expand, places, run, top, width}
use Rattle.lists.specs.Laws.Add.{add-facts, add_step, add-stop, skip_is, sum-unique}
use Rattle.lists.specs.Laws.Expand.{ever-first, expand-falls, lead-run}
use Rattle.lists.specs.Laws.MergeLaws.{merge-zero}
use Rattle.lists.specs.Laws.Union.{Merged, both_runs, expand-ever, flip, front-run, merge-facts, merge-unique, over-ever}

-- one value for ever, and a run with 0 after
ever-canonical : (v : ℕ) → Canonical (ever v)
unfolding Canonical
ever-canonical v = tt

pub run-canonical : (v m : ℕ) → 0 < v → 0 < m → Canonical (run v m (ever 0))
unfolding Canonical top
run-canonical v m h k = (k, h, tt)

-- ---- sums

pub add-zeros : (r : Pairs) → Canonical r → add_pairs r (ever 0) ≡ r
unfolding top width places
add-zeros r h =
    sum-unique r (ever 0) _ _ (add-facts r (ever 0) h (ever-canonical 0))
    (record { sums = λ P. omega (arith, ever-first 0 P); canonical = h; head = omega arith; thin = omega arith; few = omega arith })

-- a run that the other list's first pair outlasts, or as long
shorter-ever : (c : ℕ) → c ≡ shorter c 0
unfolding shorter
shorter-ever zero = refl
shorter-ever (suc c) = refl

shorter-left : (c d : ℕ) → 0 < c → c ≤ d → c ≡ shorter c d
unfolding shorter
shorter-left zero d h l = absurd (omega arith)
shorter-left (suc c) zero h l = absurd (omega arith)
shorter-left (suc c) (suc d) h l = omega arith

shorter-right : (c d : ℕ) → 0 < d → (0 < c → d ≤ c) → d ≡ shorter c d
unfolding shorter
shorter-right zero d h l = refl
shorter-right (suc c) zero h l = absurd (omega arith)
shorter-right (suc c) (suc d) h l = let k : suc d ≤ suc c = l (omega arith) in omega arith

skip_all : (v c : ℕ) (r : Pairs) → skip c (run v c r) ≡ r
unfolding skip
skip_all v c r = rw (le-leb c c (omega arith)) refl

pub add-evers : (w v : ℕ) → add_pairs (ever w) (ever v) ≡ ever (w + v)
unfolding Canonical top count shorter
add-evers w v = add-stop (ever w) (ever v) tt tt refl

pub add-ever : (v w c : ℕ) (r : Pairs) → Canonical (run w c r) → add_pairs (run w c r) (ever v) ≡ run (w + v) c (add_pairs r (ever v))
unfolding Canonical top count skip
add-ever v w c r h =
    add_step c (run w c r) (ever v) h tt (shorter-ever c) h.0 ∙ ap (λ s. run (w + v) c (add_pairs s (ever v))) (skip_all w c r)

-- what is left of a run of m after c
skip-run : (v m c : ℕ) → c ≤ m → skip c (run v m (ever 0)) ≡ lead v (m - c) (ever 0)
unfolding skip
skip-run v m c l = go (leb m c) refl
  where
    go : (b : Bool) → leb m c ≡ b → cond b (ever 0) (run v (m - c) (ever 0)) ≡ lead v (m - c) (ever 0)
    go true e = let z : m - c ≡ 0 = omega (arith, leb-true m c e) in rw z (unfold lead in refl)
    go false e = sym (lead-run v (m - c) (ever 0) (omega (arith, leb-false m c e)))

pub add-run : (v m w c : ℕ) (r : Pairs) → 0 < v → c ≤ m → Canonical (run w c r) → add_pairs (run w c r) (run v m (ever 0)) ≡ run (w + v) c (add_pairs r (lead v (m - c) (ever 0)))
unfolding Canonical top count
add-run v m w c r p l h =
    let k : 0 < m = omega (arith, h.0) in
    add_step c (run w c r) (run v m (ever 0)) h (run-canonical v m p k) (shorter-left c m h.0 l) h.0
    ∙ rw (skip_all w c r, skip-run v m c l) refl

-- the first pair is for ever, or outlasts the run
pub add-within : (v m : ℕ) (r : Pairs) → 0 < v → 0 < m → (0 < count r → m ≤ count r) → Canonical r → add_pairs r (run v m (ever 0)) ≡ run (top r + v) m (skip m r)
unfolding top
add-within v m r p k l h =
    add_step m r (run v m (ever 0)) h (run-canonical v m p k) (unfold count in shorter-right (count r) m k l) k
    ∙ rw (skip_all v m (ever 0)) (ap (run (top r + v) m) (add-zeros (skip m r) (skip_is m r h k l).canonical))

-- ---- unions

with-zeros : (r : Pairs) → Canonical r → Merged r (ever 0) r
unfolding top width places
with-zeros r h = record {
  members = sym (rw (expand-ever 0) (merge-zero (expand r) (expand-falls r h)));
  canonical = h;
  head = omega arith;
  thin = omega arith;
  few = omega arith;
}

-- a run above the other list
pub merge-run : (w c : ℕ) (r s : Pairs) → Canonical (run w c r) → Canonical s → top s < w → merge_pairs (run w c r) s ≡ run w c (merge_pairs r s)
unfolding Canonical
merge-run w c r s h k l = merge-unique _ _ _ _ (merge-facts (run w c r) s h k) (front-run w c r s _ h k l (merge-facts r s h.2 k))

-- a value for ever, none below the other list
pub merge-over : (w : ℕ) (s : Pairs) → Canonical s → top s ≤ w → merge_pairs (ever w) s ≡ ever w
unfolding top count
merge-over w s k l = merge-unique _ _ _ _ (merge-facts (ever w) s (ever-canonical w) k) (over-ever (ever w) s (ever-canonical w) k refl l)

pub merge-ever : (r : Pairs) (v : ℕ) → Canonical r → top r ≤ v → merge_pairs r (ever v) ≡ ever v
unfolding top count
merge-ever r v h l =
    merge-unique _ _ _ _ (merge-facts r (ever v) h (ever-canonical v)) (flip (ever v) r _ (ever-canonical v) h (over-ever (ever v) r (ever-canonical v) h refl l))

pub merge-first : (v m : ℕ) (r : Pairs) → Canonical r → 0 < v → 0 < m → top r < v → merge_pairs r (run v m (ever 0)) ≡ run v m r
merge-first v m r h p k l =
    let c = run-canonical v m p k in
    merge-unique _ _ _ _ (merge-facts r (run v m (ever 0)) h c)
    (flip (run v m (ever 0)) r _ c h (front-run v m (ever 0) r r c h l (flip r (ever 0) r h (ever-canonical 0) (with-zeros r h))))

pub merge-same : (v m c : ℕ) (r : Pairs) → Canonical (run v c r) → 0 < v → 0 < m → merge_pairs (run v c r) (run v m (ever 0)) ≡ run v (c + m) r
unfolding Canonical
merge-same v m c r h p k =
    merge-unique _ _ _ _ (merge-facts (run v c r) (run v m (ever 0)) h (run-canonical v m p k)) (both_runs v c m r (ever 0) r h (run-canonical v m p k) (with-zeros r h.2))
