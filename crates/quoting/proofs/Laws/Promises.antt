-- The figure call keeps demand 2's promises.
use Rattle.std.specs.Prelude.{◌≡◌, refl, List, ℕ, ◌*◌, suc, T, length, take}
use Rattle.std.proofs.Common.{ap, sym, subst, ◌∙◌, arith}
use Rattle.std.proofs.Math.Dec.{eqb_refl}
use Rattle.refusals.specs.Refusals.{Answer, Refused, refused}
use Rattle.table.specs.Limits.{every_most}
use Rattle.table.specs.Trees.{Tree}
use Rattle.table.specs.Bytes.{AreBytes}
use Rattle.table.specs.Table.{decode}
use Rattle.table.specs.declared.Most.{Most}
use Rattle.table.proofs.Laws.Limits.{limits-follow}
use Rattle.triangular.specs.Triangular.{rule}
use Rattle.table.specs.Questions.{Accepted}
use Rattle.table.proofs.Laws.Accepted.{is-table}
use Rattle.table.proofs.Laws.Asking.{by-refusals}
use Rattle.evaluate.specs.Evaluate.{Values, values_of, figure}
use Rattle.lists.specs.Pairs.{Pairs, ever, numbers, run, width}
use Rattle.evaluate.specs.ListPairs.{list_pairs}
use Rattle.evaluate.proofs.Laws.ListPairs.{list-pairs}
use Rattle.runs.proofs.Laws.Covered.{covered}
use Rattle.runs.proofs.Laws.Reached.{reached}
use Rattle.quoting.specs.declared.Quote.{Quote}
use Rattle.writing.specs.Over.{over}
use Rattle.quoting.specs.Answers.{figure_answer, list_answer, list_refusal, list_writes, quoted_figure}
use Rattle.quoting.specs.Branches.{BranchPromises}
use Rattle.quoting.specs.Promises.{ListPromises, NeverLowered, Promised, Promises, by_rule}
use Rattle.values.specs.Values.{question14, triangle_small}
use Rattle.writing.specs.Laws.Over.{front-over}
use Rattle.quoting.proofs.Laws.Branches.{branch-of}
use Rattle.quoting.proofs.Laws.Figures.{figure-monotone, figured}
use Rattle.values.proofs.Laws.Values.{later-own, small-rule, thirteen-limits, values-fourteen, values-thirteen}
use Rattle.quoting.proofs.Laws.Evaluated.{Lists}

small-ruled : (v : Values) (m : Most) → T (triangle_small v m) → T (by_rule v m)
unfolding by_rule
small-ruled v (Most.Plain n) h = tt
small-ruled v (Most.Symbol s) h = tt
small-ruled v (Most.Triangular s) h = rw (small-rule v s h) (eqb_refl (rule (v s)))

figure-promised : (vs : List ℕ) (t : Tree) → let v = values_of vs in Accepted t → T (every_most (triangle_small v) t) → T (question14 vs) → Promised v t (figure v t)
figure-promised vs t a h l =
    let v = values_of vs in record {
      covered = covered v t;
      reached = λ f. reached v t f a.listed;
      ruled = limits-follow _ _ (λ k m. small-ruled v m) t h;
      laters = later-own vs l;
    }

pub figure-promises : (b vs : List ℕ) → AreBytes b → Promises b vs (figure_answer b vs)
unfolding Promises
figure-promises b vs h = λ p.
    let f = figured b vs p in
    let i = is-table b h f.accepted in
    let small = subst T (thirteen-limits b vs i) (values-thirteen b vs f.allowed) in
    subst (Promised (values_of vs) (decode b)) (sym f.is) (figure-promised vs (decode b) i.accepted small (values-fourteen b vs f.allowed))

pub branch-promises : (b vs : List ℕ) → AreBytes b → BranchPromises b vs (figure_answer b vs)
unfolding BranchPromises
branch-promises b vs h = λ p.
    let f = figured b vs p in
    rw (f.is, f.branches) (branch-of (values_of vs) (decode b) (is-table b h f.accepted).accepted.listed)

-- an answer that is the figure call's keeps them too, and values none lower never lower it
pub kept : (b vs : List ℕ) → AreBytes b → (r : Answer Quote) → r ≡ figure_answer b vs
    → (r ≡ figure_answer b vs) × (Promises b vs r × (BranchPromises b vs r × (refused r ≡ 0 → NeverLowered b vs (quoted_figure r))))
unfolding NeverLowered
kept b vs h r e = (
  e,
  (subst (Promises b vs) (sym e) (figure-promises b vs h), (subst (BranchPromises b vs) (sym e) (branch-promises b vs h), λ p w l q. rw e (figure-monotone b vs w l (ap refused (sym e) ∙ p) q))),
)

-- ---- the list call

long-numbers : (p : Pairs) → length (numbers p) ≡ 2 * suc (width p)
unfolding numbers width
long-numbers (ever v) = refl
long-numbers (run v c p) = omega (arith, long-numbers p)

take-numbers : (p : Pairs) (out : List ℕ) → take (2 * suc (width p)) (over (numbers p) out) ≡ numbers p
take-numbers p out = front-over (numbers p) out (2 * suc (width p)) (long-numbers p)

-- an answer that is the list call's, with its buffer, keeps them
pub list-kept : (b vs out : List ℕ) {r : Answer ℕ} {x : List ℕ} → Lists b vs out r x → (r ≡ list_answer b vs out) × ((x ≡ over (list_writes b vs out) out) × ListPromises b vs r x)
unfolding list_answer list_writes ListPromises
list-kept b vs out (e, w) = (e, (w, rw (e, w) kept_by))
  where
    p : Pairs
    p = list_pairs (values_of vs) (decode b)

    kept_by : ListPromises b vs (list_answer b vs out) (over (list_writes b vs out) out)
    kept_by =
        by-refusals (λ r y. ListPromises b vs r (over y out)) (list_refusal b vs out) _ Refused _ _
        (λ n z. record { pairs = p; are = list-pairs (values_of vs) (decode b); many = refl; written = take-numbers p out })
        (λ n z. absurd (n z))
