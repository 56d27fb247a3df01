-- What the walk keeps from child to child, and what a node makes of its children.
use mathlib.Core.Path.{◌≡◌, refl, sym, ap, ◌∙◌, subst}
use mathlib.Core.List.{List}
use Prim.Native.Nat.{ℕ, suc, ◌*◌, ◌-◌, ◌<◌, ◌≤◌}
use native.Mathlib.Omega.{arith}
use lib.ListN.{drop, length, length-drop}
use Rattle.table.specs.Numbers.{most_records, record_length, whole_run}
use Rattle.table.specs.Table.{child_byte, first_node}
use Rattle.table.specs.Trees.{rest}
use Rattle.table.specs.declared.Kind.{Kind}
use Rattle.table.specs.declared.Kind.TheVariants.{Block}
use Rattle.table.specs.declared.Number.{Number}
use Rattle.table.specs.declared.Limit.{Limit}
use Rattle.std.specs.Prelude.{IfSome, None, Option, Some}
use Rattle.lists.specs.declared.List.{List as Listed}
use Rattle.lists.specs.Pairs.{ever}
use Rattle.lists.specs.Reading.{Is}
use Rattle.evaluate.specs.declared.Valued.{Valued}
use Rattle.evaluate.specs.Evaluate.{Values, no_branch}
use Rattle.evaluate.specs.Evaluator.{Found, and_then, checked, evaluate_below, evaluate_more, evaluate_node, found, gone_round, limited, time_pairs, unfit}
use Rattle.evaluate.specs.Shown.{Limitable, Ready, Shows, answered_in, evaluate_children, found_in, with_next}
use Rattle.evaluate.proofs.Laws.Sane.{Below, Sane, below-block, sane, sane-is-below, sane-more, sane-next, sane-none, sane-where}
use Rattle.evaluate.proofs.Laws.Shown.{answered-is, found-shown, limitable-shown, ready-shown, sane-ready, then-shown, then-unfit}
use Rattle.walking.proofs.Steps.{below_other, more-done, more-next, node-read}

-- ---- children

-- n children, numbers i and on, are left after those of the answer r, as children of a node of kind k, and give the whole e
pub record Walked (v : Values) (h : ℕ) (b : List ℕ) (e : Found) (k : Kind) (i n : ℕ) (r : Valued) (a : Listed) : Type 0 where
  pub ready : Ready r a
  pub short : record_length * r.records ≤ length b
  pub left : evaluate_more v (evaluate_node v h) k i n b (found_in r a) ≡ e

module _ {v : Values} {h : ℕ} {b : List ℕ} (long : length b ≤ record_length * most_records) where
  pub none_yet : (k : Kind) (n : ℕ) {m : ℕ} → m ≡ n → {a : Listed} → Is a (ever 0) → Walked v h b (evaluate_children v h k n b) k 0 m (record { named = whole_run; records = 0; branch = 0 }) a
  none_yet k n e q = record {
    ready = ready-shown long (sane-none b) (found-shown q refl);
    short = omega arith;
    left = rw e (ap (λ p. evaluate_more v (evaluate_node v h) k 0 n b (found p whole_run 0 0)) q.pairs);
  }

  -- the next child
  module _ {e : Found} {k : Kind} {i n : ℕ} {r : Valued} {a : Listed} (q : Walked v h b e k i n r a) (p : 0 < n) where
    more : Found → Found
    more = evaluate_more v (evaluate_node v h) (rest k) (suc i) (n - 1) b

    taken : Found
    taken = with_next v k i (found_in r a) (evaluate_node v h (drop (record_length * r.records) b))

    whole : and_then taken more ≡ e
    unfolding more taken
    whole = sym (more-next v (evaluate_node v h) k i n b (found_in r a) p) ∙ q.left

    sane-taken : Sane b taken
    unfolding taken with_next
    sane-taken =
        let c = evaluate_node v h (drop (record_length * r.records) b) in
        sane-where b c.fits _ (λ x. sane-where b (gone_round v k c).fits _ (λ y. sane-next v k i b (found_in r a) c (sane-ready q.short q.ready) (sane v h _)))

    -- answered as c with the list l, and t with the list a' when it is taken
    module _ (c : Option Valued) (l : Listed) (child : Shows c l (evaluate_node v h (drop (record_length * r.records) b))) where
      is-taken : with_next v k i (found_in r a) (answered_in c l) ≡ taken
      unfolding taken
      is-taken = ap (with_next v k i (found_in r a)) (answered-is c l child)

      pub next_fits : {t : Valued} {a' : Listed} {j m : ℕ} → Shows (Some t) a' (with_next v k i (found_in r a) (answered_in c l)) → j ≡ suc i → m ≡ n - 1 → Walked v h b e (rest k) j m t a'
      unfolding more
      next_fits {t} {a'} next y z =
          let s = subst (Shows (Some t) a') is-taken next in
          record {
            ready = ready-shown long sane-taken s;
            short = (subst (Sane b) s.1 sane-taken).short;
            left = rw (y, z) (sym (then-shown s more) ∙ whole);
          }

      pub next-ends : with_next v k i (found_in r a) (answered_in c l) ≡ unfit → e ≡ unfit
      next-ends x = sym whole ∙ then-unfit (sym is-taken ∙ x) more

  pub all_done : {e : Found} {k : Kind} {i n : ℕ} {r : Valued} {a : Listed} → Walked v h b e k i n r a → n ≡ 0 → Shows (Some r) a e
  all_done {k = k} {i = i} {n = n} {r = r} {a = a} q z = (q.ready.proper, sym (sym (more-done v (evaluate_node v h) k i n b (found_in r a) z) ∙ q.left))

-- what the steps may rely on of a child
pub child-ready : (v : Values) (h m : ℕ) (b : List ℕ) (c : Option Valued) (l : Listed) → length b ≤ record_length * most_records → Shows c l (evaluate_node v h (drop m b)) → IfSome c (λ c. Ready c l)
child-ready v h m b None l long s = tt
child-ready v h m b (Some c) l long s = ready-shown (omega (arith, length-drop m b)) (sane v h (drop m b)) s

-- ---- a node

-- what its limit may rely on of what is below it
limitable : {b : List ℕ} {e : Found} (r : Option Valued) (a : Listed) → length b ≤ record_length * most_records → Below b e → Shows r a e → IfSome r (λ r. Limitable r a)
limitable None a long q s = tt
limitable (Some r) a long q s = limitable-shown long q s

pub block-limitable : (v : Values) (t : Number) (b : List ℕ) (r : Option Valued) (a : Listed) → length b ≤ record_length * most_records → Shows r a (checked (time_pairs v t) whole_run 0 no_branch) → IfSome r (λ r. Limitable r a)
block-limitable v t b r a long = limitable r a long (below-block v t b)

pub children-limitable : (v : Values) (h : ℕ) (k : Kind) (n m : ℕ) (b : List ℕ) (r : Option Valued) (a : Listed) → length b ≤ record_length * most_records → Shows r a (evaluate_children v h k n (drop m b)) → IfSome r (λ r. Limitable r a)
children-limitable v h k n m b r a long =
    let c = drop m b in
    limitable r a (omega (arith, length-drop m b)) (sane-is-below c _ (sane-more v (evaluate_node v h) (sane v h) k 0 n c _ (sane-none c)))

-- the node at the front of b, of kind k and limit l, which limits what the answer r found below it
module _ (v : Values) (h : ℕ) (b : List ℕ) {k : Kind} {l : Limit} (its-kind : k ≡ (first_node b).kind) (its-limit : l ≡ (first_node b).limit) (deep : h ≡ 0 → ⊥) (long : record_length ≤ length b)
    (r t : Option Valued) (a c : Listed) (shown : Shows t c (and_then (answered_in r a) (limited v l))) where
  by-below : Shows r a (evaluate_below v (evaluate_node v (h - 1)) k (child_byte b) (drop record_length b)) → Shows t c (evaluate_node v h b)
  by-below s =
      let found = ap (λ e. and_then e (limited v l)) (answered-is r a s) in
      subst (Shows t c) (found ∙ sym (rw (← its-kind, ← its-limit) at (node-read v h b deep long))) shown

  pub block-shown : (time : Number) → k ≡ Block time → Shows r a (checked (time_pairs v time) whole_run 0 no_branch) → Shows t c (evaluate_node v h b)
  unfolding evaluate_below
  block-shown time i s = by-below (rw i s)

  pub children-shown : (m : ℕ) → m ≡ child_byte b → ((time : Number) → k ≡ Block time → ⊥) → Shows r a (evaluate_children v (h - 1) k m (drop record_length b)) → Shows t c (evaluate_node v h b)
  children-shown m q o s = by-below (rw (← q, ← below_other v (evaluate_node v (h - 1)) k m (drop record_length b) o) s)
