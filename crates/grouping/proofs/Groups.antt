-- The turns of a loop's groups.
use mathlib.Core.Path.{◌∙◌, ◌≡◌, ap, refl, sym}
use mathlib.Core.Bool.{Bool, cond, false, true}
use mathlib.Core.List.{List}
use Prim.Native.Nat.{◌%◌, ◌*◌, ◌+◌, ◌-◌, ◌/◌, ◌<◌, ◌^◌, ◌≤◌, suc, ℕ}
use native.Mathlib.Nat.{mod-lt, mul-le-mul_left}
use native.Mathlib.Numerals.{add-one}
use native.Mathlib.Omega.{arith}
use lib.Dec.{eqb, ltb}
use lib.ListN.{length}
use borrow.Author.Tests.{eqb-false, ltb-true}
use Rattle.lists.specs.declared.List.{List as Listed}
use Rattle.lists.specs.declared.Turn.{Turn}
use Rattle.lists.specs.Pairs.{top}
use Rattle.lists.specs.Operations.{group_from, some, turn_of}
use Rattle.lists.specs.Laws.Add.{positive}
use Rattle.lists.specs.Laws.Group.{group-facts, some-le-one, some_one}
use Rattle.grouping.specs.Steps.{Turns}
use Rattle.lists.specs.Reading.{Groupable, Is, count_at, list_in, most_pairs, pairs_of, runs_then, stored, value_at}
use Rattle.lists.proofs.Stored.{length-stored, put_last, put-once, put_some}
use Rattle.lists.proofs.Suffix.{len_is, more, suffix, suffix-ever, suffix-inner, suffix-whole, value_low}

-- ---- one run

-- what a run leaves, where all values are at most w
record Uses (n m w : ℕ) (t : Turn) : Type 0 where
  begun : t.held < n
  one : t.ends ≤ 1
  few : t.ends + some t.times + some t.held ≤ 2 + some m
  low : t.sum ≤ t.held * w

turn-uses : (n m a v c w : ℕ) → m < n → a ≤ m * w → v ≤ w → Uses n m w (turn_of n m a v c)
unfolding turn_of some
turn-uses n m a v c w l h k = go (eqb m 0) refl (ltb c (n - m)) refl
  where
    rem : (x : ℕ) → x % n < n
    rem x = mod-lt x (omega arith)

    go : (b : Bool) → eqb m 0 ≡ b → (d : Bool) → ltb c (n - m) ≡ d
        → Uses n m w (cond b (record { mixed = 0; ends = 0; times = c / n; held = c % n; sum = c % n * v })
        (cond d (record { mixed = 0; ends = 0; times = 0; held = m + c; sum = a + c * v })
        (record { mixed = a + (n - m) * v; ends = 1; times = (c - (n - m)) / n; held = (c - (n - m)) % n; sum = (c - (n - m)) % n * v })))
    go true e d q = record {
      begun = rem c;
      one = omega arith;
      few = omega (arith, some-le-one (c / n), some-le-one (c % n));
      low = mul-le-mul_left (c % n) k;
    }
    go false e true q =
        let z : some 0 ≡ 0 = refl in
        record {
          begun = omega (arith, ltb-true c (n - m) q);
          one = omega arith;
          few = omega (arith, some-le-one (m + c), z);
          low = omega (arith, mul-le-mul_left c k);
        }
    go false e false q = record {
      begun = rem (c - (n - m));
      one = omega arith;
      few = omega (arith, some-le-one ((c - (n - m)) / n), some-le-one ((c - (n - m)) % n), some_one m (positive m (eqb-false m 0 e)));
      low = mul-le-mul_left ((c - (n - m)) % n) k;
    }

-- ---- the loop

-- o pairs are stored, and the rest is the groups of the list from pair k on, where a group is begun; c is the next count
pub record Grouping (n : ℕ) (a : Listed) (out : List ℕ) (o k held sum c : ℕ) : Type 0 where
  pub asked : Groupable a n
  pub inside : k < a.len
  pub next : c ≡ count_at a.pairs k
  pub begun : held < n
  pub low : sum ≤ held * top (pairs_of a)
  pub few : o + some held ≤ 2 * k
  pub room : 2 * a.len ≤ suc most_pairs
  pub long : length out ≡ 2 * most_pairs
  pub made : runs_then out 0 o (group_from n held sum (suffix a k)) ≡ group_from n 0 0 (pairs_of a)

pub group-start : {n : ℕ} {a : Listed} {out : List ℕ} {c : ℕ} → Groupable a n → 0 < n → length out ≡ 2 * most_pairs → c ≡ count_at a.pairs 0 → Grouping n a out 0 0 0 0 c
unfolding runs_then some
group-start {n} {a} q s l e = record {
  asked = q;
  inside = q.list.some;
  next = e;
  begun = s;
  low = omega arith;
  few = omega arith;
  room = omega (arith, len_is a q.list, q.narrow);
  long = l;
  made = ap (group_from n 0 0) (suffix-whole a);
}

module _ {n : ℕ} {a : Listed} {out : List ℕ} {o k held sum c : ℕ} (v : Grouping n a out o k held sum c) where
  q : Groupable a n
  q = v.asked

  low : {w : ℕ} → w ≡ value_at a.pairs k → w ≤ top (pairs_of a)
  low e = rw e (value_low a q.list k v.inside)

  pub group-fits : {w : ℕ} → w ≡ value_at a.pairs k → Turns n held sum w
  group-fits g =
      let j : ℕ = n - held in
      let t : ℕ = top (pairs_of a) in
      let e : (held + j) * t ≡ n * t = ap (λ x. x * t) (omega (arith, v.begun)) in
      record { begun = v.begun; fits = omega (arith, v.low, q.low, mul-le-mul_left j (low g)); whole = omega (arith, q.low, mul-le-mul_left n (low g)) }

  -- what a turn stores and leaves: the group that was begun, if it ends, and whole groups, if there are any
  pub record Stepped (w : ℕ) (t : Turn) : Type 0 where
    pub inner : suc k < a.len
    pub whole : n * w < 2 ^ 64
    pub room : o + t.ends + some t.times < most_pairs
    pub again : {s d : ℕ} → s ≡ some t.times → d ≡ count_at a.pairs (k + 1)
        → Grouping n a (stored (stored out o t.mixed 1) (o + t.ends) (n * w) t.times) (o + t.ends + s) (k + 1) t.held t.sum d

  pub group-step : {w : ℕ} {t : Turn} → 0 < c → w ≡ value_at a.pairs k → t ≡ turn_of n held sum w c → Stepped w t
  unfolding group_from
  group-step {w} {t} l g e =
      let i : suc k < a.len = more a q.list k v.inside (rw v.next at l) in
      let u : Uses n held (top (pairs_of a)) t = rw e (turn-uses n held sum w c _ v.begun v.low (low g)) in
      let z : length (stored out o t.mixed 1) ≡ 2 * most_pairs = length-stored out o t.mixed 1 ∙ v.long in
      record {
        inner = i;
        whole = (group-fits g).whole;
        room = omega (arith, u.few, v.few, v.room);
        again = λ {s} {d} f h. record {
          asked = q;
          inside = omega arith;
          next = h;
          begun = u.begun;
          low = u.low;
          few = omega (arith, u.few, v.few);
          room = v.room;
          long = length-stored _ (o + t.ends) (n * w) t.times ∙ z;
          made = rw (f, add-one k)
              (put_some _ (o + t.ends) (n * w) t.times _ (omega (arith, u.few, v.few, v.room)) z
              ∙ put-once out o t.mixed t.ends _ u.one (omega (arith, v.few, v.room)) v.long
              ∙ rw (suffix-inner a k i, ← v.next, ← g, ← e) at v.made);
        };
      }

  pub group-last : {w s : ℕ} → c ≡ 0 → w ≡ value_at a.pairs k → s ≡ some held
      → Is (list_in (stored (stored out o (sum + (n - held) * w) 1) (o + s) (n * w) 0) (o + s + 1)) (group_from n 0 0 (pairs_of a))
  unfolding group_from
  group-last {w} e g f =
      let x : ℕ = sum + (n - held) * w in
      rw f
      (put_last (stored out o x 1) (o + some held) (n * w) _ (omega (arith, v.few, v.inside, v.room)) (length-stored out o x 1 ∙ v.long)
      (put-once out o x (some held) _ (some-le-one held) (omega (arith, v.few, v.inside, v.room)) v.long
      ∙ rw (suffix-ever a q.list k v.inside (sym v.next ∙ e), ← g) at v.made)
      (group-facts n (pairs_of a) q.list.canonical (omega (arith, v.begun))).canonical)
