-- A field filled, marked and opened again; and a node's fields so.
use Rattle.std.specs.Prelude.{◌≡◌, Bool, true, cond, ◌&&◌, ◌||◌, eqb}
use Rattle.std.proofs.Math.Path.{refl, ap, sym, subst}
use Rattle.std.proofs.Common.{◌∙◌, arith, eqb→eq, leb→le, ltb→lt, ne_eqb}
use Rattle.std.proofs.Math.Bool.{false}
use Prim.Native.Nat.{ℕ, zero, suc, ◌%◌, ◌/◌, ◌<◌, ◌≤◌}
use Rattle.std.proofs.Math.Dec.{T, eqb_refl, le→leb}
use Rattle.std.proofs.lemmas.Bool.{lt-leb}
use Rattle.booleans.specs.Tests.{◌and◌}
use Rattle.booleans.specs.Laws.{&&-both, &&-join, both, by_cond, join-and, or_else}
use Rattle.table.specs.Numbers.{first_paired_symbol, first_time_symbol, most_count, most_time}
use Rattle.table.specs.Questions.{count_in_range, kind_in_range, limit_in_range, most_in_range, number_has, paired, paired_block, time_in_range}
use Rattle.table.specs.Table.{limit_num, value_num}
use Rattle.values.specs.Values.{ceiling}
use Rattle.values.proofs.Laws.Values.{count-ceiling, time-ceiling}
use Rattle.marking.specs.Marks.{bit, mark_node, most_has}
use Rattle.marking.specs.Opening.{kind_opens, limit_opens, most_is, node_opens, number_is}
use Rattle.marking.specs.Laws.Marking.{limit-mark, value-mark}
use Rattle.filling.specs.Fill.{fill_most, fill_number, on_kind, on_limit, on_node, put}
use Rattle.fill.specs.Nodes.{AtMost, Block, Choice, Kind, Limit, Loop, Most, Node, Number, Plain, Sequence, Symbol, Unlimited}

number-symbol : (s : ℕ) (m : Number) → T (number_has s m) → m ≡ Symbol s
unfolding number_has
number-symbol s (Plain n) h = absurd h
number-symbol s (Symbol k) h = ap Symbol (eqb→eq k s h)

most-symbol : (s : ℕ) (m : Most) → T (most_has s m) → m ≡ Most.Symbol s
unfolding most_has
most-symbol s (Most.Plain n) h = absurd h
most-symbol s (Most.Symbol k) h = ap Most.Symbol (eqb→eq k s h)
most-symbol s (Most.Triangular k) h = absurd h

-- a symbol below the paired ones
low-alone : (s : ℕ) → s < first_paired_symbol → paired (Symbol s) ≡ false
unfolding paired ◌and◌
low-alone s l = rw (lt-leb first_paired_symbol s l) refl

-- ---- any field: c says whether it has the symbol

module _ {A : Type 0} (c : Bool) (new old : A) where
  -- what is put by its mark
  by-mark : cond c new old ≡ put (bit c) new old
  by-mark = go c
    where
      go : (d : Bool) → cond d new old ≡ put (bit d) new old
      go true = unfold put in refl
      go false = unfold put in refl

  -- the symbol put back
  mark-back : (symbol : A) → (T c → old ≡ symbol) → put (bit c) symbol (cond c new old) ≡ old
  mark-back symbol w = go c w
    where
      go : (d : Bool) → (T d → old ≡ symbol) → put (bit d) symbol (cond d new old) ≡ old
      go true v = unfold put in sym (v tt)
      go false v = unfold put in refl

  -- the mark stands where it may
  mark-opens : (is : A → Bool) (a : Bool) → T (is new) → (T c → T a) → T (eqb (bit c) 0 || (is (cond c new old) && a))
  mark-opens is a i w = go c w
    where
      go : (d : Bool) → (T d → T a) → T (eqb (bit d) 0 || (is (cond d new old) && a))
      go true v = &&-join (is new) a i (v tt)
      go false v = tt

-- a mark that is one
pub marked : (a : ℕ) (c : Bool) → T (eqb (suc a) 0 || c) → T c
marked a c h = or_else (eqb (suc a) 0) c h (ne_eqb (suc a) 0 (omega arith))

-- ---- a node

module _ (s x : ℕ) where
  kind-marked : (k : Kind) → on_kind (fill_number s x) k ≡ on_kind (put (bit (number_has s (value_num k))) (Plain x)) k
  unfolding on_kind value_num
  kind-marked (Block t) = ap Block (by-mark (number_has s t) (Plain x) t)
  kind-marked Sequence = refl
  kind-marked Choice = refl
  kind-marked (Loop n) = ap Loop (by-mark (number_has s n) (Plain x) n)

  limit-marked : (l : Limit) → on_limit (fill_most s x) l ≡ on_limit (put (bit (most_has s (limit_num l))) (Most.Plain x)) l
  unfolding on_limit limit_num
  limit-marked Unlimited = refl
  limit-marked (AtMost k m) = ap (AtMost k) (by-mark (most_has s m) (Most.Plain x) m)

  kind-back : (k : Kind) → on_kind (put (bit (number_has s (value_num k))) (Symbol s)) (on_kind (fill_number s x) k) ≡ k
  unfolding on_kind value_num
  kind-back (Block t) = ap Block (mark-back (number_has s t) (Plain x) t (Symbol s) (number-symbol s t))
  kind-back Sequence = refl
  kind-back Choice = refl
  kind-back (Loop n) = ap Loop (mark-back (number_has s n) (Plain x) n (Symbol s) (number-symbol s n))

  limit-back : (l : Limit) → on_limit (put (bit (most_has s (limit_num l))) (Most.Symbol s)) (on_limit (fill_most s x) l) ≡ l
  unfolding on_limit limit_num
  limit-back Unlimited = refl
  limit-back (AtMost k m) = ap (AtMost k) (mark-back (most_has s m) (Most.Plain x) m (Most.Symbol s) (most-symbol s m))

  kind-opens : (k : Kind) → T (kind_in_range k) → T (eqb (bit (number_has s (value_num k))) 0 || kind_opens s x (on_kind (fill_number s x) k))
  unfolding on_kind value_num kind_opens kind_in_range number_is
  kind-opens (Block t) r = mark-opens (number_has s t) (Plain x) t (number_is x) (time_in_range (Symbol s)) (eqb_refl x) (λ h. subst (λ (m : Number). T (time_in_range m)) (number-symbol s t h) r)
  kind-opens Sequence r = unfold number_has in tt
  kind-opens Choice r = unfold number_has in tt
  kind-opens (Loop n) r = mark-opens (number_has s n) (Plain x) n (number_is x) (count_in_range (Symbol s)) (eqb_refl x) (λ h. subst (λ (m : Number). T (count_in_range m)) (number-symbol s n h) r)

  limit-opens : (l : Limit) → T (limit_in_range l) → T (eqb (bit (most_has s (limit_num l))) 0 || limit_opens s x (on_limit (fill_most s x) l))
  unfolding on_limit limit_num limit_opens limit_in_range most_is
  limit-opens Unlimited r = unfold most_has in tt
  limit-opens (AtMost k m) r = mark-opens (most_has s m) (Most.Plain x) m (most_is x) (most_in_range (Most.Symbol s)) (eqb_refl x) (λ h. subst (λ (y : Most). T (most_in_range y)) (most-symbol s m h) (both _ _ r).1)

  module _ (n : Node) (d : ℕ) (e : d ≡ mark_node s n) where
    value-is : d % 2 ≡ bit (number_has s (value_num n.kind))
    value-is = ap (λ k. k % 2) e ∙ value-mark s n

    limit_is : d / 2 ≡ bit (most_has s (limit_num n.limit))
    limit_is = ap (λ k. k / 2) e ∙ limit-mark s n

    -- filled by its marks
    pub node-marked : on_node (fill_number s x) (fill_most s x) n ≡ on_node (put (d % 2) (Plain x)) (put (d / 2) (Most.Plain x)) n
    node-marked = rw (value-is, limit_is) (λ i. record { kind = kind-marked n.kind i; limit = limit-marked n.limit i; address = n.address })

    -- and opened by them again
    pub node-back : on_node (put (d % 2) (Symbol s)) (put (d / 2) (Most.Symbol s)) (on_node (fill_number s x) (fill_most s x) n) ≡ n
    node-back = rw (value-is, limit_is) (λ i. record { kind = kind-back n.kind i; limit = limit-back n.limit i; address = n.address })

    -- they stand where they may
    pub node-opens : T (kind_in_range n.kind) → T (limit_in_range n.limit) → T (node_opens s x d (on_node (fill_number s x) (fill_most s x) n))
    node-opens r q =
        let K = eqb (bit (number_has s (value_num n.kind))) 0 || kind_opens s x (on_kind (fill_number s x) n.kind) in
        let L = eqb (bit (most_has s (limit_num n.limit))) 0 || limit_opens s x (on_limit (fill_most s x) n.limit) in
        rw (value-is, limit_is) (&&-join K L (kind-opens n.kind r) (limit-opens n.limit q))

  -- ---- filled numbers are in range

  module _ (small : x ≤ ceiling s) where
    time-filled : (m : Number) → T (time_in_range m) → T (time_in_range (fill_number s x m))
    unfolding time_in_range
    time-filled m r = by_cond (λ (y : Number). T (time_in_range y)) (number_has s m) (Plain x) m (λ h. here (subst (λ (y : Number). T (time_in_range y)) (number-symbol s m h) r)) (λ _. r)
      where
        here : T (time_in_range (Symbol s)) → T (time_in_range (Plain x))
        here h = unfold time_in_range in le→leb x most_time (omega (arith, time-ceiling s (leb→le first_time_symbol s (both _ _ h).0)))

    count-filled : (m : Number) → T (count_in_range m) → T (count_in_range (fill_number s x m))
    count-filled m r = by_cond (λ (y : Number). T (count_in_range y)) (number_has s m) (Plain x) m (λ h. here (subst (λ (y : Number). T (count_in_range y)) (number-symbol s m h) r)) (λ _. r)
      where
        here : T (count_in_range (Symbol s)) → T (count_in_range (Plain x))
        here h = unfold count_in_range in le→leb x most_count (omega (arith, count-ceiling s (ltb→lt s first_time_symbol h)))

    most-filled : (m : Most) → T (most_in_range m) → T (most_in_range (fill_most s x m))
    most-filled m r = by_cond (λ (y : Most). T (most_in_range y)) (most_has s m) (Most.Plain x) m (λ h. here (subst (λ (y : Most). T (most_in_range y)) (most-symbol s m h) r)) (λ _. r)
      where
        here : T (most_in_range (Most.Symbol s)) → T (most_in_range (Most.Plain x))
        here h = unfold most_in_range in le→leb x most_count (omega (arith, count-ceiling s (ltb→lt s first_time_symbol h)))

    pub kind-filled : (k : Kind) → T (kind_in_range k) → T (kind_in_range (on_kind (fill_number s x) k))
    unfolding kind_in_range on_kind
    kind-filled (Block t) r = time-filled t r
    kind-filled Sequence r = tt
    kind-filled Choice r = tt
    kind-filled (Loop n) r = count-filled n r

    pub limit-filled : (l : Limit) → T (limit_in_range l) → T (limit_in_range (on_limit (fill_most s x) l))
    unfolding limit_in_range on_limit
    limit-filled Unlimited r = tt
    limit-filled (AtMost k m) r = let (a, b) = both _ _ r in join-and _ _ a (most-filled m b)

  -- and none that is paired comes or goes
  pub paired-filled : s < first_paired_symbol → (k : Kind) → paired_block (on_kind (fill_number s x) k) ≡ paired_block k
  unfolding paired_block paired on_kind
  paired-filled l (Block t) = by_cond (λ (y : Number). paired y ≡ paired t) (number_has s t) (Plain x) t (λ h. sym (ap paired (number-symbol s t h) ∙ low-alone s l)) (λ _. refl)
  paired-filled l Sequence = refl
  paired-filled l Choice = refl
  paired-filled l (Loop n) = refl

  -- ---- opened numbers are in range

  -- A kind by a mark that stands where it may: it is as it was, or has the symbol in place of the number, where question 3 allows that.
  pub by-opened : (Q : Kind → Type 0) (a : ℕ) (k : Kind) → T (eqb a 0 || kind_opens s x k) → Q k
      → ((t : Number) → k ≡ Block t → T (number_is x t) → T (time_in_range (Symbol s)) → Q (Block (Symbol s)))
      → ((n : Number) → k ≡ Loop n → T (number_is x n) → T (count_in_range (Symbol s)) → Q (Loop (Symbol s)))
      → Q (on_kind (put a (Symbol s)) k)
  unfolding on_kind put kind_opens
  by-opened Q zero (Block t) o q f g = q
  by-opened Q zero Sequence o q f g = q
  by-opened Q zero Choice o q f g = q
  by-opened Q zero (Loop n) o q f g = q
  by-opened Q (suc a) (Block t) o q f g = let (i, r) = &&-both (number_is x t) (time_in_range (Symbol s)) (marked a _ o) in f t refl i r
  by-opened Q (suc a) Sequence o q f g = q
  by-opened Q (suc a) Choice o q f g = q
  by-opened Q (suc a) (Loop n) o q f g = let (i, r) = &&-both (number_is x n) (count_in_range (Symbol s)) (marked a _ o) in g n refl i r

  pub kind-opened : (a : ℕ) (k : Kind) → T (eqb a 0 || kind_opens s x k) → T (kind_in_range k) → T (kind_in_range (on_kind (put a (Symbol s)) k))
  kind-opened a k o r = by-opened (λ j. T (kind_in_range j)) a k o r (λ t e i h. unfold kind_in_range in h) (λ n e i h. unfold kind_in_range in h)

  pub paired-opened : s < first_paired_symbol → (a : ℕ) (k : Kind) → T (eqb a 0 || kind_opens s x k) → paired_block (on_kind (put a (Symbol s)) k) ≡ paired_block k
  unfolding paired_block
  paired-opened l a k o =
      by-opened (λ j. paired_block j ≡ paired_block k) a k o refl
      (λ t e i h. low-alone s l ∙ sym (ap paired_block e ∙ plain t i))
      (λ n e i h. sym (ap paired_block e))
    where
      plain : (m : Number) → T (number_is x m) → paired m ≡ false
      plain (Plain n) h = unfold paired in refl
      plain (Symbol k) h = absurd (unfold number_is in h)

  pub limit-opened : (a : ℕ) (l : Limit) → T (eqb a 0 || limit_opens s x l) → T (limit_in_range l) → T (limit_in_range (on_limit (put a (Most.Symbol s)) l))
  unfolding limit_in_range on_limit put limit_opens
  limit-opened zero Unlimited o r = tt
  limit-opened zero (AtMost k m) o r = r
  limit-opened (suc a) Unlimited o r = tt
  limit-opened (suc a) (AtMost k m) o r = join-and _ _ (both _ _ r).0 (&&-both (most_is x m) (most_in_range (Most.Symbol s)) (marked a _ o)).1
