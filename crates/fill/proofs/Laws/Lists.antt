-- The list, the figure, the branch and questions 10 and 13 of a tree whose numbers come to the same.
use Rattle.std.specs.Prelude.{◌≡◌, Bool, cond, ◌||◌, T}
use Rattle.std.proofs.Math.Path.{refl, ap, ap₂, subst, sym}
use Rattle.std.proofs.Common.{◌∙◌, arith, eqb→eq}
use Rattle.std.proofs.Math.Bool.{true, false}
use Prim.Native.Nat.{ℕ, zero, suc, min, ◌+◌, ◌<◌}
use Rattle.std.proofs.Math.Dec.{eqb, leb}
use borrow.Author.Tests.{eqb-true, not-true}
use Rattle.booleans.specs.Tests.{◌and◌}
use Rattle.booleans.specs.Laws.{&&-both, T-is, by_cond}
use Rattle.table.specs.Numbers.{first_paired_symbol, most_time}
use Rattle.table.specs.Limits.{every_limit_in, every_most, limit_holds, most_holds}
use Rattle.table.specs.Questions.{most_in_range, number_has}
use Rattle.table.specs.Table.{limit_num, value_num}
use Rattle.table.specs.Trees.{Forest, Tree, every_node, nil, node, records, rest, ◌▸◌}
use Rattle.triangular.specs.Triangular.{most_triangular, triangular}
use Rattle.lists.specs.Streams.{Stream, cap}
use Rattle.evaluate.specs.Evaluate.{Values, allowed, amount, before, branch, branch_in, figure, fits, fits_in, holder_in, inner, join, later, limit, list, name, name_in, once_then, rounds, seen, start, turns}
use Rattle.evaluate.proofs.Laws.Times.{later-below}
use Rattle.values.specs.Values.{triangle_small}
use Rattle.values.proofs.Laws.Set.{later-but, set_other, set_there, set_value}
use Rattle.marking.specs.Marks.{most_has}
use Rattle.marking.specs.Opening.{kind_opens, limit_opens, most_is, number_is}
use Rattle.filling.specs.Fill.{fill_most, fill_number, on_forest, on_kind, on_limit, on_tree, put}
use Rattle.filling.specs.Laws.Shape.{EachIn, EachNode, rest-on}
use Rattle.fill.specs.Nodes.{AtMost, Block, Choice, Kind, Limit, Loop, Most, Node, Number, Plain, Sequence, Symbol, Unlimited}
use Rattle.fill.specs.Answers.{not_under_four}
use Rattle.fill.proofs.Laws.Fields.{by-opened, marked}

-- ---- names

module _ (p : Number → Number) where
  seen-on : (k : Kind) (j : ℕ) → seen (on_kind p k) j ≡ seen k j
  unfolding seen on_kind
  seen-on (Block t) j = refl
  seen-on Sequence j = refl
  seen-on Choice j = refl
  seen-on (Loop n) j = refl

  join-on : (k : Kind) (f g : Stream) → join (on_kind p k) f g ≡ join k f g
  unfolding join on_kind
  join-on (Block t) f g = refl
  join-on Sequence f g = refl
  join-on Choice f g = refl
  join-on (Loop n) f g = refl

inner-on : (p : Most → Most) (l : Limit) (k : ℕ) → inner (on_limit p l) k ≡ inner l k
unfolding inner on_limit
inner-on p Unlimited k = refl
inner-on p (AtMost j m) k = refl

module _ (g : ℕ → Number → Number) (h : ℕ → Most → Most) where
  mutual
    unfolding on_tree name

    name-on : (i : ℕ) (t : Tree) → name (on_tree g h i t) ≡ name t
    name-on i (node n f) = inner-on (h i) n.limit _ ∙ ap (inner n.limit) (name_in-on (g i) (suc i) n.kind f)

    name_in-on : (p : Number → Number) (i : ℕ) (k : Kind) (f : Forest) → name_in (on_kind p k) (on_forest g h i f) ≡ name_in k f
    name_in-on p i k nil = refl
    name_in-on p i k (t ▸ f) = rw (rest-on p k) (ap₂ min (seen-on p k _ ∙ ap (seen k) (name-on i t)) (name_in-on p (i + records t) (rest k) f))

-- ---- a test of every limit

module _ (q r : Most → Bool) (g : ℕ → Number → Number) (h : ℕ → Most → Most) where
  -- q says of the new number what r says of the old
  abbrev pub SameTest : ℕ → Node → Type 0
  SameTest i n = most_holds q (on_limit (h i) n.limit) ≡ most_holds r n.limit

  mutual
    unfolding on_tree every_node EachNode

    pub limits-on : (i : ℕ) (t : Tree) → EachNode SameTest i t → every_most q (on_tree g h i t) ≡ every_most r t
    limits-on i (node n f) e = ap₂ ◌and◌ e.0 (limits_in-on (suc i) f e.1)

    limits_in-on : (i : ℕ) (f : Forest) → EachIn SameTest i f → every_limit_in (λ k m. q m) (on_forest g h i f) ≡ every_limit_in (λ k m. r m) f
    limits_in-on i nil e = refl
    limits_in-on i (t ▸ f) e = ap₂ ◌and◌ (limits-on i t e.0) (limits_in-on (i + records t) f e.1)

-- ---- lists, of the new numbers under v and the old ones under w

module _ (v w : Values) where
  -- two times or bounds come to the same, and later ones too
  abbrev pub SameNumber : (new old : Number) → Type 0
  SameNumber a b = (amount v a ≡ amount w b) × (later v a ≡ later w b)

  -- and two limits, of which question 13 says the same
  abbrev pub SameMost : (new old : Most) → Type 0
  SameMost a b = (allowed v a ≡ allowed w b) × (triangle_small v a ≡ triangle_small w b)

  abbrev pub SameKind : (p : Number → Number) → Kind → Type 0
  SameKind p k = SameNumber (value_num (on_kind p k)) (value_num k)

  abbrev pub SameLimit : (p : Most → Most) → Limit → Type 0
  SameLimit p l = SameMost (limit_num (on_limit p l)) (limit_num l)

  module _ (p : Number → Number) where
    start-on : (k : Kind) → SameKind p k → start v (on_kind p k) ≡ start w k
    unfolding start on_kind value_num
    start-on (Block t) e = ap₂ once_then e.0 e.1
    start-on Sequence e = refl
    start-on Choice e = refl
    start-on (Loop n) e = refl

    turns-on : (k : Kind) (j : ℕ) (f : Stream) → SameKind p k → turns v (on_kind p k) j f ≡ turns w k j f
    unfolding turns on_kind value_num
    turns-on (Block t) j f e = refl
    turns-on Sequence j f e = refl
    turns-on Choice j f e = refl
    turns-on (Loop n) j f e = ap (λ m. rounds j m f) e.0

    rest-same : (k : Kind) → SameKind p (rest k)
    unfolding rest on_kind value_num amount later
    rest-same (Block t) = (refl, refl)
    rest-same Sequence = (refl, refl)
    rest-same Choice = (refl, refl)
    rest-same (Loop n) = (refl, refl)

  module _ (p : Most → Most) where
    limit-on : (l : Limit) (f : Stream) → SameLimit p l → limit v (on_limit p l) f ≡ limit w l f
    unfolding limit on_limit limit_num
    limit-on Unlimited f e = refl
    limit-on (AtMost k m) f e = ap (λ n. cap n f) e.0

    pub small-on : (l : Limit) → SameLimit p l → most_holds (triangle_small v) (on_limit p l) ≡ most_holds (triangle_small w) l
    unfolding limit_holds on_limit limit_num
    small-on Unlimited e = refl
    small-on (AtMost k m) e = e.1

  module _ (g : ℕ → Number → Number) (h : ℕ → Most → Most) where
    abbrev pub Same : ℕ → Node → Type 0
    Same i n = SameKind (g i) n.kind × SameLimit (h i) n.limit

    mutual
      unfolding on_tree list EachNode

      list_on : (i : ℕ) (t : Tree) → EachNode Same i t → list v (on_tree g h i t) ≡ list w t
      list_on i (node n f) e = limit-on (h i) n.limit _ e.0.1 ∙ ap (limit w n.limit) (before_on (g i) (suc i) n.kind f e.0.0 e.1)

      before_on : (p : Number → Number) (i : ℕ) (k : Kind) (f : Forest) → SameKind p k → EachIn Same i f → before v (on_kind p k) (on_forest g h i f) ≡ before w k f
      before_on p i k nil s e = start-on p k s
      before_on p i k (t ▸ f) s e =
          join-on p k _ _
          ∙ ap₂ (join k) (turns-on p k _ _ s ∙ ap₂ (turns w k) (name-on g h i t) (list_on i t e.0)) (rw (rest-on p k) (before_on p (i + records t) (rest k) f (rest-same p k) e.1))

    pub figure-on : (i : ℕ) (t : Tree) → EachNode Same i t → figure v (on_tree g h i t) ≡ figure w t
    unfolding figure
    figure-on i t e = ap (λ (f : Stream). f 0) (list_on i t e)

    holder-on : (i : ℕ) (f : Forest) → EachIn Same i f → holder_in v (on_forest g h i f) ≡ holder_in w f
    unfolding on_tree holder_in EachNode
    holder-on i nil e = refl
    holder-on i (t ▸ f) e = rw (list_on i t e.0, choices (i + records t) f e.1, holder-on (i + records t) f e.1) refl
      where
        choices : (j : ℕ) (u : Forest) → EachIn Same j u → before v Choice (on_forest g h j u) ≡ before w Choice u
        choices j u a = unfold on_kind value_num amount later in before_on (λ m. m) j Choice u (refl, refl) a

    branch_in-on : (p : Number → Number) (i : ℕ) (k : Kind) (f : Forest) → EachIn Same i f → branch_in v (on_kind p k) (on_forest g h i f) ≡ branch_in w k f
    unfolding branch_in on_kind
    branch_in-on p i (Block t) f e = refl
    branch_in-on p i Sequence f e = refl
    branch_in-on p i Choice f e = holder-on i f e
    branch_in-on p i (Loop n) f e = refl

    pub branch-on : (i : ℕ) (t : Tree) → EachNode Same i t → branch v (on_tree g h i t) ≡ branch w t
    unfolding on_tree branch EachNode
    branch-on i (node n f) e = branch_in-on (g i) (suc i) n.kind f e.1

    mutual
      unfolding on_tree fits EachNode

      pub fits_on : (i : ℕ) (t : Tree) → EachNode Same i t → fits v (on_tree g h i t) ≡ fits w t
      fits_on i (node n f) e = ap₂ ◌and◌ (ap (λ (r : Stream). leb (r 0) most_time) (before_on (g i) (suc i) n.kind f e.0.0 e.1)) (fits_in-on (suc i) f e.1)

      fits_in-on : (i : ℕ) (f : Forest) → EachIn Same i f → fits_in v (on_forest g h i f) ≡ fits_in w f
      fits_in-on i nil e = refl
      fits_in-on i (t ▸ f) e = ap₂ ◌and◌ (fits_on i t e.0) (fits_in-on (i + records t) f e.1)

-- ---- a filled node: the symbol's value is the number

module _ (v : Values) (s x : ℕ) (low : s < first_paired_symbol) where
  fill-number : (m : Number) → SameNumber v (set_value v s x) (fill_number s x m) m
  unfolding number_has
  fill-number (Plain m) = unfold amount later in (refl, refl)
  fill-number (Symbol k) = go (eqb k s) refl
    where
      w : Values
      w = set_value v s x

      there : eqb k s ≡ true → w k ≡ x
      there e = ap w (eqb-true k s e) ∙ set_there v s x

      go : (c : Bool) → eqb k s ≡ c → (amount v (cond c (Plain x) (Symbol k)) ≡ amount w (Symbol k)) × (later v (cond c (Plain x) (Symbol k)) ≡ later w (Symbol k))
      go true e = (unfold amount in sym (there e), unfold later in sym (later-below w k (omega (arith, eqb-true k s e)) ∙ there e))
      go false e = (unfold amount in set_other v s x k e, later-but v w s (set_other v s x) low k e)

  fill-most : (m : Most) → T (not_under_four s m) → SameMost v (set_value v s x) (fill_most s x m) m
  unfolding allowed triangle_small most_has not_under_four
  fill-most (Most.Plain m) h = (refl, refl)
  fill-most (Most.Symbol k) h = go (eqb k s) refl
    where
      go : (c : Bool) → eqb k s ≡ c → (allowed v (cond c (Most.Plain x) (Most.Symbol k)) ≡ set_value v s x k) × (triangle_small v (cond c (Most.Plain x) (Most.Symbol k)) ≡ true)
      go true e = unfold allowed triangle_small set_value in (rw e refl, refl)
      go false e = unfold allowed triangle_small in (set_other v s x k e, refl)
  fill-most (Most.Triangular k) h = let e = set_other v s x k (not-true (eqb k s) (T-is _ h)) in (ap triangular e, ap (λ y. leb y most_triangular) e)

  pub fill-kind : (k : Kind) → SameKind v (set_value v s x) (fill_number s x) k
  unfolding on_kind value_num
  fill-kind (Block t) = fill-number t
  fill-kind Sequence = unfold amount later in (refl, refl)
  fill-kind Choice = unfold amount later in (refl, refl)
  fill-kind (Loop m) = fill-number m

  pub fill-limit : (l : Limit) → T (most_holds (not_under_four s) l) → SameLimit v (set_value v s x) (fill_most s x) l
  unfolding on_limit limit_num limit_holds
  fill-limit Unlimited h = unfold allowed triangle_small in (refl, refl)
  fill-limit (AtMost k m) h = fill-most m h

-- and no more use under flag 4
pub fill-free : (s x : ℕ) (l : Limit) → most_holds (not_under_four s) (on_limit (fill_most s x) l) ≡ most_holds (not_under_four s) l
unfolding on_limit limit_holds
fill-free s x Unlimited = refl
fill-free s x (AtMost k m) = go m
  where
    go : (m : Most) → not_under_four s (fill_most s x m) ≡ not_under_four s m
    go (Most.Plain n) = unfold most_has not_under_four in refl
    go (Most.Symbol j) = unfold most_has not_under_four in by_cond (λ (y : Most). not_under_four s y ≡ true) (eqb j s) (Most.Plain x) (Most.Symbol j) (λ _. refl) (λ _. refl)
    go (Most.Triangular j) = unfold most_has not_under_four in refl

-- ---- an opened one, where the symbol's value is the number

module _ (s x : ℕ) (v : Values) (e : v s ≡ x) (low : s < first_paired_symbol) where
  open-number : (m : Number) → T (number_is x m) → SameNumber v v (Symbol s) m
  unfolding number_is amount later
  open-number (Plain n) h = let p = e ∙ sym (eqb→eq n x h) in (p, later-below v s low ∙ p)
  open-number (Symbol k) h = absurd h

  open-most : (m : Most) → T (most_is x m) → SameMost v v (Most.Symbol s) m
  unfolding most_is allowed triangle_small
  open-most (Most.Plain n) h = (e ∙ sym (eqb→eq n x h), refl)
  open-most (Most.Symbol k) h = absurd h
  open-most (Most.Triangular k) h = absurd h

  pub open-kind : (a : ℕ) (k : Kind) → T (eqb a 0 || kind_opens s x k) → SameKind v v (put a (Symbol s)) k
  open-kind a k o =
      by-opened s x (λ j. SameNumber v v (value_num j) (value_num k)) a k o (refl, refl)
      (λ t e i h. unfold value_num in subst (SameNumber v v (Symbol s)) (sym (ap value_num e)) (open-number t i))
      (λ n e i h. unfold value_num in subst (SameNumber v v (Symbol s)) (sym (ap value_num e)) (open-number n i))

  pub open-limit : (a : ℕ) (l : Limit) → T (eqb a 0 || limit_opens s x l) → SameLimit v v (put a (Most.Symbol s)) l
  unfolding on_limit put limit_opens limit_num
  open-limit zero Unlimited o = (refl, refl)
  open-limit zero (AtMost k m) o = (refl, refl)
  open-limit (suc a) Unlimited o = (refl, refl)
  open-limit (suc a) (AtMost k m) o = open-most m (&&-both (most_is x m) (most_in_range (Most.Symbol s)) (marked a _ o)).0
