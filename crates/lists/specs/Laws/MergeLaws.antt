-- The laws of the merge, all from what its prefix sums are: the most that two prefixes of that length together come to.
use Rattle.std.specs.Prelude.{◌≡◌, refl, Bool, true, false, ℕ, ◌+◌, ◌≤◌, ◌*◌, max, leb}
use Rattle.std.proofs.Math.Path.{fun_ext}
use Rattle.std.proofs.Common.{ap, le_antisymm, mul-le-mul_left, arith, leb-true, leb-false}
use Rattle.lists.specs.Streams.{Stream, S, merge, const, add, group, shift}
use Rattle.lists.specs.Laws.Merge.{merge-over, merge-met, merge-falls}
use Rattle.lists.specs.Laws.Sums.{Falls, S-inj, S-const, S-grows, S-add, const-falls, add-falls}

abbrev pub Met : Stream → Stream → Stream → ℕ → Type 0
Met f g h P = (p : ℕ) × (q : ℕ) × (p + q ≡ P) × (S h P ≡ S f p + S g q)

pub record IsMerge (f g h : Stream) : Type 0 where
  pub over : (p q n : ℕ) → p + q ≡ n → S f p + S g q ≤ S h n
  pub met : (P : ℕ) → Met f g h P

pub is-merge : (f g : Stream) → Falls f → Falls g → IsMerge f g (merge f g)
is-merge f g hf hg = record { over = λ p q n e. rw e at (merge-over f g hf hg p q); met = merge-met f g hf hg }

-- f's prefixes come to at most g's
abbrev pub Under : Stream → Stream → Type 0
Under f g = (P : ℕ) → S f P ≤ S g P

pub under-refl : (f : Stream) → Under f f
under-refl f P = omega arith

pub mono : (f g h f' g' h' : Stream) → IsMerge f g h → IsMerge f' g' h' → Under f f' → Under g g' → Under h h'
mono f g h f' g' h' m m' a b P =
    let (p, q, e, s) = m.met P in
    omega (arith, a p, b q, m'.over p q P e)

pub same : (f g : Stream) → Under f g → Under g f → f ≡ g
same f g a b = fun_ext (S-inj f g (λ P. le_antisymm (a P) (b P)))

pub unique : (f g h h' : Stream) → IsMerge f g h → IsMerge f g h' → h ≡ h'
unique f g h h' m m' =
    same h h' (mono f g h f g h' m m' (under-refl f) (under-refl g)) (mono f g h' f g h m' m (under-refl f) (under-refl g))

pub flip : (f g h : Stream) → IsMerge f g h → IsMerge g f h
flip f g h m = record {
  over = λ p q n e. omega (arith, m.over q p n (omega arith));
  met = λ P. let (p, q, e, s) = m.met P in (q, p, omega arith, omega arith);
}

pub with-zero : (f : Stream) → IsMerge f (const 0) f
with-zero f = record {
  over = λ p q n e. omega (arith, S-const 0 q, S-grows f p q n e);
  met = λ P. (P, 0, omega arith, omega (arith, S-const 0 0));
}

pub S-plus : (f : Stream) (c P : ℕ) → S (add f (const c)) P ≡ S f P + P * c
S-plus f c P = omega (arith, S-add f (const c) P, S-const c P)

pub lift : (c : ℕ) (f g h : Stream) → IsMerge f g h → IsMerge (add f (const c)) (add g (const c)) (add h (const c))
lift c f g h m = record {
  over = λ p q n e. simp S-plus (omega (arith, m.over p q n e, ap (λ k. k * c) e));
  met = λ P. let (p, q, e, s) = m.met P in (p, q, e, simp S-plus (omega (arith, ap (λ k. k * c) e)));
}

pub merge-comm : (f g : Stream) → Falls f → Falls g → merge f g ≡ merge g f
merge-comm f g hf hg = unique f g _ _ (is-merge f g hf hg) (flip g f _ (is-merge g f hg hf))

pub merge-zero : (f : Stream) → Falls f → merge f (const 0) ≡ f
merge-zero f hf = unique f (const 0) _ _ (is-merge f (const 0) hf (const-falls 0)) (with-zero f)

pub merge-lift : (c : ℕ) (f g : Stream) → Falls f → Falls g → merge (add f (const c)) (add g (const c)) ≡ add (merge f g) (const c)
merge-lift c f g hf hg =
    unique _ _ _ _ (is-merge _ _ (add-falls f _ hf (const-falls c)) (add-falls g _ hg (const-falls c))) (lift c f g _ (is-merge f g hf hg))

-- two constants: the larger
pub consts : (a b : ℕ) → IsMerge (const a) (const b) (const (max a b))
consts a b = record {
  over = λ p q n e.
      let l₁ : a ≤ max a b = omega arith in
      let l₂ : b ≤ max a b = omega arith in
      simp S-const (omega (arith, ap (λ k. k * max a b) e, mul-le-mul_left p l₁, mul-le-mul_left q l₂));
  met = λ P. go P (leb b a) refl;
}
  where
    go : (P : ℕ) (t : Bool) → leb b a ≡ t → Met (const a) (const b) (const (max a b)) P
    go P true e =
        let l : max a b ≡ a = omega (arith, leb-true b a e) in
        (P, 0, omega arith, simp (l, S-const) (omega arith))
    go P false e =
        let l : max a b ≡ b = omega (arith, leb-false b a e) in
        (0, P, omega arith, simp (l, S-const) (omega arith))

-- three at once, so that both ways to bracket come to the same
pub assoc : (f g h fg gh r : Stream) → IsMerge f g fg → IsMerge g h gh → IsMerge fg h r → IsMerge f gh r
assoc f g h fg gh r m n o = record {
  over = above;
  met = λ P.
      let (a, b, e₁, s₁) = o.met P in
      let (p, q, e₂, s₂) = m.met a in
      (p, q + b, omega arith, omega (arith, n.over q b (q + b) refl, above p (q + b) P (omega arith)));
}
  where
    above : (p q k : ℕ) → p + q ≡ k → S f p + S gh q ≤ S r k
    above p q k e =
        let (a, b, e₁, s) = n.met q in
        omega (arith, m.over p a (p + a) refl, o.over (p + a) b k (omega arith))

pub merge-assoc : (f g h : Stream) → Falls f → Falls g → Falls h → merge (merge f g) h ≡ merge f (merge g h)
merge-assoc f g h a b c =
    unique f (merge g h) _ _
    (assoc f g h _ _ _ (is-merge f g a b) (is-merge g h b c) (is-merge _ h (merge-falls f g a b) c))
    (is-merge f _ a (merge-falls g h b c))

pub merge-mono : (f g f' g' : Stream) → Falls f → Falls g → Falls f' → Falls g' → Under f f' → Under g g' → Under (merge f g) (merge f' g')
merge-mono f g f' g' a b a' b' = mono f g _ f' g' _ (is-merge f g a b) (is-merge f' g' a' b')

-- a stream that is a constant
abbrev pub Const : Stream → Type 0
Const f = (c : ℕ) × (f ≡ const c)

pub add-consts : (a b : ℕ) → add (const a) (const b) ≡ const (a + b)
unfolding add const
add-consts a b = refl

pub merge-consts : (a b : ℕ) → merge (const a) (const b) ≡ const (max a b)
merge-consts a b = unique _ _ _ _ (is-merge _ _ (const-falls a) (const-falls b)) (consts a b)

pub group-const : (n c : ℕ) → group n (const c) ≡ const (n * c)
unfolding group shift const
group-const n c = fun_ext (λ i. S-const c n)

-- ---- joining

pub add_zero_l : (f : Stream) → add (const 0) f ≡ f
unfolding add const
add_zero_l f = fun_ext (λ i. omega arith)

pub add_zero_r : (f : Stream) → add f (const 0) ≡ f
unfolding add const
add_zero_r f = fun_ext (λ i. omega arith)

pub add_assoc : (f g h : Stream) → add (add f g) h ≡ add f (add g h)
unfolding add
add_assoc f g h = fun_ext (λ i. omega arith)

pub add_comm : (f g : Stream) → add f g ≡ add g f
unfolding add
add_comm f g = fun_ext (λ i. omega arith)
