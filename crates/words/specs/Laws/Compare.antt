-- The comparison word by word: what it knows after k words, and that its contract leaves it one answer.
use Rattle.std.specs.Prelude.{◌≡◌, List, Option, None, Some, ◌++◌, ℕ, ◌+◌, ◌*◌, ◌<◌, ◌≤◌, drop, length, take}
use Rattle.std.proofs.Math.Path.{refl, ap, sym}
use Rattle.std.proofs.Common.{ap₂, ◌∙◌, arith, take-add, take-take}
use Rattle.std.proofs.Math.Seq.{drop-append_seam, take_all}
use Rattle.table.specs.Bytes.{AreBytes, from_bytes, to_bytes}
use Rattle.table.specs.Table.{field}
use Rattle.table.proofs.Laws.Canonical.{field_back}
use Rattle.words.specs.Words.{Compared, SameWords, word, word_length}

-- the first k words agree
abbrev pub Agree : List ℕ → List ℕ → ℕ → Type 0
Agree a b k = take (word_length * k) a ≡ take (word_length * k) b

-- x is word k, read as a number
abbrev pub Read : List ℕ → ℕ → ℕ → Type 0
Read a k x = x ≡ field a (word_length * k) word_length

up_to : (a : List ℕ) (k : ℕ) → take (word_length * (k + 1)) a ≡ take (word_length * k) a ++ word k a
up_to a k =
    let e : word_length * (k + 1) ≡ word_length * k + word_length = omega arith in
    ap (λ n. take n a) e ∙ take-add (word_length * k) word_length a

module _ (a b : List ℕ) where
  fewer : (j k : ℕ) → j ≤ k → Agree a b k → Agree a b j
  fewer j k l h =
      let cut : (c : List ℕ) → take (word_length * j) (take (word_length * k) c) ≡ take (word_length * j) c = λ c. take-take (word_length * j) (word_length * k) c (omega (arith, l)) in
      sym (cut a) ∙ ap (take (word_length * j)) h ∙ cut b

  word-before : (j k : ℕ) → j < k → Agree a b k → word j a ≡ word j b
  word-before j k l h =
      let x = take (word_length * j) a in
      let y = take (word_length * j) b in
      let e : x ++ word j a ≡ y ++ word j b = sym (up_to a j) ∙ fewer (j + 1) k (omega (arith, l)) h ∙ up_to b j in
      sym (drop-append_seam x (word j a)) ∙ ap₂ (λ p q. drop (length p) q) (fewer j k (omega (arith, l)) h) e ∙ drop-append_seam y (word j b)

  pub differs : (k : ℕ) {x y : ℕ} → Read a k x → Read b k y → Agree a b k → (x ≡ y → ⊥) → Compared a b (Some k)
  unfolding Compared
  differs k p q h e = ((λ j l. word-before j k l h), (λ w. e (p ∙ ap from_bytes w ∙ sym q)))

  -- bytes that are read as the same number are the same
  pub agrees : AreBytes a → AreBytes b → SameWords a b → (k : ℕ) {x y : ℕ} → word_length * (k + 1) ≤ length a → Read a k x → Read b k y → Agree a b k → x ≡ y → Agree a b (k + 1)
  agrees g h s k l p q t e =
      let back_a : to_bytes word_length (field a (word_length * k) word_length) ≡ word k a = field_back a (word_length * k) word_length g (omega (arith, l)) in
      let back-b : to_bytes word_length (field b (word_length * k) word_length) ≡ word k b = field_back b (word_length * k) word_length h (omega (arith, l, s.0)) in
      up_to a k ∙ ap₂ ◌++◌ t (sym back_a ∙ ap (to_bytes word_length) (sym p ∙ e ∙ q) ∙ back-b) ∙ sym (up_to b k)

  pub all-agree : SameWords a b → (k : ℕ) → length a ≤ word_length * k → Agree a b k → Compared a b None
  unfolding Compared
  all-agree s k l h = sym (take_all (word_length * k) a l) ∙ h ∙ take_all (word_length * k) b (omega (arith, s.0, l))

  pub one_answer : (r s : Option ℕ) → Compared a b r → Compared a b s → r ≡ s
  unfolding Compared
  one_answer (Some j) (Some k) p q =
      let not-before : j < k → ⊥ = λ l. p.1 (q.0 j l) in
      let not_after : k < j → ⊥ = λ l. q.1 (p.0 k l) in
      ap Some (omega (arith, not-before, not_after))
  one_answer (Some j) None p q = absurd (p.1 (ap (word j) q))
  one_answer None (Some k) p q = absurd (q.1 (ap (word k) p))
  one_answer None Equal p q = refl
