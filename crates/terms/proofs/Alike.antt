-- Terms that are alike: an equivalence, and what it says of operators.
use Rattle.std.proofs.Common.{◌≡◌, ℕ, Bool, true, false, ◌&&◌, ◌||◌, eqb, ◌⊎◌, ℤ, pos, negsuc, sym, refl, ap, ◌∙◌, subst, ap₂, inl, inr, eq-eqb, eqb-true}
use mathlib.Core.Bool.{false≢true, and-eq-true_iff, or_comm, or-true, and-false}
use Rattle.model.specs.Update.{Tree, Trees}
use Rattle.model.specs.Update.Tree.{cell, number, constant, operator}
use Rattle.model.specs.Update.Trees.{nil, cons}
use Rattle.terms.specs.Term.{same_z, turned, alike, alikes}

pub same_z_sound : (y z : ℤ) → same_z y z ≡ true → y ≡ z
same_z_sound (pos m) (pos n) e = ap pos (eqb-true m n e)
same_z_sound (pos m) (negsuc n) e = absurd (false≢true e)
same_z_sound (negsuc m) (pos n) e = absurd (false≢true e)
same_z_sound (negsuc m) (negsuc n) e = ap negsuc (eqb-true m n e)

same_z_refl : (z : ℤ) → same_z z z ≡ true
same_z_refl (pos m) = eq-eqb m m refl
same_z_refl (negsuc m) = eq-eqb m m refl

-- turning twice
turned-twice : (ts : Trees) → turned (turned ts) ≡ ts
unfolding turned
turned-twice nil = refl
turned-twice (cons x nil) = refl
turned-twice (cons x (cons y nil)) = refl
turned-twice (cons x (cons y (cons z ts))) = refl

pub and_none : (a b : Bool) → (a && (b && false)) ≡ false
and_none true b = and-false b
and_none false b = refl

pub and-turn : (a b : Bool) → (a && (b && true)) ≡ (b && (a && true))
and-turn true true = refl
and-turn true false = refl
and-turn false true = refl
and-turn false false = refl

pub or_one : (a b : Bool) → (a || b) ≡ true → (a ≡ true) ⊎ (b ≡ true)
or_one true b e = inl refl
or_one false b e = inr e

module _ (swaps : ℕ → Bool) where
  mutual
    unfolding alike alikes

    pub alike_refl : (t : Tree) → alike swaps t t ≡ true
    alike_refl (cell a c) = (and-eq-true_iff (eqb a a) (eqb c c)).1 (eq-eqb a a refl, eq-eqb c c refl)
    alike_refl (number z) = same_z_refl z
    alike_refl (constant n) = eq-eqb n n refl
    alike_refl (operator o ts) = rw (eq-eqb o o refl, alikes_refl ts)

    pub alikes_refl : (ts : Trees) → alikes swaps ts ts ≡ true
    alikes_refl nil = refl
    alikes_refl (cons t ts) = (and-eq-true_iff (alike swaps t t) (alikes swaps ts ts)).1 (alike_refl t, alikes_refl ts)

  -- turning one side is turning the other
  alikes-turned : (us xs : Trees) → alikes swaps (turned us) xs ≡ alikes swaps us (turned xs)
  unfolding alikes turned
  alikes-turned nil nil = refl
  alikes-turned nil (cons x nil) = refl
  alikes-turned nil (cons x (cons y nil)) = refl
  alikes-turned nil (cons x (cons y (cons z xs))) = refl
  alikes-turned (cons u nil) nil = refl
  alikes-turned (cons u nil) (cons x nil) = refl
  alikes-turned (cons u nil) (cons x (cons y nil)) = and-false (alike swaps u x) ∙ sym (and-false (alike swaps u y))
  alikes-turned (cons u nil) (cons x (cons y (cons z xs))) = refl
  alikes-turned (cons u (cons v nil)) nil = refl
  alikes-turned (cons u (cons v nil)) (cons x nil) = and-false (alike swaps v x) ∙ sym (and-false (alike swaps u x))
  alikes-turned (cons u (cons v nil)) (cons x (cons y nil)) = and-turn (alike swaps v x) (alike swaps u y)
  alikes-turned (cons u (cons v nil)) (cons x (cons y (cons z xs))) = and_none (alike swaps v x) (alike swaps u y) ∙ sym (and_none (alike swaps u x) (alike swaps v y))
  alikes-turned (cons u (cons v (cons w us))) nil = refl
  alikes-turned (cons u (cons v (cons w us))) (cons x nil) = refl
  alikes-turned (cons u (cons v (cons w us))) (cons x (cons y nil)) = and_none (alike swaps u x) (alike swaps v y) ∙ sym (and_none (alike swaps u y) (alike swaps v x))
  alikes-turned (cons u (cons v (cons w us))) (cons x (cons y (cons z xs))) = refl

  -- two operators that are alike: the same, over arguments alike in order, or turned where they may swap
  pub record Operators (o p : ℕ) (ts us : Trees) : Type 0 where
    pub one : o ≡ p
    pub arguments : (alikes swaps ts us ≡ true) ⊎ ((swaps o ≡ true) × (alikes swaps ts (turned us) ≡ true))

  pub operators-alike : (o p : ℕ) (ts us : Trees) → alike swaps (operator o ts) (operator p us) ≡ true → Operators o p ts us
  unfolding alike
  operators-alike o p ts us e =
      let q = (and-eq-true_iff (eqb o p) (alikes swaps ts us || (swaps o && alikes swaps ts (turned us)))).0 e in
      record { one = eqb-true o p q.0; arguments = go (or_one (alikes swaps ts us) (swaps o && alikes swaps ts (turned us)) q.1) }
    where
      go : (alikes swaps ts us ≡ true) ⊎ ((swaps o && alikes swaps ts (turned us)) ≡ true) → (alikes swaps ts us ≡ true) ⊎ ((swaps o ≡ true) × (alikes swaps ts (turned us) ≡ true))
      go (inl h) = inl h
      go (inr h) = inr ((and-eq-true_iff (swaps o) (alikes swaps ts (turned us))).0 h)

  pub alike-operators : (o : ℕ) (ts us : Trees) → (alikes swaps ts us ≡ true) ⊎ ((swaps o ≡ true) × (alikes swaps ts (turned us) ≡ true)) → alike swaps (operator o ts) (operator o us) ≡ true
  unfolding alike
  alike-operators o ts us (inl h) = rw (eq-eqb o o refl, h)
  alike-operators o ts us (inr h) = rw (eq-eqb o o refl, h.0, h.1) (or-true (alikes swaps ts us))

  -- where arguments that are alike are alike to the same ones, so are operators over them
  operators_class : (o q : ℕ) (ts us xs : Trees) → ((vs ys : Trees) → alikes swaps ts vs ≡ true → alikes swaps ts ys ≡ alikes swaps vs ys)
      → (alikes swaps ts us ≡ true) ⊎ ((swaps o ≡ true) × (alikes swaps ts (turned us) ≡ true))
      → (eqb o q && (alikes swaps ts xs || (swaps o && alikes swaps ts (turned xs)))) ≡ (eqb o q && (alikes swaps us xs || (swaps o && alikes swaps us (turned xs))))
  operators_class o q ts us xs f (inl h) = ap₂ (λ (a b : Bool). eqb o q && (a || (swaps o && b))) (f us xs h) (f us (turned xs) h)
  operators_class o q ts us xs f (inr h) =
      ap₂ (λ (a b : Bool). eqb o q && (a || (swaps o && b)))
      (f (turned us) xs h.1 ∙ alikes-turned us xs)
      (f (turned us) (turned xs) h.1 ∙ alikes-turned us (turned xs) ∙ ap (alikes swaps us) (turned-twice xs))
      ∙ rw h.0 (ap (λ (b : Bool). eqb o q && b) (or_comm (alikes swaps us (turned xs)) (alikes swaps us xs)))

  -- terms that are alike are alike to the same terms
  mutual
    unfolding alike alikes

    pub alike_class : (t u x : Tree) → alike swaps t u ≡ true → alike swaps t x ≡ alike swaps u x
    alike_class (cell a c) (cell b d) x e = let p = (and-eq-true_iff (eqb a b) (eqb c d)).0 e in ap₂ (λ (i j : ℕ). alike swaps (cell i j) x) (eqb-true a b p.0) (eqb-true c d p.1)
    alike_class (cell a c) (number z) x e = absurd (false≢true e)
    alike_class (cell a c) (constant n) x e = absurd (false≢true e)
    alike_class (cell a c) (operator o ts) x e = absurd (false≢true e)
    alike_class (number z) (cell b d) x e = absurd (false≢true e)
    alike_class (number z) (number y) x e = ap (λ (i : ℤ). alike swaps (number i) x) (same_z_sound z y e)
    alike_class (number z) (constant n) x e = absurd (false≢true e)
    alike_class (number z) (operator o ts) x e = absurd (false≢true e)
    alike_class (constant n) (cell b d) x e = absurd (false≢true e)
    alike_class (constant n) (number z) x e = absurd (false≢true e)
    alike_class (constant n) (constant m) x e = ap (λ (i : ℕ). alike swaps (constant i) x) (eqb-true n m e)
    alike_class (constant n) (operator o ts) x e = absurd (false≢true e)
    alike_class (operator o ts) (cell b d) x e = absurd (false≢true e)
    alike_class (operator o ts) (number z) x e = absurd (false≢true e)
    alike_class (operator o ts) (constant n) x e = absurd (false≢true e)
    alike_class (operator o ts) (operator p us) (cell a c) e = refl
    alike_class (operator o ts) (operator p us) (number z) e = refl
    alike_class (operator o ts) (operator p us) (constant n) e = refl
    alike_class (operator o ts) (operator p us) (operator q xs) e =
        let w = operators-alike o p ts us e in
        operators_class o q ts us xs (λ vs ys h. alikes_class ts vs ys h) w.arguments
        ∙ ap (λ (i : ℕ). eqb i q && (alikes swaps us xs || (swaps i && alikes swaps us (turned xs)))) w.one

    alikes_class : (ts us xs : Trees) → alikes swaps ts us ≡ true → alikes swaps ts xs ≡ alikes swaps us xs
    alikes_class nil nil xs e = refl
    alikes_class nil (cons u us) xs e = absurd (false≢true e)
    alikes_class (cons t ts) nil xs e = absurd (false≢true e)
    alikes_class (cons t ts) (cons u us) nil e = refl
    alikes_class (cons t ts) (cons u us) (cons x xs) e =
        let p = (and-eq-true_iff (alike swaps t u) (alikes swaps ts us)).0 e in
        ap₂ ◌&&◌ (alike_class t u x p.0) (alikes_class ts us xs p.1)

  pub alike_sym : (t u : Tree) → alike swaps t u ≡ true → alike swaps u t ≡ true
  alike_sym t u e = sym (alike_class t u t e) ∙ alike_refl t

  pub alike_trans : (t u v : Tree) → alike swaps t u ≡ true → alike swaps u v ≡ true → alike swaps t v ≡ true
  alike_trans t u v e f = alike_class t u v e ∙ f

  pub alike_same : (t u : Tree) → t ≡ u → alike swaps t u ≡ true
  alike_same t u e = subst (λ (x : Tree). alike swaps t x ≡ true) e (alike_refl t)
