-- Terms that are alike have the same value in every meaning that respects the marks, and one such meaning tells all others apart:
-- its values are tests of terms, and the value of a term is the test of what is alike to it.
use Prim.Native.Nat.{ℕ}
use mathlib.Core.Path.{◌≡◌, refl, sym, ap, ap₂, ◌∙◌, fun_ext}
use mathlib.Core.Logic.{◌⊎◌, inl, inr}
use mathlib.Core.List.{List, [], ◌∷◌}
use mathlib.Core.Bool.{Bool, true, false, ◌&&◌, ◌||◌, false≢true, and-eq-true_iff, and-false, or_comm}
use lib.Dec.{eqb}
use borrow.Author.Tests.{eqb-true}
use Rattle.model.specs.Update.{Tree, Trees}
use Rattle.model.specs.Update.Tree.{cell, number, constant, operator}
use Rattle.model.specs.Update.Trees.{nil, cons}
use Rattle.terms.specs.Term.{turned, alike, alikes}
use Rattle.terms.proofs.Alike.{and_none, and-turn, same_z_sound, alike_refl, operators-alike}
use Rattle.comparer.specs.Meaning.{Meaning, Respects, Content, value_of, values_of}
use Rattle.comparer.specs.Claims.{AlikeExactly}

-- ---- every meaning that respects the marks gives terms that are alike the same value
module _ (swaps : ℕ → Bool) {S : Type 0} (m : Meaning S) (respects : Respects swaps m) (h : Content S) where
  -- the result for arguments in the other order
  turned-value : (o : ℕ) (us : Trees) → swaps o ≡ true → m.operate o (values_of m (turned us) h) ≡ m.operate o (values_of m us h)
  unfolding turned values_of
  turned-value o nil e = refl
  turned-value o (cons x nil) e = refl
  turned-value o (cons x (cons y nil)) e = respects o e (value_of m y h) (value_of m x h)
  turned-value o (cons x (cons y (cons z us))) e = refl

  by_arguments : (o : ℕ) (ts us : Trees) → ((vs : Trees) → alikes swaps ts vs ≡ true → values_of m ts h ≡ values_of m vs h)
      → (alikes swaps ts us ≡ true) ⊎ ((swaps o ≡ true) × (alikes swaps ts (turned us) ≡ true)) → m.operate o (values_of m ts h) ≡ m.operate o (values_of m us h)
  by_arguments o ts us f (inl q) = ap (m.operate o) (f us q)
  by_arguments o ts us f (inr q) = ap (m.operate o) (f (turned us) q.1) ∙ turned-value o us q.0

  mutual
    unfolding alike alikes value_of values_of

    pub alike-value : (t u : Tree) → alike swaps t u ≡ true → value_of m t h ≡ value_of m u h
    alike-value (cell a c) (cell b d) e = let p = (and-eq-true_iff (eqb a b) (eqb c d)).0 e in ap₂ h (eqb-true a b p.0) (eqb-true c d p.1)
    alike-value (cell a c) (number z) e = absurd (false≢true e)
    alike-value (cell a c) (constant n) e = absurd (false≢true e)
    alike-value (cell a c) (operator o ts) e = absurd (false≢true e)
    alike-value (number z) (cell b d) e = absurd (false≢true e)
    alike-value (number z) (number y) e = ap m.literal (same_z_sound z y e)
    alike-value (number z) (constant n) e = absurd (false≢true e)
    alike-value (number z) (operator o ts) e = absurd (false≢true e)
    alike-value (constant n) (cell b d) e = absurd (false≢true e)
    alike-value (constant n) (number z) e = absurd (false≢true e)
    alike-value (constant n) (constant k) e = ap m.named (eqb-true n k e)
    alike-value (constant n) (operator o ts) e = absurd (false≢true e)
    alike-value (operator o ts) (cell b d) e = absurd (false≢true e)
    alike-value (operator o ts) (number z) e = absurd (false≢true e)
    alike-value (operator o ts) (constant n) e = absurd (false≢true e)
    alike-value (operator o ts) (operator p us) e =
        let w = operators-alike swaps o p ts us e in
        by_arguments o ts us (λ vs q. alikes-values ts vs q) w.arguments ∙ ap (λ (i : ℕ). m.operate i (values_of m us h)) w.one

    alikes-values : (ts us : Trees) → alikes swaps ts us ≡ true → values_of m ts h ≡ values_of m us h
    alikes-values nil nil e = refl
    alikes-values nil (cons u us) e = absurd (false≢true e)
    alikes-values (cons t ts) nil e = absurd (false≢true e)
    alikes-values (cons t ts) (cons u us) e =
        let p = (and-eq-true_iff (alike swaps t u) (alikes swaps ts us)).0 e in
        ap₂ {C = List S} ◌∷◌ (alike-value t u p.0) (alikes-values ts us p.1)

-- ---- a meaning that tells apart all terms that are not alike
-- as many tests as arguments, and each passes its own
abbrev meets : List (Tree → Bool) → Trees → Bool
meets [] nil = true
meets [] (cons u us) = false
meets (f ∷ fs) nil = false
meets (f ∷ fs) (cons u us) = f u && meets fs us

module _ (swaps : ℕ → Bool) where
  -- the test of an operator over arguments that have these tests
  abbrev tests : ℕ → List (Tree → Bool) → Tree → Bool
  tests o fs (cell b d) = false
  tests o fs (number z) = false
  tests o fs (constant n) = false
  tests o fs (operator p us) = eqb o p && (meets fs us || (swaps o && meets fs (turned us)))

  pub classes : Meaning (Tree → Bool)
  classes = record { operate = tests; literal = λ z. alike swaps (number z); named = λ n. alike swaps (constant n) }

  pub starting : Content (Tree → Bool)
  starting a c = alike swaps (cell a c)

  -- two tests, turned, on arguments that are turned
  meets-turned : (f g : Tree → Bool) (us : Trees) → meets (f ∷ g ∷ []) (turned us) ≡ meets (g ∷ f ∷ []) us
  unfolding turned
  meets-turned f g nil = refl
  meets-turned f g (cons x nil) = and-false (f x) ∙ sym (and-false (g x))
  meets-turned f g (cons x (cons y nil)) = and-turn (f y) (g x)
  meets-turned f g (cons x (cons y (cons z us))) = and_none (f x) (g y) ∙ sym (and_none (g x) (f y))

  pub classes_respect : Respects swaps classes
  unfolding classes
  classes_respect o e f g = fun_ext go
    where
      go : (u : Tree) → tests o (f ∷ g ∷ []) u ≡ tests o (g ∷ f ∷ []) u
      go (cell b d) = refl
      go (number z) = refl
      go (constant n) = refl
      go (operator p us) =
          rw e (ap (λ (b : Bool). eqb o p && b) (or_comm (meets (f ∷ g ∷ []) us) (meets (f ∷ g ∷ []) (turned us))
          ∙ ap₂ ◌||◌ (meets-turned f g us) (sym (meets-turned g f us))))

  operator_class : (o : ℕ) (ts : Trees) → ((us : Trees) → meets (values_of classes ts starting) us ≡ alikes swaps ts us) → tests o (values_of classes ts starting) ≡ alike swaps (operator o ts)
  unfolding alike
  operator_class o ts f = fun_ext go
    where
      go : (u : Tree) → tests o (values_of classes ts starting) u ≡ alike swaps (operator o ts) u
      go (cell b d) = refl
      go (number z) = refl
      go (constant n) = refl
      go (operator p us) = ap₂ (λ (a b : Bool). eqb o p && (a || (swaps o && b))) (f us) (f (turned us))

  mutual
    unfolding alike alikes value_of values_of classes starting

    class_of : (t : Tree) → value_of classes t starting ≡ alike swaps t
    class_of (cell a c) = refl
    class_of (number z) = refl
    class_of (constant n) = refl
    class_of (operator o ts) = operator_class o ts (λ us. class_of_all ts us)

    class_of_all : (ts us : Trees) → meets (values_of classes ts starting) us ≡ alikes swaps ts us
    class_of_all nil nil = refl
    class_of_all nil (cons u us) = refl
    class_of_all (cons t ts) nil = refl
    class_of_all (cons t ts) (cons u us) = ap₂ ◌&&◌ (ap (λ (f : Tree → Bool). f u) (class_of t)) (class_of_all ts us)

  -- terms with the same value there are alike
  pub same_class : (t u : Tree) → value_of classes t starting ≡ value_of classes u starting → alike swaps t u ≡ true
  same_class t u e = ap (λ (f : Tree → Bool). f u) (sym (class_of t) ∙ e ∙ class_of u) ∙ alike_refl swaps u

pub alike_exactly : AlikeExactly
alike_exactly swaps t u =
    (λ e S m r h. alike-value swaps m r h t u e, λ f. same_class swaps t u (f (Tree → Bool) (classes swaps) (classes_respect swaps) (starting swaps)))
