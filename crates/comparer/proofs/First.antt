-- What the first difference is, as a list of cases.
use Prim.Native.Nat.{ℕ, zero, suc, ◌+◌, ◌≤◌, ◌<◌}
use native.Mathlib.Nat.{eq-or-lt_of_le}
use native.Mathlib.Omega.{arith}
use mathlib.Core.Path.{◌≡◌, refl, sym, ◌∙◌, subst}
use mathlib.Core.Logic.{◌⊎◌, inl, inr, ⊎_elim}
use mathlib.Core.List.{List, [], ◌∷◌}
use mathlib.Core.Bool.{Bool, true, false, ◌&&◌, cond, false≢true, and-eq-true_iff}
use lib.Dec.{ltb, leb}
use borrow.Author.Tests.{ltb-true, lt-ltb, leb-true, leb-false}
use Rattle.model.specs.Tables.{Array, array_at, cells}
use Rattle.model.specs.Reply.{Reply, differs}
use Rattle.comparer.specs.Match.{first_cell, first_difference, compared}
use Rattle.comparer.specs.Told.{Earlier}

-- cell e of x, which has array number a, is compared
abbrev pub compared_in : ℕ → ℕ → Array → ℕ → Bool
compared_in mask a x e = compared mask a x && ltb e (cells x.extents)

-- the first cell from c on: none of n, or this one
pub record CellAt (n c : ℕ) (agree : ℕ → Bool) (found : ℕ → Reply) (reply : Reply) : Type 0 where
  pub e : ℕ
  pub is : reply ≡ found e
  pub inside : e < c + n
  pub differ : agree e ≡ false
  pub before : (i : ℕ) → c ≤ i → i < e → agree i ≡ true

pub record CellNone (n c : ℕ) (agree : ℕ → Bool) (none : Reply) (reply : Reply) : Type 0 where
  pub is : reply ≡ none
  pub all : (i : ℕ) → c ≤ i → i < c + n → agree i ≡ true

module _ (agree : ℕ → Bool) (found : ℕ → Reply) (none : Reply) where
  pub first_cell_lem : (n c : ℕ) → CellNone n c agree none (first_cell n c agree found none) ⊎ CellAt n c agree found (first_cell n c agree found none)
  first_cell_lem zero c = inl (record { is = refl; all = λ i lo hi. absurd (omega arith) })
  first_cell_lem (suc n) c = step (agree c) refl (first_cell_lem n (suc c))
    where
      Rest : Reply
      Rest = first_cell n (suc c) agree found none

      at_or : agree c ≡ true → (i : ℕ) → c ≤ i → (suc c ≤ i → agree i ≡ true) → agree i ≡ true
      at_or e i lo f = ⊎_elim (λ (p : c ≡ i). subst (λ (x : ℕ). agree x ≡ true) p e) f (eq-or-lt_of_le lo)

      step : (b : Bool) → agree c ≡ b → CellNone n (suc c) agree none Rest ⊎ CellAt n (suc c) agree found Rest
          → CellNone (suc n) c agree none (cond (agree c) Rest (found c)) ⊎ CellAt (suc n) c agree found (cond (agree c) Rest (found c))
      step true e (inl p) = inl (record { is = rw e p.is; all = λ i lo hi. at_or e i lo (λ lo'. p.all i lo' (omega arith)) })
      step true e (inr p) = inr (record { e = p.e; is = rw e p.is; inside = let q = p.inside in omega arith; differ = p.differ; before = λ i lo hi. at_or e i lo (λ lo'. p.before i lo' hi) })
      step false e q = inr (record { e = c; is = rw e; inside = omega arith; differ = e; before = λ i lo hi. absurd (omega arith) })

-- array number a stands at place i of xs
pub record ElementAt (xs : List Array) (k mask : ℕ) (agree : ℕ → ℕ → Bool) (reply : Reply) : Type 0 where
  pub i : ℕ
  pub a : ℕ
  pub e : ℕ
  pub at : a ≡ k + i
  pub is : reply ≡ differs a e
  pub inside : compared_in mask a (array_at xs i) e ≡ true
  pub differ : agree a e ≡ false
  pub before : (j b d : ℕ) → b ≡ k + j → compared_in mask b (array_at xs j) d ≡ true → Earlier b d a e → agree b d ≡ true

pub record ElementNone (xs : List Array) (k mask : ℕ) (agree : ℕ → ℕ → Bool) (none : Reply) (reply : Reply) : Type 0 where
  pub is : reply ≡ none
  pub all : (j b d : ℕ) → b ≡ k + j → compared_in mask b (array_at xs j) d ≡ true → agree b d ≡ true

module _ (mask : ℕ) (agree : ℕ → ℕ → Bool) (none : Reply) where
  module _ (x : Array) (xs : List Array) (k : ℕ) where
    -- an element of x, or one of the rest
    either : (P : ℕ → ℕ → Type 0) → ((d : ℕ) → compared_in mask k x d ≡ true → P k d)
        → ((j b d : ℕ) → b ≡ suc k + j → compared_in mask b (array_at xs j) d ≡ true → P b d)
        → (j b d : ℕ) → b ≡ k + j → compared_in mask b (array_at (x ∷ xs) j) d ≡ true → P b d
    either P f g zero b d p q =
        let z : b ≡ k = omega arith in
        subst (λ (y : ℕ). P y d) (sym z) (f d (subst (λ (y : ℕ). compared_in mask y x d ≡ true) z q))
    either P f g (suc j) b d p q = g j b d (omega arith) q

    Rest : Reply
    Rest = first_difference mask (suc k) xs agree none

    Whole : Reply
    Whole = first_difference mask k (x ∷ xs) agree none

    skip : compared mask k x ≡ false → ElementNone xs (suc k) mask agree none Rest ⊎ ElementAt xs (suc k) mask agree Rest
        → ElementNone (x ∷ xs) k mask agree none Whole ⊎ ElementAt (x ∷ xs) k mask agree Whole
    unfolding Rest Whole
    skip e (inl p) = inl (record { is = rw e p.is; all = either (λ b d. agree b d ≡ true) (λ d q. absurd (false≢true (rw e at q))) p.all })
    skip e (inr p) = inr (record {
      i = suc p.i;
      a = p.a;
      e = p.e;
      at = let q = p.at in omega arith;
      is = rw e p.is;
      inside = p.inside;
      differ = p.differ;
      before = either (λ b d. Earlier b d p.a p.e → agree b d ≡ true) (λ d q. absurd (false≢true (rw e at q))) p.before;
    })

    n : ℕ
    n = cells x.extents

    below : (d : ℕ) → compared_in mask k x d ≡ true → d < n
    unfolding n
    below d q = ltb-true d (cells x.extents) ((and-eq-true_iff (compared mask k x) (ltb d (cells x.extents))).0 q).1

    enter : compared mask k x ≡ true → CellNone n 0 (agree k) Rest (first_cell n 0 (agree k) (differs k) Rest) ⊎ CellAt n 0 (agree k) (differs k) (first_cell n 0 (agree k) (differs k) Rest)
        → ElementNone xs (suc k) mask agree none Rest ⊎ ElementAt xs (suc k) mask agree Rest
        → ElementNone (x ∷ xs) k mask agree none Whole ⊎ ElementAt (x ∷ xs) k mask agree Whole
    unfolding Rest Whole n
    enter e (inl c) (inl p) = inl (record {
      is = rw e (c.is ∙ p.is);
      all = either (λ b d. agree b d ≡ true) (λ d q. c.all d (omega arith) (let z = below d q in omega arith)) p.all;
    })
    enter e (inl c) (inr p) = inr (record {
      i = suc p.i;
      a = p.a;
      e = p.e;
      at = let q = p.at in omega arith;
      is = rw e (c.is ∙ p.is);
      inside = p.inside;
      differ = p.differ;
      before = either (λ b d. Earlier b d p.a p.e → agree b d ≡ true) (λ d q l. c.all d (omega arith) (let z = below d q in omega arith)) p.before;
    })
    enter e (inr c) p = inr (record {
      i = 0;
      a = k;
      e = c.e;
      at = omega arith;
      is = rw e c.is;
      inside = (and-eq-true_iff (compared mask k x) (ltb c.e (cells x.extents))).1 (e, lt-ltb c.e (cells x.extents) (let z = c.inside in omega arith));
      differ = c.differ;
      before = either (λ b d. Earlier b d k c.e → agree b d ≡ true) (λ d q. sooner d) (λ j b d q r l. absurd (later j b d q l));
    })
      where
        sooner : (d : ℕ) → Earlier k d k c.e → agree k d ≡ true
        sooner d (inl z) = absurd (omega arith)
        sooner d (inr z) = c.before d (omega arith) z.1

        later : (j b d : ℕ) → b ≡ suc k + j → Earlier b d k c.e → ⊥
        later j b d q (inl z) = omega arith
        later j b d q (inr z) = let y = z.0 in omega arith

  pub first_difference_lem : (xs : List Array) (k : ℕ) → ElementNone xs k mask agree none (first_difference mask k xs agree none) ⊎ ElementAt xs k mask agree (first_difference mask k xs agree none)
  unfolding Rest Whole n
  first_difference_lem [] k = inl (record { is = refl; all = λ j b d p q. absurd (false≢true q) })
  first_difference_lem (x ∷ xs) k = go (compared mask k x) refl (first_difference_lem xs (suc k))
    where
      go : (b : Bool) → compared mask k x ≡ b → ElementNone xs (suc k) mask agree none (Rest x xs k) ⊎ ElementAt xs (suc k) mask agree (Rest x xs k)
          → ElementNone (x ∷ xs) k mask agree none (Whole x xs k) ⊎ ElementAt (x ∷ xs) k mask agree (Whole x xs k)
      go true e p = enter x xs k e (first_cell_lem (agree k) (differs k) (Rest x xs k) (n x xs k) 0) p
      go false e p = skip x xs k e p

-- of two places neither of which is earlier
pub same_place : (a e b d : ℕ) → (Earlier a e b d → ⊥) → (Earlier b d a e → ⊥) → (a ≡ b) × (e ≡ d)
same_place a e b d m n = go (leb a b) refl (leb b a) refl
  where
    cells_same : a ≡ b → (x : Bool) → leb e d ≡ x → (y : Bool) → leb d e ≡ y → e ≡ d
    cells_same q true f true g = omega (arith, leb-true e d f, leb-true d e g)
    cells_same q false f y g = absurd (n (inr (sym q, leb-false e d f)))
    cells_same q true f false g = absurd (m (inr (q, leb-false d e g)))

    go : (x : Bool) → leb a b ≡ x → (y : Bool) → leb b a ≡ y → (a ≡ b) × (e ≡ d)
    go true f true g = let q : a ≡ b = omega (arith, leb-true a b f, leb-true b a g) in (q, cells_same q (leb e d) refl (leb d e) refl)
    go false f y g = absurd (n (inl (leb-false a b f)))
    go true f false g = absurd (m (inl (leb-false b a g)))
