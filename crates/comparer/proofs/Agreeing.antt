-- What `agrees` answers.
use mathlib.Core.Path.{◌≡◌, refl, sym, ap, ◌∙◌}
use mathlib.Core.Logic.{◌⊎◌, inl, inr}
use mathlib.Core.Bool.{Bool, true, false, ◌&&◌, not, true≢false}
use mathlib.Core.List.{List}
use Prim.Native.Nat.{ℕ}
use native.Mathlib.Omega.{arith}
use lib.Dec.{eqb}
use borrow.Author.Tests.{eqb-true, eqb-false, eq-eqb, ne_eqb}
use Rattle.model.specs.Update.{Tree}
use Rattle.model.specs.Update.Tree.{cell}
use Rattle.terms.specs.Term.{alike}
use Rattle.terms.specs.Stored.{Ref, Starts}
use Rattle.terms.proofs.Alike.{alike_sym, alike_same}
use Rattle.terms.proofs.Members.{untrue}
use Rattle.terms.specs.Store.{start_says, starts_at}
use Rattle.std.specs.Prelude.{Result, Ok, Err}
use Rattle.std.specs.Result.{result_unwrap_or}
use Rattle.terms.specs.declared.ShortMemory.{ShortMemory}
use Rattle.terms.proofs.Laws.{same_id, starts, starts-short}
use Rattle.comparer.specs.Comparing.{Agrees, BothGiven}

-- what has no answer is not alike
pub starts_or : (m : List ℕ) (r a c : ℕ) (b : Result Bool ShortMemory) → start_says b ≡ starts_at m r a c → Starts m r a c (result_unwrap_or b false)
starts_or m r a c (Ok b) e = starts m r a c b e
starts_or m r a c (Err f) e = starts-short m r a c false e

both_ways : (swaps : ℕ → Bool) (t u : Tree) → alike swaps t u ≡ alike swaps u t
both_ways swaps t u = go (alike swaps t u) refl
  where
    go : (b : Bool) → alike swaps t u ≡ b → alike swaps t u ≡ alike swaps u t
    go true e = e ∙ sym (alike_sym swaps t u e)
    go false e = e ∙ sym (untrue (alike swaps u t) (λ p. true≢false (sym (alike_sym swaps u t p) ∙ e)))

module _ (m : List ℕ) (x y a c : ℕ) where
  abbrev Showing : (ℕ → Bool) → List Tree → ℕ → Tree → Type 0
  Showing swaps ts z t = ((z ≡ 0) × (t ≡ cell a c)) ⊎ Ref swaps ts z t

  pub agrees_same : x ≡ y → Agrees m x y a c true
  unfolding Agrees
  agrees_same e swaps count ts t u S p q = go p q
    where
      go : Showing swaps ts x t → Showing swaps ts y u → true ≡ alike swaps t u
      go (inl f) (inl g) = sym (alike_same swaps t u (f.1 ∙ sym g.1))
      go (inl f) (inr g) = absurd (omega (arith, f.0, g.some))
      go (inr f) (inl g) = absurd (omega (arith, f.some, g.0))
      go (inr f) (inr g) = sym ((same_id swaps m count ts S x y t u f g).0 e)

  pub agrees_left : (x ≡ y → ⊥) → x ≡ 0 → (b : Bool) → Starts m y a c b → Agrees m x y a c b
  unfolding Agrees Starts
  agrees_left n e b B swaps count ts t u S p q = go p q
    where
      go : Showing swaps ts x t → Showing swaps ts y u → b ≡ alike swaps t u
      go (inr f) g = absurd (omega (arith, f.some))
      go (inl f) (inl g) = absurd (n (e ∙ sym g.0))
      go (inl f) (inr g) = B swaps count ts u S g ∙ both_ways swaps u (cell a c) ∙ ap (λ (z : Tree). alike swaps z u) (sym f.1)

  pub agrees_right : (x ≡ 0 → ⊥) → y ≡ 0 → (b : Bool) → Starts m x a c b → Agrees m x y a c b
  unfolding Agrees Starts
  agrees_right n e b B swaps count ts t u S p q = go p q
    where
      go : Showing swaps ts x t → Showing swaps ts y u → b ≡ alike swaps t u
      go (inl f) g = absurd (n f.0)
      go (inr f) (inr g) = absurd (omega (arith, g.some))
      go (inr f) (inl g) = B swaps count ts t S f ∙ ap (alike swaps t) (sym g.1)

  pub agrees_apart : (x ≡ y → ⊥) → (x ≡ 0 → ⊥) → (y ≡ 0 → ⊥) → (b : Bool) → b ≡ false → Agrees m x y a c b
  unfolding Agrees
  agrees_apart n v w b e swaps count ts t u S p q = e ∙ go p q
    where
      go : Showing swaps ts x t → Showing swaps ts y u → false ≡ alike swaps t u
      go (inl f) g = absurd (v f.0)
      go (inr f) (inl g) = absurd (w g.0)
      go (inr f) (inr g) = sym (untrue (alike swaps t u) (λ e. n ((same_id swaps m count ts S x y t u f g).1 e)))

  -- ---- given cells: in an inout array all, in an out array those whose slots are filled
  module _ (role : ℕ) where
    pub given_inout : role ≡ 2 → (b : Bool) → Agrees m x y a c b → BothGiven m (eqb role 2) x y a c b
    unfolding Agrees BothGiven
    given_inout i b A swaps count ts t u S p q = rw (eq-eqb role 2 i) (A swaps count ts t u S p q)

    pub given-not : (role ≡ 2 → ⊥) → x ≡ 0 → (b : Bool) → b ≡ false → BothGiven m (eqb role 2) x y a c b
    unfolding BothGiven
    given-not i e b f swaps count ts t u S p q = rw (f, ne_eqb role 2 i, e)

    pub given_same : (role ≡ 2 → ⊥) → (x ≡ 0 → ⊥) → BothGiven m (eqb role 2) x y a c (eqb x y)
    unfolding BothGiven
    given_same i n swaps count ts t u S p q = rw (ne_eqb role 2 i, ne_eqb x 0 n) (go (eqb x y) refl (eqb y 0) refl)
      where
        go : (b : Bool) → eqb x y ≡ b → (z : Bool) → eqb y 0 ≡ z → b ≡ (not z && alike swaps t u)
        go true e true z = absurd (n (eqb-true x y e ∙ eqb-true y 0 z))
        go true e false z = unfold Agrees in agrees_same (eqb-true x y e) swaps count ts t u S p q
        go false e true z = refl
        go false e false z = unfold Agrees in agrees_apart (eqb-false x y e) n (eqb-false y 0 z) false refl swaps count ts t u S p q
