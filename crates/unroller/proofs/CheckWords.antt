-- Words at a place, and readers there.
use mathlib.Core.Path.{◌≡◌, refl, ap, ◌∙◌}
use Prim.Native.Nat.{ℕ, zero, suc, ◌+◌, ◌<◌, ◌≤◌}
use mathlib.Core.List.{List, [], ◌∷◌}
use mathlib.Core.Bool.{Bool, true, false, ◌&&◌}
use native.Mathlib.Omega.{arith}
use native.Mathlib.Numerals.{add-one}
use lib.ListN.{length, get_or, take, drop, drop_of_length-le, length-drop}
use lib.Seq.{drop-cons, drop-drop}
use lib.Dec.{leb}
use borrow.Author.Tests.{lt-leb, le-leb, leb-true}
use Rattle.std.specs.Prelude.{if◌then◌else◌}
use Rattle.std.specs.List.{list_all}
use Rattle.model.specs.Test.{within}
use Rattle.model.specs.Tables.{operator_byte}
use Rattle.unroller.specs.Words.{got, none, and_then, ask, times}
use Rattle.unroller.specs.Decode.{operators}

module _ (s : List ℕ) where
  pub at_one : (p : ℕ) → p < length s → drop p s ≡ get_or s p 0 ∷ drop (p + 1) s
  at_one p h = rw (add-one, drop-cons s p 0)

  pub at_three : (p : ℕ) → p + 3 ≤ length s → drop p s ≡ get_or s p 0 ∷ get_or s (p + 1) 0 ∷ get_or s (p + 2) 0 ∷ drop (p + 3) s
  at_three p h =
      let a = at_one p (omega arith) in
      let b = at_one (p + 1) (omega arith) in
      let c = at_one (p + 2) (omega arith) in
      let e : p + 1 + 1 ≡ p + 2 = omega arith in
      let f : p + 2 + 1 ≡ p + 3 = omega arith in
      a ∙ ap (λ (l : List ℕ). get_or s p 0 ∷ l) (rw e at b ∙ ap (λ (l : List ℕ). get_or s (p + 1) 0 ∷ l) (rw f at c))

  pub past : (p : ℕ) → length s ≤ p → drop p s ≡ []
  past p h = drop_of_length-le s h

  -- fewer than three words
  pub few : (p : ℕ) → length s < p + 3 → length (drop p s) < 3
  few p h = rw length-drop (omega arith)

-- n words that are operators
operators_is : (n : ℕ) (w : List ℕ) → n ≤ length w → operators n w ≡ (if list_all operator_byte (take n w) then got (take n w) (drop n w) else none)
unfolding operators times
operators_is zero w l = refl
operators_is (suc n) [] l = absurd (omega arith)
operators_is (suc n) (x ∷ w) l = by (operator_byte x) (operators_is n w (omega arith))
  where
    by : (t : Bool) → operators n w ≡ (if list_all operator_byte (take n w) then got (take n w) (drop n w) else none)
        → and_then (and_then (ask t w) (λ _ v. got x v)) (λ a v. and_then (operators n v) (λ l r. got (a ∷ l) r)) ≡ (if t && list_all operator_byte (take n w) then got (x ∷ take n w) (drop n w) else none)
    by true e = rw e (rest (list_all operator_byte (take n w)))
      where
        rest : (t : Bool) → and_then (if t then got (take n w) (drop n w) else none) (λ l r. got (x ∷ l) r) ≡ (if t then got (x ∷ take n w) (drop n w) else none)
        rest true = refl
        rest false = refl
    by false e = refl

module _ (s : List ℕ) (p n : ℕ) (l : p + n ≤ length s) where
  operators_at : operators n (drop p s) ≡ (if list_all operator_byte (take n (drop p s)) then got (take n (drop p s)) (drop (p + n) s) else none)
  operators_at = rw (operators_is n (drop p s) (rw length-drop (omega arith)), drop-drop n p s)

  pub operators_true : list_all operator_byte (take n (drop p s)) ≡ true → operators n (drop p s) ≡ got (take n (drop p s)) (drop (p + n) s)
  operators_true e = operators_at ∙ rw e

  pub operators_false : list_all operator_byte (take n (drop p s)) ≡ false → operators n (drop p s) ≡ none
  operators_false e = operators_at ∙ rw e

pub within_true : (l h x : ℕ) → l ≤ x → x ≤ h → within l h x ≡ true
within_true l h x a b = simp (le-leb _ _ a, le-leb _ _ b)

pub within_low : (l h x : ℕ) → x < l → within l h x ≡ false
within_low l h x a = simp (lt-leb _ _ a)

pub within-high : (l h x : ℕ) → h < x → within l h x ≡ false
within-high l h x b = high (leb l x)
  where
    high : (t : Bool) → t && leb x h ≡ false
    high true = lt-leb _ _ b
    high false = refl

pub within-most : (l h x : ℕ) → within l h x ≡ true → x ≤ h
within-most l h x e = most (leb l x) (leb x h) refl e
  where
    most : (t u : Bool) → leb x h ≡ u → (t && u) ≡ true → x ≤ h
    most true true f e = leb-true x h f
    most true false f e = absurd (let z : ◌≡◌ {A = ℕ} 0 1 = cc in omega arith)
    most false u f e = absurd (let z : ◌≡◌ {A = ℕ} 0 1 = cc in omega arith)
