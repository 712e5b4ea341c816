-- Zeros eight words at a time.
use Rattle.std.specs.Prelude.{if◌then◌else◌}
use mathlib.Core.Path.{◌≡◌, refl, sym, ap, ◌∙◌}
use Prim.Native.Nat.{ℕ, zero, suc, ◌+◌, ◌-◌, ◌/◌, ◌%◌, ◌≤◌, max}
use mathlib.Core.List.{List, [], ◌∷◌}
use mathlib.Core.Bool.{Bool, true, false, ◌&&◌}
use native.Mathlib.Omega.{arith}
use lib.ListN.{length, get_or, take, drop, drop_of_length-le, length-drop}
use lib.Seq.{drop-drop, take_all}
use lib.Dec.{eqb}
use lib.Arith.{bin_ind}
use lib.Bits.{bit_or, or_step}
use borrow.Author.Tests.{eqb-true}
use Rattle.std.specs.List.{list_all}
use Rattle.unroller.proofs.CheckWords.{at_one, at_three}
use Rattle.unroller.specs.Words.{got, none, and_then, ask, zeros, all_zero, is_got}

-- r is 0 only where both are
record Both (x y r : ℕ) : Type 0 where
  pub first : x ≤ r
  pub second : y ≤ r
  pub most : r ≤ x + y

max_bounds : (a b : ℕ) → (a ≤ max a b) × (b ≤ max a b) × (max a b ≤ a + b)
max_bounds zero zero = (omega arith, omega arith, omega arith)
max_bounds zero (suc b) = (omega arith, omega arith, omega arith)
max_bounds (suc a) zero = (omega arith, omega arith, omega arith)
max_bounds (suc a) (suc b) =
    let i = max_bounds a b in
    let i0 = i.0 in
    let i1 = i.1 in
    let i2 = i.2 in
    (omega arith, omega arith, omega arith)

-- a word that holds the bits of both is as large as each, and no larger than their sum
or_bounds : (a b : ℕ) → Both a b (bit_or a b)
or_bounds = bin_ind (λ (a : ℕ). (b : ℕ) → Both a b (bit_or a b)) (λ b. record { first = omega arith; second = omega arith; most = omega arith }) step
  where
    step : (a : ℕ) → ((b : ℕ) → Both (a / 2) b (bit_or (a / 2) b)) → (b : ℕ) → Both a b (bit_or a b)
    step a ih b =
        let i = ih (b / 2) in
        let e = or_step a b in
        let m = max_bounds (a % 2) (b % 2) in
        let m0 = m.0 in
        let m1 = m.1 in
        let m2 = m.2 in
        record { first = omega arith; second = omega arith; most = omega arith }

-- all zeros, word by word
all_zero-cons : (x : ℕ) (s : List ℕ) → all_zero (x ∷ s) ≡ (eqb x 0 && all_zero s)
unfolding all_zero zeros
all_zero-cons x s = by (eqb x 0)
  where
    by : (t : Bool) → is_got (and_then (ask t s) (λ _ v. zeros (length s) v)) ≡ (t && is_got (zeros (length s) s))
    by true = refl
    by false = refl

pub all_zero-list : (s : List ℕ) → list_all (λ (x : ℕ). eqb x 0) s ≡ all_zero s
all_zero-list [] = unfold all_zero zeros in refl
all_zero-list (x ∷ s) = ap (λ (t : Bool). eqb x 0 && t) (all_zero-list s) ∙ sym (all_zero-cons x s)

all_zero-head : (x : ℕ) (s : List ℕ) → all_zero (x ∷ s) ≡ true → (x ≡ 0) × (all_zero s ≡ true)
all_zero-head x s e = by (eqb x 0) refl (sym (all_zero-cons x s) ∙ e)
  where
    by : (t : Bool) → eqb x 0 ≡ t → (t && all_zero s) ≡ true → (x ≡ 0) × (all_zero s ≡ true)
    by true e f = (eqb-true x 0 e, f)
    by false e f = absurd (let z : ◌≡◌ {A = ℕ} 0 1 = cc in omega arith)

-- eight words together
abbrev eight : (a b c d e f g h : ℕ) → ℕ
eight a b c d e f g h = bit_or (bit_or (bit_or (bit_or (bit_or (bit_or (bit_or a b) c) d) e) f) g) h

module _ (a b c d e f g h : ℕ) where
  -- they are 0 where all are
  eight_none : eight a b c d e f g h ≡ 0 → (a ≡ 0) × (b ≡ 0) × (c ≡ 0) × (d ≡ 0) × (e ≡ 0) × (f ≡ 0) × (g ≡ 0) × (h ≡ 0)
  eight_none z =
      let b1 = or_bounds a b in
      let b2 = or_bounds (bit_or a b) c in
      let b3 = or_bounds (bit_or (bit_or a b) c) d in
      let b4 = or_bounds (bit_or (bit_or (bit_or a b) c) d) e in
      let b5 = or_bounds (bit_or (bit_or (bit_or (bit_or a b) c) d) e) f in
      let b6 = or_bounds (bit_or (bit_or (bit_or (bit_or (bit_or a b) c) d) e) f) g in
      let b7 = or_bounds (bit_or (bit_or (bit_or (bit_or (bit_or (bit_or a b) c) d) e) f) g) h in
      (omega arith, omega arith, omega arith, omega arith, omega arith, omega arith, omega arith, omega arith)

  eight_zero : a ≡ 0 → b ≡ 0 → c ≡ 0 → d ≡ 0 → e ≡ 0 → f ≡ 0 → g ≡ 0 → h ≡ 0 → eight a b c d e f g h ≡ 0
  eight_zero i j k l m n o p = rw (i, j, k, l, m, n, o, p)

  module _ (s : List ℕ) where
    here : all_zero (a ∷ b ∷ c ∷ d ∷ e ∷ f ∷ g ∷ h ∷ s) ≡ true → eight a b c d e f g h ≡ 0
    here z =
        let i = all_zero-head a _ z in
        let j = all_zero-head b _ i.1 in
        let k = all_zero-head c _ j.1 in
        let l = all_zero-head d _ k.1 in
        let m = all_zero-head e _ l.1 in
        let n = all_zero-head f _ m.1 in
        let o = all_zero-head g _ n.1 in
        let p = all_zero-head h _ o.1 in
        eight_zero i.0 j.0 k.0 l.0 m.0 n.0 o.0 p.0

    behind : eight a b c d e f g h ≡ 0 → all_zero s ≡ all_zero (a ∷ b ∷ c ∷ d ∷ e ∷ f ∷ g ∷ h ∷ s)
    unfolding all_zero zeros
    behind z = let (i, j, k, l, m, n, o, p) = eight_none z in rw (i, j, k, l, m, n, o, p)

module _ (w : List ℕ) (l : 8 ≤ length w) where
  abbrev first_eight : ℕ
  first_eight = eight (get_or w 0 0) (get_or w 1 0) (get_or w 2 0) (get_or w 3 0) (get_or w 4 0) (get_or w 5 0) (get_or w 6 0) (get_or w 7 0)

  taken : w ≡ get_or w 0 0 ∷ get_or w 1 0 ∷ get_or w 2 0 ∷ get_or w 3 0 ∷ get_or w 4 0 ∷ get_or w 5 0 ∷ get_or w 6 0 ∷ get_or w 7 0 ∷ drop 8 w
  taken =
      at_three w 0 (omega arith) ∙ ap (λ (v : List ℕ). get_or w 0 0 ∷ get_or w 1 0 ∷ get_or w 2 0 ∷ v)
      (at_three w 3 (omega arith) ∙ ap (λ (v : List ℕ). get_or w 3 0 ∷ get_or w 4 0 ∷ get_or w 5 0 ∷ v)
      (at_one w 6 (omega arith) ∙ ap (λ (v : List ℕ). get_or w 6 0 ∷ v) (at_one w 7 (omega arith))))

  pub eight_zeros : first_eight ≡ 0 → all_zero (take (length w - 8) (drop 8 w)) ≡ all_zero w
  eight_zeros z =
      ap all_zero (take_all (length w - 8) (drop 8 w) (rw length-drop (omega arith)))
      ∙ behind (get_or w 0 0) (get_or w 1 0) (get_or w 2 0) (get_or w 3 0) (get_or w 4 0) (get_or w 5 0) (get_or w 6 0) (get_or w 7 0) (drop 8 w) z
      ∙ ap all_zero (sym taken)

  pub eight-not : (first_eight ≡ 0 → ⊥) → false ≡ all_zero w
  eight-not n = by (all_zero w) refl
    where
      by : (t : Bool) → all_zero w ≡ t → false ≡ t
      by true e = absurd (n (here (get_or w 0 0) (get_or w 1 0) (get_or w 2 0) (get_or w 3 0) (get_or w 4 0) (get_or w 5 0) (get_or w 6 0) (get_or w 7 0) (drop 8 w) (ap all_zero (sym taken) ∙ e)))
      by false e = refl

-- n words that are 0, at a place
zeros_is : (n : ℕ) (w : List ℕ) → n ≤ length w → zeros n w ≡ (if all_zero (take n w) then got 0 (drop n w) else none)
unfolding zeros
zeros_is zero w l = unfold all_zero in refl
zeros_is (suc n) [] l = absurd (omega arith)
zeros_is (suc n) (x ∷ w) l = rw (all_zero-cons x (take n w)) (by (eqb x 0) (zeros_is n w (omega arith)))
  where
    by : (t : Bool) → zeros n w ≡ (if all_zero (take n w) then got 0 (drop n w) else none)
        → and_then (ask t w) (λ _ v. zeros n v) ≡ (if t && all_zero (take n w) then got 0 (drop n w) else none)
    by true e = e
    by false e = refl

module _ (s : List ℕ) (p n : ℕ) (l : p + n ≤ length s) where
  zeros_at : zeros n (drop p s) ≡ (if all_zero (take n (drop p s)) then got 0 (drop (p + n) s) else none)
  zeros_at = rw (zeros_is n (drop p s) (rw length-drop (omega arith)), drop-drop n p s)

  pub zeros_true : all_zero (take n (drop p s)) ≡ true → zeros n (drop p s) ≡ got 0 (drop (p + n) s)
  zeros_true e = zeros_at ∙ rw e

  pub zeros_false : all_zero (take n (drop p s)) ≡ false → zeros n (drop p s) ≡ none
  zeros_false e = zeros_at ∙ rw e

pub ended_past : (s : List ℕ) (p : ℕ) → length s ≤ p → true ≡ all_zero (drop p s)
unfolding all_zero zeros
ended_past s p h = rw (drop_of_length-le s h)
