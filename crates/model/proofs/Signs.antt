-- A signed number of any width, read back from its bits, by its sign.
use mathlib.Core.Path.{◌≡◌, refl, sym, ap, ◌∙◌}
use Prim.Native.Nat.{ℕ, suc, ◌+◌, ◌-◌, ◌^◌, ◌≤◌, ◌<◌}
use native.Mathlib.Omega.{arith}
use mathlib.Core.Bool.{true, false, false≢true}
use lib.Dec.{T, ltb}
use lib.IntN.{ℤ, pos, negsuc, nat_abs}
use lib.Signed.{lt_z, non_neg}
use borrow.Author.Tests.{ltb-true}
use mir.Syntax.{Width, w8, w16, w32, w64, w128}
use mir.Val.{SFits, Fits, bits, hbits, to_z, of_z}
use mir.Facts.{to_z-of_z, to_z_pos, Fits-nat_abs}

pub halves : (w : Width) → 2 ^ bits w ≡ 2 ^ hbits w + 2 ^ hbits w
halves w8 = refl
halves w16 = refl
halves w32 = refl
halves w64 = refl
halves w128 = refl

module _ (w : Width) (v : ℤ) (f : SFits w v) where
  abbrev back : ℤ
  back = to_z w (of_z w v)

  same : back ≡ v
  same = to_z-of_z {w = w} {z = v} f

  pub bits_back : (b : ℕ) → b ≡ of_z w back → to_z w b ≡ v
  bits_back b e = ap (to_z w) (e ∙ ap (of_z w) same) ∙ same

  pub size_back : nat_abs back ≡ nat_abs v
  size_back = ap nat_abs same

  -- not below 0: its size is its bits
  pub plus_cast : (to : Width) → T (ltb (hbits w) (bits to)) → lt_z back (pos 0) ≡ false → T (non_neg back) × Fits to (nat_abs back)
  plus_cast to t e = rw same (go v (rw same at e), Fits-nat_abs {w = w} {w' = to} {z = v} t f)
    where
      go : (v : ℤ) → lt_z v (pos 0) ≡ false → T (non_neg v)
      go (pos n) e = tt
      go (negsuc n) e = absurd (false≢true (sym e))

  pub plus-bits : lt_z back (pos 0) ≡ false → nat_abs back ≡ of_z w v
  plus-bits e = size_back ∙ go v (rw same at e)
    where
      go : (v : ℤ) → lt_z v (pos 0) ≡ false → nat_abs v ≡ of_z w v
      go (pos n) e = refl
      go (negsuc n) e = absurd (false≢true (sym e))

  -- below 0: with its bits turned over it is not
  abbrev turned : ℤ
  turned = to_z w (2 ^ bits w - 1 - of_z w v)

  minus : lt_z back (pos 0) ≡ true → (n : ℕ) × (v ≡ negsuc n) × (n < 2 ^ hbits w) × (turned ≡ pos n)
  minus e = go v f (rw same at e)
    where
      go : (v : ℤ) → SFits w v → lt_z v (pos 0) ≡ true → (n : ℕ) × (v ≡ negsuc n) × (n < 2 ^ hbits w) × (to_z w (2 ^ bits w - 1 - of_z w v) ≡ pos n)
      go (pos n) f e = absurd (let h = ltb-true n 0 e in omega arith)
      go (negsuc n) f e =
          let h : n < 2 ^ hbits w = f.sfits in
          let b = halves w in
          let q : 2 ^ bits w - 1 - (2 ^ bits w - suc n) ≡ n = omega arith in
          (n, refl, h, ap (to_z w) q ∙ to_z_pos w h)

  pub minus_small : lt_z back (pos 0) ≡ true → nat_abs turned < 2 ^ hbits w
  minus_small e = let a = minus e in rw a.3 a.2

  pub minus_most : lt_z back (pos 0) ≡ true → nat_abs turned ≤ 2 ^ bits w - 1
  minus_most e = let h = minus_small e in let b = halves w in omega arith

  pub minus_cast : (to : Width) → T (ltb (hbits w) (bits to)) → lt_z back (pos 0) ≡ true → T (non_neg turned) × Fits to (nat_abs turned)
  minus_cast to t e =
      let a = minus e in
      rw a.3 (tt, Fits-nat_abs {w = w} {w' = to} {z = pos a.0} t (record { sfits = a.2 }))

  pub minus_bits : lt_z back (pos 0) ≡ true → 2 ^ bits w - 1 - nat_abs turned ≡ of_z w v
  minus_bits e =
      let a = minus e in
      let q : 2 ^ bits w - 1 - a.0 ≡ 2 ^ bits w - suc a.0 = omega arith in
      ap (λ (z : ℤ). 2 ^ bits w - 1 - nat_abs z) a.3 ∙ q ∙ ap (of_z w) (sym a.1)

  pub minus_size : lt_z back (pos 0) ≡ true → 1 + nat_abs turned ≡ nat_abs v
  minus_size e =
      let a = minus e in
      let k : 1 + a.0 ≡ suc a.0 = omega arith in
      ap (λ (z : ℤ). 1 + nat_abs z) a.3 ∙ k ∙ ap nat_abs (sym a.1)
