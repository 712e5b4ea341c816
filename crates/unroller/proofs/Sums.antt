-- Sums of a form's products, and its coefficients as one number.
use mathlib.Core.Path.{◌≡◌, refl, sym, ap, ap₂, ◌∙◌}
use Prim.Native.Nat.{ℕ, zero, suc, ◌+◌, ◌-◌, ◌*◌, ◌/◌, ◌%◌, ◌^◌, ◌≤◌, ◌<◌}
use native.Mathlib.Nat.{div-one, zero-div, div-eq_of_lt}
use native.Mathlib.Omega.{arith}
use mathlib.Core.List.{List, [], ◌∷◌}
use lib.ListN.{length, get_or}
use lib.IntN.{ℤ, pos, ◌+ℤ◌, ◌*ℤ◌, +ℤ_assoc, +ℤ_idr, zero-*ℤ, *ℤ-zero}
use lib.Pow.{shr-shr}
use mir.Syntax.{w8}
use mir.Val.{to_z}
use Rattle.reader.specs.Entries.{bytes_of}
use Rattle.reader.proofs.Numbers.{by_order}
use Rattle.unroller.specs.Run.{products}
use Rattle.unroller.specs.Forms.{form_sum, Packs}

-- products that are 0 add nothing
sum_still : (z : ℤ) (cs is : List ℤ) (m n : ℕ) → ((j : ℕ) → m ≤ j → j < m + n → get_or cs j (pos 0) *ℤ get_or is j (pos 0) ≡ pos 0) → form_sum z cs is (m + n) ≡ form_sum z cs is m
unfolding form_sum
sum_still z cs is m zero h = let e : m + 0 ≡ m = omega arith in rw e
sum_still z cs is m (suc n) h =
    let e : m + suc n ≡ suc (m + n) = omega arith in
    ap (form_sum z cs is) e
    ∙ ap (λ (x : ℤ). form_sum z cs is (m + n) +ℤ x) (h (m + n) (omega arith) (omega arith))
    ∙ +ℤ_idr (form_sum z cs is (m + n))
    ∙ sum_still z cs is m n (λ j a b. h j a (omega arith))

sum_none : (z : ℤ) (cs is : List ℤ) (n : ℕ) → ((j : ℕ) → get_or cs j (pos 0) *ℤ get_or is j (pos 0) ≡ pos 0) → form_sum z cs is n ≡ z
unfolding form_sum
sum_none z cs is n h = let e : n ≡ 0 + n = omega arith in ap (form_sum z cs is) e ∙ sum_still z cs is 0 n (λ j a b. h j)

-- the first product is added to the constant
sum_first : (z c i : ℤ) (cs is : List ℤ) (n : ℕ) → form_sum z (c ∷ cs) (i ∷ is) (suc n) ≡ form_sum (z +ℤ (c *ℤ i)) cs is n
unfolding form_sum
sum_first z c i cs is zero = refl
sum_first z c i cs is (suc n) = ap (λ (x : ℤ). x +ℤ (get_or cs n (pos 0) *ℤ get_or is n (pos 0))) (sum_first z c i cs is n)

-- once each coefficient had its turn the sum is the form's value
pub sum-value : (z : ℤ) (cs is : List ℤ) (n : ℕ) → length cs ≤ n → form_sum z cs is n ≡ z +ℤ products cs is
unfolding form_sum
sum-value z [] is n h = sum_none z [] is n (λ j. zero-*ℤ (get_or is j (pos 0))) ∙ sym (+ℤ_idr z)
sum-value z (c ∷ cs) [] n h = sum_none z (c ∷ cs) [] n (λ j. *ℤ-zero (get_or (c ∷ cs) j (pos 0))) ∙ sym (+ℤ_idr z)
sum-value z (c ∷ cs) (i ∷ is) zero h = absurd (omega arith)
sum-value z (c ∷ cs) (i ∷ is) (suc n) h =
    sum_first z c i cs is n ∙ sum-value (z +ℤ (c *ℤ i)) cs is n (omega arith) ∙ +ℤ_assoc z (c *ℤ i) (products cs is)

-- a sum hangs on the numbers alone
pub sum_same : (z : ℤ) (cs ds is : List ℤ) (n : ℕ) → ((k : ℕ) → k < n → get_or cs k (pos 0) ≡ get_or ds k (pos 0)) → form_sum z cs is n ≡ form_sum z ds is n
unfolding form_sum
sum_same z cs ds is zero h = refl
sum_same z cs ds is (suc n) h =
    ap₂ (λ (x y : ℤ). x +ℤ (y *ℤ get_or is n (pos 0))) (sum_same z cs ds is n (λ k a. h k (omega arith))) (h n (omega arith))

get_d_bytes : (n w k : ℕ) → k < n → get_or (bytes_of n w) k (pos 0) ≡ to_z w8 (w / 2 ^ (8 * k) % 256)
unfolding bytes_of
get_d_bytes zero w k h = absurd (omega arith)
get_d_bytes (suc n) w zero h = ap (λ (x : ℕ). to_z w8 (x % 256)) (sym (div-one w))
get_d_bytes (suc n) w (suc k) h =
    let e : 8 + 8 * k ≡ 8 * suc k = omega arith in
    get_d_bytes n (w / 256) k (omega arith) ∙ ap (λ (x : ℕ). to_z w8 (x % 256)) (shr-shr w 8 (8 * k) ∙ ap (λ (x : ℕ). w / 2 ^ x) e)

pub packs_eight : (cs : List ℤ) (a b c d e f g h w : ℕ) → a < 256 → b < 256 → c < 256 → d < 256 → e < 256 → f < 256 → g < 256 → h < 256 → w ≡ a + b * 256 + c * 65536 + d * 16777216 + e * 4294967296 + f * 1099511627776 + g * 281474976710656 + h * 72057594037927936 →
    to_z w8 a ≡ get_or cs 0 (pos 0) → to_z w8 b ≡ get_or cs 1 (pos 0) → to_z w8 c ≡ get_or cs 2 (pos 0) → to_z w8 d ≡ get_or cs 3 (pos 0) →
    to_z w8 e ≡ get_or cs 4 (pos 0) → to_z w8 f ≡ get_or cs 5 (pos 0) → to_z w8 g ≡ get_or cs 6 (pos 0) → to_z w8 h ≡ get_or cs 7 (pos 0) → Packs cs w
unfolding Packs
packs_eight cs a b c d e f g h w la lb lc ld le lf lg lh s pa pb pc pd pe pf pg ph k l = get_d_bytes 8 w k l ∙ go k l
  where
    go : (k : ℕ) → k < 8 → to_z w8 (w / 2 ^ (8 * k) % 256) ≡ get_or cs k (pos 0)
    go zero l = let q : w / 1 % 256 ≡ a = omega arith in ap (to_z w8) q ∙ pa
    go (suc zero) l = let q : w / 256 % 256 ≡ b = omega arith in ap (to_z w8) q ∙ pb
    go (suc (suc zero)) l = let q : w / 65536 % 256 ≡ c = omega arith in ap (to_z w8) q ∙ pc
    go (suc (suc (suc zero))) l = let q : w / 16777216 % 256 ≡ d = omega arith in ap (to_z w8) q ∙ pd
    go (suc (suc (suc (suc zero)))) l = let q : w / 4294967296 % 256 ≡ e = omega arith in ap (to_z w8) q ∙ pe
    go (suc (suc (suc (suc (suc zero))))) l = let q : w / 1099511627776 % 256 ≡ f = omega arith in ap (to_z w8) q ∙ pf
    go (suc (suc (suc (suc (suc (suc zero)))))) l = let q : w / 281474976710656 % 256 ≡ g = omega arith in ap (to_z w8) q ∙ pg
    go (suc (suc (suc (suc (suc (suc (suc zero))))))) l = let q : w / 72057594037927936 % 256 ≡ h = omega arith in ap (to_z w8) q ∙ ph
    go (suc (suc (suc (suc (suc (suc (suc (suc k)))))))) l = absurd (omega arith)

-- the numbers of w from number k on, still to be worked out
module _ (w k rest : ℕ) (small : w < 2 ^ 64) (few : k ≤ 8) (e : rest ≡ w / 2 ^ (8 * k)) where
  pub rest_few : (rest ≡ 0 → ⊥) → k < 8
  rest_few h = by_order (k + 1) 8 (λ a. omega arith) (λ a. absurd (h (let m : k ≡ 8 = omega arith in e ∙ ap (λ (x : ℕ). w / 2 ^ (8 * x)) m ∙ div-eq_of_lt small)))

  pub rest_first : k < 8 → to_z w8 (rest % 256) ≡ get_or (bytes_of 8 w) k (pos 0)
  rest_first h = ap (λ (x : ℕ). to_z w8 (x % 256)) e ∙ sym (get_d_bytes 8 w k h)

  pub rest_next : rest / 256 ≡ w / 2 ^ (8 * (k + 1))
  rest_next =
      let m : 8 * k + 8 ≡ 8 * (k + 1) = omega arith in
      ap (λ (x : ℕ). x / 256) e ∙ shr-shr w (8 * k) 8 ∙ ap (λ (x : ℕ). w / 2 ^ x) m

  pub rest_none : (z : ℤ) (cs is : List ℤ) → Packs cs w → rest ≡ 0 → form_sum z (bytes_of 8 w) is k ≡ form_sum z cs is 8
  unfolding Packs
  rest_none z cs is p h =
      let m : k + (8 - k) ≡ 8 = omega arith in
      sym (sum_still z (bytes_of 8 w) is k (8 - k) zero_product) ∙ ap (form_sum z (bytes_of 8 w) is) m ∙ sum_same z (bytes_of 8 w) cs is 8 p
    where
      zero-byte : (j : ℕ) → k ≤ j → j < k + (8 - k) → get_or (bytes_of 8 w) j (pos 0) ≡ pos 0
      zero-byte j a b =
          let m : 8 * j ≡ 8 * k + 8 * (j - k) = omega arith in
          let q : w / 2 ^ (8 * j) ≡ 0 = ap (λ (x : ℕ). w / 2 ^ x) m ∙ sym (shr-shr w (8 * k) (8 * (j - k))) ∙ ap (λ (x : ℕ). x / 2 ^ (8 * (j - k))) (sym e ∙ h) ∙ zero-div (2 ^ (8 * (j - k))) in
          get_d_bytes 8 w j (omega arith) ∙ ap (λ (x : ℕ). to_z w8 (x % 256)) q

      zero_product : (j : ℕ) → k ≤ j → j < k + (8 - k) → get_or (bytes_of 8 w) j (pos 0) *ℤ get_or is j (pos 0) ≡ pos 0
      zero_product j a b = ap (λ (x : ℤ). x *ℤ get_or is j (pos 0)) (zero-byte j a b) ∙ zero-*ℤ (get_or is j (pos 0))
