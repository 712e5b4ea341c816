-- How large index values and forms get.
use Prim.Native.Nat.{ℕ, zero, suc, ◌+◌, ◌-◌, ◌*◌, ◌^◌, ◌≤◌, ◌<◌}
use native.Mathlib.Nat.{mod-eq_of_lt}
use native.Mathlib.Omega.{arith}
use mathlib.Core.Path.{◌≡◌, refl, sym, ap, ap₂, ◌∙◌, subst}
use mathlib.Core.List.{List, [], ◌∷◌}
use mathlib.Core.Bool.{Bool, true, false, ◌&&◌, false≢true}
use lib.ListN.{length, get_or}
use lib.Dec.{leb, ltb}
use lib.IntN.{ℤ, pos, negsuc, ◌+ℤ◌, ◌*ℤ◌, nat_abs, sub_ℕ}
use lib.Signed.{le_z}
use borrow.Author.Tests.{leb-true, le-leb, ltb-true, ltb-false}
use mir.Syntax.{Width, w8, w16}
use mir.Val.{SFits, bits, hbits, to_z, sel}
use mir.Facts.{to_z_pos, to_z-neg}
use Rattle.model.specs.Test.{every}
use Rattle.model.proofs.Abs.{sub-pos, sub_neg, abs_add, abs_mul_le, mag_abs, sfits_abs}
use Rattle.model.proofs.Signs.{halves}
use Rattle.reader.specs.Syntax.{Form}
use Rattle.unroller.specs.Run.{value_at, signed, fits16, indices}
use Rattle.unroller.specs.Allowed.{fits32}
use Rattle.unroller.specs.Forms.{form_sum, wrapped, wrapped_sum}
use Rattle.unroller.specs.Fits.{fits8, narrow}
use Rattle.unroller.proofs.Parts.{both, join, signed-mag, mag-signed}
use Rattle.unroller.proofs.Sums.{sum-value}

-- ---- index values
le_trans : (a b c : ℤ) → le_z a b ≡ true → le_z b c ≡ true → le_z a c ≡ true
le_trans (pos a) (pos b) (pos c) h k = le-leb a c (let x = leb-true a b h in let y = leb-true b c k in omega arith)
le_trans (pos a) (pos b) (negsuc c) h k = absurd (false≢true k)
le_trans (pos a) (negsuc b) c h k = absurd (false≢true h)
le_trans (negsuc a) b (pos c) h k = refl
le_trans (negsuc a) (pos b) (negsuc c) h k = absurd (false≢true k)
le_trans (negsuc a) (negsuc b) (negsuc c) h k = le-leb c a (let x = leb-true b a h in let y = leb-true c b k in omega arith)

-- a difference of naturals, by which is the greater
sub_by : (P : ℤ → Type 0) (a b : ℕ) → (b ≤ a → P (pos (a - b))) → (a < b → P (negsuc (b - suc a))) → P (sub_ℕ a b)
sub_by P a b f g = go (ltb a b) refl
  where
    go : (z : Bool) → ltb a b ≡ z → P (sub_ℕ a b)
    go true e = let h = ltb-true a b e in subst P (sym (sub_neg a b h)) (g h)
    go false e = let h = ltb-false a b e in subst P (sym (sub-pos a b h)) (f h)

le_up : (i : ℤ) (n : ℕ) → le_z i (i +ℤ pos n) ≡ true
le_up (pos m) n = le-leb m (m + n) (omega arith)
le_up (negsuc m) n = sub_by (λ z. le_z (negsuc m) z ≡ true) n (suc m) (λ h. refl) (λ h. le-leb (suc m - suc n) m (omega arith))

le_down : (i : ℤ) (n : ℕ) → le_z (i +ℤ negsuc n) i ≡ true
le_down (pos m) n = sub_by (λ z. le_z z (pos m) ≡ true) m (suc n) (λ h. le-leb (m - suc n) m (omega arith)) (λ h. refl)
le_down (negsuc m) n = le-leb m (suc (m + n)) (omega arith)

-- a value and those behind it, where the loop goes on
chosen : (b : Bool) (i : ℤ) (is : List ℤ) → (b ≡ true → (fits16 i ≡ true) × (every fits16 is ≡ true)) → every fits16 (elim b [ true ↦ i ∷ is | false ↦ [] ]) ≡ true
chosen true i is h = let p = h refl in join (fits16 i) (every fits16 is) p.0 p.1
chosen false i is h = refl

-- every value is the first or above it, and not above the end; or the other way round
rising : (most n : ℕ) (last i : ℤ) → le_z (negsuc 32767) i ≡ true → le_z last (pos 32767) ≡ true → every fits16 (indices most (pos n) last i) ≡ true
unfolding indices
rising zero n last i low high = refl
rising (suc most) n last i low high =
    chosen (le_z i last) i (indices most (pos n) last (i +ℤ pos n)) λ e. (
      join (le_z (negsuc 32767) i) (le_z i (pos 32767)) low (le_trans i last (pos 32767) e high),
      rising most n last (i +ℤ pos n) (le_trans (negsuc 32767) i (i +ℤ pos n) low (le_up i n)) high,
    )

falling : (most n : ℕ) (last i : ℤ) → le_z i (pos 32767) ≡ true → le_z (negsuc 32767) last ≡ true → every fits16 (indices most (negsuc n) last i) ≡ true
unfolding indices
falling zero n last i high low = refl
falling (suc most) n last i high low =
    chosen (le_z last i) i (indices most (negsuc n) last (i +ℤ negsuc n)) λ e. (
      join (le_z (negsuc 32767) i) (le_z i (pos 32767)) (le_trans (negsuc 32767) last i low e) high,
      falling most n last (i +ℤ negsuc n) (le_trans (i +ℤ negsuc n) i (pos 32767) (le_down i n) high) low,
    )

pub indices_fit : (most : ℕ) (step first last : ℤ) → fits16 first ≡ true → fits16 last ≡ true → every fits16 (indices most step last first) ≡ true
indices_fit most (pos n) first last f l = rising most n last first (both (le_z (negsuc 32767) first) (le_z first (pos 32767)) f).0 (both (le_z (negsuc 32767) last) (le_z last (pos 32767)) l).1
indices_fit most (negsuc n) first last f l = falling most n last first (both (le_z (negsuc 32767) first) (le_z first (pos 32767)) f).1 (both (le_z (negsuc 32767) last) (le_z last (pos 32767)) l).0

-- ---- sizes
signed_abs : (m : ℕ) (z : ℤ) → signed m z ≡ true → nat_abs z ≤ suc m
signed_abs m (pos n) e = let h = signed-mag m (pos n) e in omega arith
signed_abs m (negsuc n) e = let h = signed-mag m (negsuc n) e in omega arith

pub abs_signed : (m : ℕ) (z : ℤ) → nat_abs z ≤ m → signed m z ≡ true
abs_signed m z h = mag-signed m z (let k = mag_abs z in omega arith)

pub product_bounded : (c m : ℕ) (x i : ℤ) → signed c x ≡ true → signed m i ≡ true → nat_abs (x *ℤ i) ≤ suc c * suc m
product_bounded c m x i h k = abs_mul_le x i (suc c) (suc m) (signed_abs c x h) (signed_abs m i k)

-- a number of a list, or 0 behind its end
signed_at : (m : ℕ) (l : List ℤ) (k : ℕ) → every (signed m) l ≡ true → signed m (get_or l k (pos 0)) ≡ true
signed_at m [] k h = abs_signed m (pos 0) (omega arith)
signed_at m (x ∷ l) zero h = (both (signed m x) (every (signed m) l) h).0
signed_at m (x ∷ l) (suc k) h = signed_at m l k (both (signed m x) (every (signed m) l) h).1

-- a constant up to b, and k products of coefficients up to c and index values up to m
pub sums_bounded : (b c m : ℕ) (z : ℤ) (cs is : List ℤ) (k : ℕ) → signed b z ≡ true → every (signed c) cs ≡ true → every (signed m) is ≡ true → nat_abs (form_sum z cs is k) ≤ suc b + k * (suc c * suc m)
unfolding form_sum
sums_bounded b c m z cs is zero f h j = let s = signed_abs b z f in omega arith
sums_bounded b c m z cs is (suc k) f h j =
    let x = get_or cs k (pos 0) in
    let i = get_or is k (pos 0) in
    omega (arith, abs_add (form_sum z cs is k) (x *ℤ i), product_bounded c m x i (signed_at c cs k h) (signed_at m is k j), sums_bounded b c m z cs is k f h j)

-- the parts of a form that a file can hold
narrow-constant : (f : Form) → narrow f ≡ true → fits16 f.constant ≡ true
narrow-constant f n = (both (fits16 f.constant) (leb (length f.coefficients) 8 && every fits8 f.coefficients) n).0

narrow-few : (f : Form) → narrow f ≡ true → length f.coefficients ≤ 8
narrow-few f n = leb-true (length f.coefficients) 8 (both (leb (length f.coefficients) 8) (every fits8 f.coefficients) (both (fits16 f.constant) _ n).1).0

narrow-coefficients : (f : Form) → narrow f ≡ true → every fits8 f.coefficients ≡ true
narrow-coefficients f n = (both (leb (length f.coefficients) 8) (every fits8 f.coefficients) (both (fits16 f.constant) _ n).1).1

forms_exact : (f : Form) (is : List ℤ) → narrow f ≡ true → form_sum f.constant f.coefficients is 8 ≡ value_at f is
forms_exact f is n = sum-value f.constant f.coefficients is 8 (narrow-few f n)

pub forms_bounded : (m : ℕ) (f : Form) (is : List ℤ) → narrow f ≡ true → every (signed m) is ≡ true → nat_abs (value_at f is) ≤ 32768 + 8 * (128 * suc m)
forms_bounded m f is n h =
    let s = sums_bounded _ _ m f.constant f.coefficients is 8 (narrow-constant f n) (narrow-coefficients f n) h in
    subst (λ (v : ℤ). nat_abs v ≤ 32768 + 8 * (128 * suc m)) (forms_exact f is n) (omega arith)

pub forms_fit : (f : Form) (is : List ℤ) → narrow f ≡ true → every fits16 is ≡ true → fits32 (value_at f is) ≡ true
forms_fit f is n h = abs_signed 2147483647 (value_at f is) (let b = forms_bounded _ f is n h in omega arith)

-- ---- sums of 32 bits
-- what fits is kept
wrapped-fits : (w : Width) (z : ℤ) → SFits w z → wrapped w z ≡ z
unfolding wrapped
wrapped-fits w (pos n) f =
    let h : n < 2 ^ hbits w = f.sfits in
    let b = halves w in
    ap (to_z w) (mod-eq_of_lt (omega arith)) ∙ to_z_pos w h
wrapped-fits w (negsuc n) f =
    let h : n < 2 ^ hbits w = f.sfits in
    let b = halves w in
    ap (λ (k : ℕ). to_z w (2 ^ bits w - suc k)) (mod-eq_of_lt (omega arith)) ∙ to_z-neg w n h

wrapped_more : (v w : Width) (s t p : ℤ) → s ≡ t → SFits v p → SFits w (t +ℤ p) → wrapped w (s +ℤ wrapped v p) ≡ t +ℤ p
wrapped_more v w s t p e f g = ap₂ (λ (x y : ℤ). wrapped w (x +ℤ y)) e (wrapped-fits v p f) ∙ wrapped-fits w (t +ℤ p) g

wrapped_sum_lem : (z : ℤ) (cs is : List ℤ) (k : ℕ) → fits16 z ≡ true → every fits8 cs ≡ true → every fits16 is ≡ true → k ≤ 8 → wrapped_sum z cs is k ≡ form_sum z cs is k
unfolding wrapped_sum form_sum
wrapped_sum_lem z cs is zero f h j l = refl
wrapped_sum_lem z cs is (suc k) f h j l =
    let x = get_or cs k (pos 0) in
    let i = get_or is k (pos 0) in
    let s = sums_bounded _ _ _ z cs is (suc k) f h j in
    let p = product_bounded _ _ x i (signed_at _ cs k h) (signed_at _ is k j) in
    wrapped_more _ _ _ _ _ (wrapped_sum_lem z cs is k f h j (omega arith)) (sfits_abs (x *ℤ i) (omega arith)) (sfits_abs (form_sum z cs is (suc k)) (omega arith))

pub forms_wrapped : (f : Form) (is : List ℤ) → narrow f ≡ true → every fits16 is ≡ true → wrapped_sum f.constant f.coefficients is 8 ≡ value_at f is
forms_wrapped f is n h =
    wrapped_sum_lem f.constant f.coefficients is 8 (narrow-constant f n) (narrow-coefficients f n) h (omega arith) ∙ forms_exact f is n

-- ---- what bytes can say
-- of a number with h values below 0, whatever is read as it
signed-bits : (h n : ℕ) → signed h (sel (ltb n (suc h)) (pos n) (negsuc (suc h + suc h - suc n))) ≡ true
signed-bits h n = go (ltb n (suc h)) refl
  where
    go : (b : Bool) → ltb n (suc h) ≡ b → signed h (sel b (pos n) (negsuc (suc h + suc h - suc n))) ≡ true
    go true e = mag-signed h (pos n) (let k = ltb-true n (suc h) e in omega arith)
    go false e = mag-signed h (negsuc (suc h + suc h - suc n)) (let k = ltb-false n (suc h) e in omega arith)

pub fits16-to_z : (n : ℕ) → fits16 (to_z w16 n) ≡ true
fits16-to_z n = signed-bits 32767 n

pub fits8-to_z : (n : ℕ) → fits8 (to_z w8 n) ≡ true
fits8-to_z n = signed-bits 127 n
