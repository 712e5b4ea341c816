-- Signed numbers as naturals, raised by 2 ^ 32, so that `omega` reads their sums and orders: `up z` is z + 2 ^ 32 where z is not below -2 ^ 32.
-- Assumes nothing.
use mathlib.Core.Path.{◌≡◌, sym, ap, ◌∙◌}
use Prim.Native.Nat.{ℕ, suc, ◌+◌, ◌-◌, ◌≤◌, ◌<◌}
use native.Mathlib.Decide.{dec_le}
use native.Mathlib.Omega.{arith}
use borrow.Author.Tests.{le-leb, lt-leb}
use lib.Dec.{leb}
use lib.IntN.{ℤ, pos, negsuc, ◌+ℤ◌, nat_abs, sub_ℕ}
use lib.Signed.{le_z}
use mir.Syntax.{w16, w32}
use mir.Val.{SFits}
use Rattle.model.proofs.Abs.{sub-pos, sub_neg}

abbrev pub up : ℤ → ℕ
up (pos n) = n + 4294967296
up (negsuc n) = 4294967296 - suc n

pub same_leb : (a b c d : ℕ) → (a ≤ b → c ≤ d) → (b < a → d < c) → leb a b ≡ leb c d
same_leb a b c d f g = go (dec_le a b)
  where
    go : Dec (a ≤ b) → leb a b ≡ leb c d
    go (yes h) = le-leb a b h ∙ sym (le-leb c d (f h))
    go (no h) = let k : b < a = omega arith in lt-leb a b k ∙ sym (lt-leb c d (g k))

pub up_le : (a b : ℤ) → nat_abs a ≤ 4294967296 → nat_abs b ≤ 4294967296 → le_z a b ≡ leb (up a) (up b)
up_le (pos a) (pos b) h k = same_leb a b (a + 4294967296) (b + 4294967296) (λ p. omega arith) (λ p. omega arith)
up_le (pos a) (negsuc b) h k = sym (lt-leb (a + 4294967296) (4294967296 - suc b) (omega arith))
up_le (negsuc a) (pos b) h k = sym (le-leb (4294967296 - suc a) (b + 4294967296) (omega arith))
up_le (negsuc a) (negsuc b) h k = same_leb b a (4294967296 - suc a) (4294967296 - suc b) (λ p. omega arith) (λ p. omega arith)

up-sub : (a b : ℕ) → b ≤ 4294967296 → up (sub_ℕ a b) + b ≡ a + 4294967296
up-sub a b h = go (dec_le b a)
  where
    go : Dec (b ≤ a) → up (sub_ℕ a b) + b ≡ a + 4294967296
    go (yes k) = ap (λ (z : ℤ). up z + b) (sub-pos a b k) ∙ p
      where
        p : a - b + 4294967296 + b ≡ a + 4294967296
        p = omega arith
    go (no k) = ap (λ (z : ℤ). up z + b) (sub_neg a b (omega arith)) ∙ p
      where
        p : 4294967296 - suc (b - suc a) + b ≡ a + 4294967296
        p = omega arith

pub up_add : (a b : ℤ) → nat_abs a ≤ 2147483648 → nat_abs b ≤ 2147483648 → up (a +ℤ b) + 4294967296 ≡ up a + up b
up_add (pos a) (pos b) h k = omega arith
up_add (pos a) (negsuc b) h k = omega (arith, up-sub a (suc b) (omega arith))
up_add (negsuc a) (pos b) h k = omega (arith, up-sub b (suc a) (omega arith))
up_add (negsuc a) (negsuc b) h k = omega arith

-- a magnitude, from above and below, and back

pub abs_up : (z : ℤ) (m : ℕ) → m < 4294967296 → 4294967296 ≤ up z + m → up z ≤ 4294967296 + m → nat_abs z ≤ m
abs_up (pos n) m h j k = omega arith
abs_up (negsuc n) m h j k = omega arith

-- the two types of a loop's index, and back
pub up-i16 : (z : ℤ) → SFits w16 z → (4294934528 ≤ up z) × (up z < 4295000064)
up-i16 (pos n) f = omega (arith, f.sfits)
up-i16 (negsuc n) f = omega (arith, f.sfits)

pub i16-up : (z : ℤ) → 4294934528 ≤ up z → up z < 4295000064 → SFits w16 z
i16-up (pos n) h k = record { sfits = omega arith }
i16-up (negsuc n) h k = record { sfits = omega arith }

pub i32_up : (z : ℤ) → 2147483648 ≤ up z → up z < 6442450944 → SFits w32 z
i32_up (pos n) h k = record { sfits = omega arith }
i32_up (negsuc n) h k = record { sfits = omega arith }
