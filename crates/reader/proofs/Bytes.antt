-- Single fields: where the bytes are there, what they say; else question 3.
use mathlib.Core.Path.{◌≡◌, refl, sym, ap, ◌∙◌}
use Prim.Native.Nat.{ℕ, zero, suc, ◌+◌, ◌*◌, ◌≤◌, ◌<◌}
use mathlib.Core.List.{List}
use mathlib.Core.Bool.{true, false}
use native.Mathlib.Omega.{arith}
use lib.ListN.{length, get_or}
use lib.Dec.{leb}
use lib.IntN.{ℤ, pos, negsuc}
use mir.Syntax.{w16}
use mir.Val.{to_z}
use Rattle.reader.specs.Answers.{through}
use Rattle.reader.specs.Grammar.{step}
use borrow.Author.Tests.{le-leb, lt-leb}
use Rattle.reader.specs.Field.{got, no, little_endian, field, byte, u16, u32, i16}

pub field_is : (n : ℕ) (s : List ℕ) (at : ℕ) → leb (at + n) (length s) ≡ true → got (little_endian n s at) (at + n) ≡ field n s at
unfolding field
field_is n s at h = simp h

pub field-not : (n : ℕ) (s : List ℕ) (at : ℕ) → leb (at + n) (length s) ≡ false → no 3 at ≡ field n s at
unfolding field
field-not n s at h = simp h

little_1 : (s : List ℕ) (at : ℕ) → get_or s at 0 ≡ little_endian 1 s at
little_1 s at = omega arith

little_2 : (s : List ℕ) (at : ℕ) → get_or s at 0 + 256 * get_or s (at + 1) 0 ≡ little_endian 2 s at
little_2 s at = omega arith

little_3 : (s : List ℕ) (at : ℕ) → get_or s at 0 + 256 * (get_or s (at + 1) 0 + 256 * get_or s (at + 2) 0) ≡ little_endian 3 s at
little_3 s at = let p : at + 1 + 1 ≡ at + 2 = omega arith in simp p (omega arith)

little_4 : (s : List ℕ) (at : ℕ) → get_or s at 0 + 256 * (get_or s (at + 1) 0 + 256 * (get_or s (at + 2) 0 + 256 * get_or s (at + 3) 0)) ≡ little_endian 4 s at
little_4 s at =
    let p : at + 1 + 1 ≡ at + 2 = omega arith in
    let q : at + 2 + 1 ≡ at + 3 = omega arith in
    simp (p, q) (omega arith)

module _ (s : List ℕ) (at : ℕ) where
  pub byte_is : at < length s → got (get_or s at 0) (at + 1) ≡ byte s at
  unfolding byte
  byte_is h = ap (λ (x : ℕ). got x (at + 1)) (little_1 s at) ∙ field_is 1 s at (le-leb (at + 1) (length s) (omega arith))

  pub byte-not : length s ≤ at → no 3 at ≡ byte s at
  unfolding byte
  byte-not h = field-not 1 s at (lt-leb (at + 1) (length s) (omega arith))

  pub u16_is : leb (at + 2) (length s) ≡ true → got (get_or s at 0 + 256 * get_or s (at + 1) 0) (at + 2) ≡ u16 s at
  unfolding u16
  u16_is h = ap (λ (x : ℕ). got x (at + 2)) (little_2 s at) ∙ field_is 2 s at h

  pub u16-not : leb (at + 2) (length s) ≡ false → no 3 at ≡ u16 s at
  unfolding u16
  u16-not h = field-not 2 s at h

  pub u24_is : leb (at + 3) (length s) ≡ true → got (get_or s at 0 + 256 * (get_or s (at + 1) 0 + 256 * get_or s (at + 2) 0)) (at + 3) ≡ field 3 s at
  u24_is h = ap (λ (x : ℕ). got x (at + 3)) (little_3 s at) ∙ field_is 3 s at h

  pub u32_is : leb (at + 4) (length s) ≡ true →
      got (get_or s at 0 + 256 * (get_or s (at + 1) 0 + 256 * (get_or s (at + 2) 0 + 256 * get_or s (at + 3) 0))) (at + 4) ≡ u32 s at
  unfolding u32
  u32_is h = ap (λ (x : ℕ). got x (at + 4)) (little_4 s at) ∙ field_is 4 s at h

  pub i16_is : leb (at + 2) (length s) ≡ true → got (to_z w16 (get_or s at 0 + 256 * get_or s (at + 1) 0)) (at + 2) ≡ i16 s at
  unfolding i16 through
  i16_is h = ap (through (to_z w16)) (u16_is h)

  pub i16-not : leb (at + 2) (length s) ≡ false → no 3 at ≡ i16 s at
  unfolding i16 through
  i16-not h = ap (through (to_z w16)) (u16-not h)

  pub step_no : {k p : ℕ} → i16 s at ≡ no k p → no k p ≡ step s at
  unfolding step
  step_no e = rw e

  pub step-zero : {next : ℕ} → got (pos 0) next ≡ i16 s at → no 11 at ≡ step s at
  unfolding step
  step-zero e = rw (sym e)

  pub step_is : (z : ℤ) {next : ℕ} → got z next ≡ i16 s at → (z ≡ pos 0 → ⊥) → got z next ≡ step s at
  unfolding step
  step_is (pos zero) e h = absurd (h refl)
  step_is (pos (suc n)) e h = rw (sym e)
  step_is (negsuc n) e h = rw (sym e)
