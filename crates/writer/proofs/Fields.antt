-- Numbers of several bytes and forms inside no loop: read back from their bytes, and the bytes of what was read.
use Rattle.std.specs.Prelude.{if◌then◌else◌}
use mathlib.Core.Path.{◌≡◌, refl, sym, ap, ap₂, subst, ◌∙◌}
use Prim.Native.Nat.{ℕ, zero, suc, ◌+◌, ◌*◌, ◌/◌, ◌%◌, ◌≤◌, ◌<◌}
use mathlib.Core.List.{List, []}
use mathlib.Core.Bool.{Bool, true, false}
use native.Mathlib.Omega.{arith}
use lib.ListN.{length, get_or}
use lib.Dec.{leb}
use lib.IntN.{ℤ}
use mir.Syntax.{w16}
use mir.Val.{to_z, of_z, Fits}
use mir.Facts.{to_z-of_z, of_z-to_z, Fits-of_z, sfits_to_z}
use borrow.Author.Tests.{le-leb, leb-true}
use Rattle.reader.specs.Field.{Bytes, Outcome, got, no, field, u16, u32, i16, little_endian, times}
use Rattle.reader.specs.Syntax.{Form}
use Rattle.reader.specs.Grammar.{form}
use Rattle.reader.proofs.Bytes.{u16_is, u32_is}
use Rattle.reader.proofs.Binds.{read_by, not-got}
use Rattle.unroller.specs.Run.{fits16}
use Rattle.unroller.proofs.Parts.{signed-fits, fits_signed}
use Rattle.writer.specs.File.{little_bytes, form_bytes}
use Rattle.writer.proofs.Stands.{Stands}

-- a form inside no loop
abbrev pub constant_form : ℤ → Form
constant_form z = record { constant = z; coefficients = [] }

module _ (s : List ℕ) where
  pub u16_in : (x at next : ℕ) → x < 65536 → Stands s at (little_bytes 2 x) next → u16 s at ≡ got x next
  unfolding Stands little_bytes
  u16_in x at next w h =
      let a = h.0.is in
      let b = h.1.0.is in
      let r = h.1.0.room in
      let v : get_or s at 0 + 256 * get_or s (at + 1) 0 ≡ x = omega arith in
      let n : at + 2 ≡ next = (let e = h.1.1 in omega arith) in
      sym (u16_is s at (le-leb (at + 2) (length s) (omega arith))) ∙ ap₂ got v n

  pub u32_in : (x at next : ℕ) → x < 4294967296 → Stands s at (little_bytes 4 x) next → u32 s at ≡ got x next
  unfolding Stands little_bytes
  u32_in x at next w h =
      let p : at + 1 + 1 ≡ at + 2 = omega arith in
      let q : at + 2 + 1 ≡ at + 3 = omega arith in
      let k = rw (p, q) at h in
      let a = k.0.is in
      let b = k.1.0.is in
      let c = k.1.1.0.is in
      let d = k.1.1.1.0.is in
      let r = k.1.1.1.0.room in
      let v : get_or s at 0 + 256 * (get_or s (at + 1) 0 + 256 * (get_or s (at + 2) 0 + 256 * get_or s (at + 3) 0)) ≡ x = omega arith in
      let n : at + 4 ≡ next = (let e = k.1.1.1.1 in omega arith) in
      sym (u32_is s at (le-leb (at + 4) (length s) (omega arith))) ∙ ap₂ got v n

  -- a field that was read is there
  pub field-known : (n at : ℕ) {x next : ℕ} → field n s at ≡ got x next → (at + n ≤ length s) × (little_endian n s at ≡ x) × (at + n ≡ next)
  unfolding field
  field-known n at {x} {next} e = go (leb (at + n) (length s)) refl e
    where
      go : (b : Bool) → leb (at + n) (length s) ≡ b → ◌≡◌ {A = Outcome ℕ} (if b then got (little_endian n s at) (at + n) else no 3 at) (got x next)
          → (at + n ≤ length s) × (little_endian n s at ≡ x) × (at + n ≡ next)
      go true q r = (leb-true (at + n) (length s) q, cc, cc)
      go false q r = not-got r

  little_out : Bytes s → (n at : ℕ) → at + n ≤ length s → Stands s at (little_bytes n (little_endian n s at)) (at + n)
  unfolding Stands little_bytes
  little_out b zero at h = omega arith
  little_out b (suc n) at h =
      let g = b at in
      let low : get_or s at 0 ≡ (get_or s at 0 + 256 * little_endian n s (at + 1)) % 256 = omega arith in
      let high : little_endian n s (at + 1) ≡ (get_or s at 0 + 256 * little_endian n s (at + 1)) / 256 = omega arith in
      let e : at + 1 + n ≡ at + suc n = omega arith in
      let r = little_out b n (at + 1) (omega arith) in
      (record { room = omega arith; is = low }, subst (λ (x : ℕ). Stands s (at + 1) (little_bytes n x) (at + suc n)) high (subst (λ (m : ℕ). Stands s (at + 1) (little_bytes n (little_endian n s (at + 1))) m) e r))

  pub field_out : Bytes s → (n at x next : ℕ) → field n s at ≡ got x next → Stands s at (little_bytes n x) next
  field_out b n at x next e =
      let k = field-known n at e in
      subst (λ (m : ℕ). Stands s at (little_bytes n x) m) k.2 (subst (λ (y : ℕ). Stands s at (little_bytes n y) (at + n)) k.1 (little_out b n at k.0))

  pub form_in : (z : ℤ) (at next : ℕ) → fits16 z ≡ true → Stands s at (form_bytes z) next → form 0 s at ≡ got (constant_form z) next
  unfolding form i16 times form_bytes
  form_in z at next w h =
      let f = signed-fits w16 32767 refl z w in
      let b = Fits-of_z {w = w16} {z = z} f in
      rw (u16_in (of_z w16 z) at next b.fits h, to_z-of_z {w = w16} {z = z} f)

  pub form_out : Bytes s → (at : ℕ) (f : Form) (next : ℕ) → form 0 s at ≡ got f next → Stands s at (form_bytes f.constant) next × (fits16 f.constant ≡ true)
  unfolding form i16 times form_bytes u16
  form_out b at f next e =
      read_by (i16 s at) _ e λ z x e1 r1.
      read_by (field 2 s at) _ e1 λ w y e2 r2.
      let k = field-known 2 at e2 in
      let p = b at in
      let q = b (at + 1) in
      let l = k.1 in
      let small : w < 65536 = omega arith in
      let t : Fits w16 w = record { fits = small } in
      let v : to_z w16 w ≡ z = cc in
      let m : y ≡ x = cc in
      let o : x ≡ next = cc in
      let c : z ≡ f.constant = cc in
      let g = field_out b 2 at w y e2 in
      let back : w ≡ of_z w16 f.constant = sym (of_z-to_z {w = w16} t) ∙ ap (of_z w16) (v ∙ c) in (
        subst (λ (n : ℕ). Stands s at (little_bytes 2 (of_z w16 f.constant)) n) (m ∙ o) (subst (λ (n : ℕ). Stands s at (little_bytes 2 n) y) back g),
        subst (λ (z : ℤ). fits16 z ≡ true) (v ∙ c) (fits_signed w16 32767 refl (to_z w16 w) (sfits_to_z {w = w16} t)),
      )
