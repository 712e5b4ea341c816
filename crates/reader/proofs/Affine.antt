-- Forms: where all bytes are there, and where the first is missing.
use mathlib.Core.Path.{◌≡◌, refl, sym, ap}
use Prim.Native.Nat.{ℕ, zero, suc, ◌+◌, ◌*◌, ◌≤◌, ◌<◌}
use mathlib.Core.List.{List, [], ◌∷◌}
use native.Mathlib.Omega.{arith}
use lib.ListN.{length, take, get_or}
use lib.IntN.{pos}
use mir.Syntax.{w8, w16}
use mir.Val.{to_z}
use borrow.Author.Tests.{le-leb, lt-leb}
use Rattle.reader.specs.Field.{got, no, i8, times}
use Rattle.reader.specs.Grammar.{form}
use Rattle.reader.specs.Entries.{padded, signeds}
use Rattle.reader.proofs.Lists.{take-padded}
use Rattle.reader.proofs.Numbers.{by_order}
use Rattle.reader.proofs.Bytes.{byte_is, byte-not, i16_is, i16-not}

length_signeds : (n : ℕ) (s : List ℕ) (at : ℕ) → length (signeds n s at) ≡ n
unfolding signeds
length_signeds zero s at = refl
length_signeds (suc n) s at = ap suc (length_signeds n s (at + 1))

pub take_signeds : (n : ℕ) (s : List ℕ) (at : ℕ) → take n (padded 8 (pos 0) (signeds n s at)) ≡ signeds n s at
take_signeds n s at = take-padded 8 (pos 0) (signeds n s at) n (length_signeds n s at)

module _ (s : List ℕ) where
  i8_is : (at : ℕ) → at < length s → i8 s at ≡ got (to_z w8 (get_or s at 0)) (at + 1)
  unfolding i8
  i8_is at h = rw (sym (byte_is s at h))

  i8-not : (at : ℕ) → length s ≤ at → i8 s at ≡ no 3 at
  unfolding i8
  i8-not at h = rw (sym (byte-not s at h))

  pub signeds_all : (n at : ℕ) → at + n ≤ length s → times [] ◌∷◌ i8 n s at ≡ got (signeds n s at) (at + n)
  unfolding times signeds
  signeds_all zero at h = let e : at + 0 ≡ at = omega arith in rw e
  signeds_all (suc n) at h =
      let e : at + 1 + n ≡ at + suc n = omega arith in
      rw (i8_is at (omega arith), signeds_all n (at + 1) (omega arith), e)

  pub signeds-short : (n at : ℕ) → at ≤ length s → length s < at + n → times [] ◌∷◌ i8 n s at ≡ no 3 (length s)
  unfolding times
  signeds-short zero at h w = absurd (omega arith)
  signeds-short (suc n) at h w =
      by_order (at + 1) (length s)
      (λ k. rw (i8_is at (omega arith), signeds-short n (at + 1) k (omega arith)))
      (λ k. let e : at ≡ length s = omega arith in rw (i8-not at (omega arith), e))

module _ (loops : ℕ) (s : List ℕ) (at : ℕ) where
  pub form_all : at + 2 + loops ≤ length s →
      form loops s at ≡ got (record { constant = to_z w16 (get_or s at 0 + 256 * get_or s (at + 1) 0); coefficients = signeds loops s (at + 2) }) (at + 2 + loops)
  unfolding form
  form_all h = rw (sym (i16_is s at (le-leb (at + 2) (length s) (omega arith))), signeds_all s loops (at + 2) h)

  pub form_cut : at + 2 ≤ length s → length s < at + 2 + loops → form loops s at ≡ no 3 (length s)
  unfolding form
  form_cut h w = rw (sym (i16_is s at (le-leb (at + 2) (length s) h)), signeds-short s loops (at + 2) h w)

  pub form_short : length s < at + 2 → form loops s at ≡ no 3 at
  unfolding form
  form_short h = rw (sym (i16-not s at (lt-leb (at + 2) (length s) h)))
