-- One turn of a loop over index values: numbers of 16 bits that are read back from their bits of 32.
use mathlib.Core.Path.{◌≡◌, sym, ap, ap₂, ◌∙◌, subst}
use mathlib.Core.Bool.{Bool, true}
use Prim.Native.Nat.{ℕ}
use lib.IntN.{ℤ, pos, ◌+ℤ◌}
use mir.Syntax.{w16, w32}
use mir.Val.{SFits, to_z, of_z}
use mir.Facts.{to_z-of_z}
use Rattle.model.proofs.Abs.{widens}
use Rattle.unroller.specs.Run.{goes_on}
use Rattle.unroller.proofs.Indices.{Place, place-step}

-- what holds of the numbers read back holds of the numbers
module _ (first last step : ℤ) (ff : SFits w16 first) (fl : SFits w16 last) (fs : SFits w16 step) where
  pub turn-back : (P : ℤ → ℤ → ℤ → Type 0) → P (to_z w16 (of_z w16 step)) (to_z w16 (of_z w16 last)) (to_z w16 (of_z w16 first)) → P step last first
  turn-back P h =
      subst (λ (z : ℤ). P step last z) (to_z-of_z ff) (subst (λ (z : ℤ). P step z (to_z w16 (of_z w16 first))) (to_z-of_z fl)
      (subst (λ (z : ℤ). P z (to_z w16 (of_z w16 last)) (to_z w16 (of_z w16 first))) (to_z-of_z fs) h))

pub turn-wide : (v : ℤ) {x : ℤ} → SFits w16 v → x ≡ to_z w16 (of_z w16 v) → to_z w32 (of_z w32 x) ≡ v
turn-wide v f e = ap (λ (z : ℤ). to_z w32 (of_z w32 z)) e ∙ to_z-of_z (widens f w32 tt) ∙ to_z-of_z f

pub turn_goes : (step last index : ℤ) {s l : ℤ} {b r : Bool} → b ≡ goes_on s l index → s ≡ step → l ≡ last → b ≡ r → goes_on step last index ≡ r
turn_goes step last index e p q h = ap₂ (λ (s l : ℤ). goes_on s l index) (sym p) (sym q) ∙ sym e ∙ h

module _ (first last step : ℤ) (ff : SFits w16 first) (fl : SFits w16 last) (fs : SFits w16 step) (nz : step ≡ pos 0 → ⊥) (index : ℤ) (k : ℕ) (p : Place first last step index k) (g : goes_on step last index ≡ true) {y : ℤ} (e : y ≡ step) where
  pub turn_adds : SFits w32 (index +ℤ y)
  turn_adds = rw e (place-step first last step ff fl fs nz index k p g)

  pub turn_next : to_z w32 (of_z w32 (index +ℤ y)) ≡ index +ℤ step
  turn_next = to_z-of_z turn_adds ∙ ap (λ (y : ℤ). index +ℤ y) e
