-- The index values of a loop: where the index is, raised to the naturals, and that no more than 65,536 rounds follow.
use mathlib.Core.Path.{◌≡◌, refl, sym, ap, ◌∙◌}
use mathlib.Core.Bool.{Bool, true, false, cond, false≢true}
use mathlib.Core.List.{List, [], ◌∷◌}
use Prim.Native.Nat.{ℕ, zero, suc, ◌+◌, ◌-◌, ◌≤◌, ◌<◌}
use native.Mathlib.Omega.{arith}
use borrow.Author.Tests.{ltb-true, ltb-false, leb-true}
use lib.IntN.{ℤ, pos, negsuc, ◌+ℤ◌, nat_abs}
use lib.Signed.{lt_z, le_z}
use mir.Syntax.{w16, w32}
use mir.Val.{SFits}
use Rattle.model.proofs.Abs.{abs_sfits}
use Rattle.model.proofs.Up.{up, up_le, up_add, abs_up, up-i16, i16-up, i32_up}
use Rattle.unroller.specs.Run.{goes_on, indices}

-- an index within 65,536 of 0, and k rounds that are enough from it
pub record Place (first last step index : ℤ) (k : ℕ) : Type 0 where
  pub low : 4294901760 ≤ up index
  pub high : up index ≤ 4295032832
  pub rising : lt_z (pos 0) step ≡ true → (up first ≤ up index) × (up last + 1 ≤ up index + k)
  pub falling : lt_z (pos 0) step ≡ false → (up index ≤ up first) × (up index + 1 ≤ up last + k)

pick : Bool → List ℤ → List ℤ
pick b xs = elim b [ true ↦ xs | false ↦ [] ]

by : {P : Type 0} (t : Bool) → (t ≡ true → P) → (t ≡ false → P) → P
by true f g = f refl
by false f g = g refl

-- a step's sign decides the test
goes_up : (step last i : ℤ) → lt_z (pos 0) step ≡ true → goes_on step last i ≡ le_z i last
goes_up (pos n) last i e = refl
goes_up (negsuc n) last i e = absurd (false≢true e)

goes_down : (step last i : ℤ) → (step ≡ pos 0 → ⊥) → lt_z (pos 0) step ≡ false → goes_on step last i ≡ le_z last i
goes_down (pos n) last i nz e = let k : n ≤ 0 = ltb-false 0 n e in let z : n ≡ 0 = omega arith in absurd (nz (ap pos z))
goes_down (negsuc n) last i nz e = refl

step_rises : (s : ℤ) → lt_z (pos 0) s ≡ true → 4294967296 < up s
step_rises (pos n) h = omega (arith, ltb-true 0 n h)
step_rises (negsuc n) h = absurd (false≢true h)

step_falls : (s : ℤ) → (s ≡ pos 0 → ⊥) → nat_abs s ≤ 4294967296 → lt_z (pos 0) s ≡ false → up s < 4294967296
step_falls (pos n) nz b h = let k : n ≤ 0 = ltb-false 0 n h in let z : n ≡ 0 = omega arith in absurd (nz (ap pos z))
step_falls (negsuc n) nz b h = omega arith

le_up : (a b : ℤ) → nat_abs a ≤ 4294967296 → nat_abs b ≤ 4294967296 → le_z a b ≡ true → up a ≤ up b
le_up a b h j e = leb-true (up a) (up b) (sym (up_le a b h j) ∙ e)

-- how far the index is from the loop's end
unfoldable pub dist : ℤ → ℤ → ℤ → ℕ
dist step last index = cond (lt_z (pos 0) step) (up last + 1 - up index) (up index + 1 - up last)

module _ (first last step : ℤ) (ff : SFits w16 first) (fl : SFits w16 last) where
  pub place_none : Place first last step first 65536
  place_none =
      let f = up-i16 first ff in
      let l = up-i16 last fl in
      record { low = omega arith; high = omega arith; rising = λ e. omega arith; falling = λ e. omega arith }

  module _ (fs : SFits w16 step) (nz : step ≡ pos 0 → ⊥) (index : ℤ) (k : ℕ) (p : Place first last step index k) (g : goes_on step last index ≡ true) where
    small : nat_abs index ≤ 65536
    small = abs_up index 65536 (omega arith) (omega (arith, p.low)) (omega (arith, p.high))

    up_test : lt_z (pos 0) step ≡ true → up index ≤ up last
    up_test e = le_up index last (omega (arith, small)) (omega (arith, abs_sfits fl)) (sym (goes_up step last index e) ∙ g)

    down_test : lt_z (pos 0) step ≡ false → up last ≤ up index
    down_test e = le_up last index (omega (arith, abs_sfits fl)) (omega (arith, small)) (sym (goes_down step last index nz e) ∙ g)

    falls : lt_z (pos 0) step ≡ false → up step < 4294967296
    falls e = step_falls step nz (omega (arith, abs_sfits fs)) e

    pub place-fits : SFits w16 index
    place-fits = by (lt_z (pos 0) step)
        (λ e. i16-up index (omega (arith, up-i16 first ff, p.rising e)) (omega (arith, up-i16 last fl, up_test e)))
        (λ e. i16-up index (omega (arith, up-i16 last fl, down_test e)) (omega (arith, up-i16 first ff, p.falling e)))

    place_some : 0 < k
    place_some = by (lt_z (pos 0) step) (λ e. omega (arith, p.rising e, up_test e)) (λ e. omega (arith, p.falling e, down_test e))

    sum : up (index +ℤ step) + 4294967296 ≡ up index + up step
    sum = up_add index step (omega (arith, small)) (omega (arith, abs_sfits fs))

    pub place-step : SFits w32 (index +ℤ step)
    place-step =
        let f = up-i16 index place-fits in
        let s = up-i16 step fs in
        i32_up (index +ℤ step) (omega (arith, sum)) (omega (arith, sum))

    pub place_more : Place first last step (index +ℤ step) (k - 1)
    place_more =
        let f = up-i16 index place-fits in
        let s = up-i16 step fs in
        record {
          low = omega (arith, sum);
          high = omega (arith, sum);
          rising = λ e. omega (arith, sum, step_rises step e, p.rising e, place_some);
          falling = λ e. omega (arith, sum, falls e, p.falling e, place_some);
        }

    pub indices_more : indices k step last index ≡ index ∷ indices (k - 1) step last (index +ℤ step)
    unfolding indices pick
    indices_more = go k place_some
      where
        go : (j : ℕ) → 0 < j → indices j step last index ≡ index ∷ indices (j - 1) step last (index +ℤ step)
        go zero h = absurd (omega arith)
        go (suc j) h =
            let e : suc j - 1 ≡ j = omega arith in
            ap (λ (b : Bool). pick b (index ∷ indices j step last (index +ℤ step))) g ∙ ap (λ (i : ℕ). index ∷ indices i step last (index +ℤ step)) (sym e)

    pub dist-falls : dist step last (index +ℤ step) < dist step last index
    unfolding dist
    dist-falls = by (lt_z (pos 0) step) (λ e. rw e (omega (arith, sum, step_rises step e, up_test e))) (λ e. rw e (omega (arith, sum, falls e, down_test e)))

pub indices_none : (k : ℕ) (step last index : ℤ) → goes_on step last index ≡ false → indices k step last index ≡ []
unfolding indices pick
indices_none zero step last index g = refl
indices_none (suc k) step last index g = ap (λ (b : Bool). pick b (index ∷ indices k step last (index +ℤ step))) g
