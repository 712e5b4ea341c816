-- The array table: one record, and the state that it fills.
use Rattle.std.specs.Prelude.{if◌then◌else◌, Option, Some, None}
use mathlib.Core.Path.{◌≡◌, refl, ap, ◌∙◌}
use Prim.Native.Nat.{ℕ, zero, suc, ◌+◌, ◌-◌, ◌*◌, ◌<◌, ◌≤◌}
use mathlib.Core.List.{List, [], ◌∷◌}
use mathlib.Core.Bool.{Bool, true, false}
use mathlib.Core.Logic.{◌⊎◌, inl, inr}
use native.Mathlib.Omega.{arith}
use native.Mathlib.Nat.{mul-one, mul_assoc, mul-le-mul}
use lib.ListN.{length, get_or, drop, replicate, length-replicate, length-take, length-drop}
use lib.Dec.{eqb, ltb}
use Rattle.model.specs.Test.{within}
use Rattle.model.specs.Tables.{cells}
use Rattle.unroller.specs.Words.{got, none, and_then, times, zeros}
use Rattle.unroller.specs.Decode.{extents, array}
use Rattle.unroller.specs.State.{Filled}
use borrow.Rule.Slice.PartMut.{put_mid, mid_of}
use Rattle.std.proofs.Common.{rules}
use Rattle.std.proofs.lemmas.List.{places}
use Rattle.unroller.specs.CheckAnswers.{factor_of, Declares}
use Rattle.unroller.proofs.CheckWords.{at_one, at_three, within_true, within_low, within-high, within-most}

-- a part of a list that is filled
pub filled_part : (st part : List ℕ) (from n v : ℕ) → from + n ≤ length st → part ≡ replicate (length (mid_of from (from + n - from) st)) v → Filled st from n v (put_mid from (from + n - from) st part)
filled_part st part from n v h e =
    let m : length (mid_of from (from + n - from) st) ≡ n = simp (length-take, length-drop) (omega arith) in
    let q : part ≡ replicate n v = rw m at e in
    let p : length part ≡ n = ap length q ∙ length-replicate n v in
    record {
      same_length = search (rules, places);
      within = λ i a b. search (rules, places);
      below = λ i a. search (rules, places);
      above = λ i a. search (rules, places);
    }

-- factors
factor_bad_extent : (x : ℕ) → None ≡ factor_of true x → within 1 1024 x ≡ false
unfolding factor_of
factor_bad_extent x e = by (within 1 1024 x) e
  where
    by : (t : Bool) → None ≡ (if t then Some x else None) → t ≡ false
    by true e = absurd (cc)
    by false e = refl

factor_extent : (x v : ℕ) → Some v ≡ factor_of true x → (within 1 1024 x ≡ true) × (v ≡ x)
unfolding factor_of
factor_extent x v e = by (within 1 1024 x) e
  where
    by : (t : Bool) → Some v ≡ (if t then Some x else None) → (t ≡ true) × (v ≡ x)
    by true e = (refl, cc)
    by false e = absurd (cc)

factor_bad_blank : (x : ℕ) → None ≡ factor_of false x → eqb x 0 ≡ false
unfolding factor_of
factor_bad_blank x e = by (eqb x 0) e
  where
    by : (t : Bool) → ◌≡◌ {A = Option ℕ} None (if t then Some 1 else None) → t ≡ false
    by true e = absurd (cc)
    by false e = refl

factor_blank : (x v : ℕ) → Some v ≡ factor_of false x → (eqb x 0 ≡ true) × (v ≡ 1)
unfolding factor_of
factor_blank x v e = by (eqb x 0) e
  where
    by : (t : Bool) → ◌≡◌ {A = Option ℕ} (Some v) (if t then Some 1 else None) → (t ≡ true) × (v ≡ 1)
    by true e = (refl, cc)
    by false e = absurd (cc)

pub factor-small : (u : Bool) (x v : ℕ) → Some v ≡ factor_of u x → v ≤ 1024
factor-small true x v e = let (w, f) = factor_extent x v e in let l = within-most 1 1024 x w in omega arith
factor-small false x v e = let (w, f) = factor_blank x v e in omega arith

-- extents
module _ (a b c : ℕ) (rest : List ℕ) where
  ex_first : (d : ℕ) → 1 ≤ d → None ≡ factor_of true a → extents d (a ∷ b ∷ c ∷ rest) ≡ none
  unfolding extents times
  ex_first zero h e = absurd (omega arith)
  ex_first (suc d) h e = rw (factor_bad_extent a e)

  module _ (x : ℕ) (ex : Some x ≡ factor_of true a) where
    fx : (within 1 1024 a ≡ true) × (x ≡ a)
    fx = factor_extent a x ex

    ex_second : (d : ℕ) → 1 ≤ d → d ≤ 3 → None ≡ factor_of (ltb 1 d) b → extents d (a ∷ b ∷ c ∷ rest) ≡ none
    unfolding extents times zeros
    ex_second zero h w e = absurd (omega arith)
    ex_second (suc zero) h w e = rw (fx.0, factor_bad_blank b e)
    ex_second (suc (suc zero)) h w e = rw (fx.0, factor_bad_extent b e)
    ex_second (suc (suc (suc zero))) h w e = rw (fx.0, factor_bad_extent b e)
    ex_second (suc (suc (suc (suc d)))) h w e = absurd (omega arith)

    module _ (y : ℕ) where
      ex_third : (d : ℕ) → 1 ≤ d → d ≤ 3 → Some y ≡ factor_of (ltb 1 d) b → None ≡ factor_of (ltb 2 d) c → extents d (a ∷ b ∷ c ∷ rest) ≡ none
      unfolding extents times zeros
      ex_third zero h w ey e = absurd (omega arith)
      ex_third (suc zero) h w ey e = rw (fx.0, (factor_blank b y ey).0, factor_bad_blank c e)
      ex_third (suc (suc zero)) h w ey e = rw (fx.0, (factor_extent b y ey).0, factor_bad_blank c e)
      ex_third (suc (suc (suc zero))) h w ey e = rw (fx.0, (factor_extent b y ey).0, factor_bad_extent c e)
      ex_third (suc (suc (suc (suc d)))) h w ey e = absurd (omega arith)

      ex_ok : (z d : ℕ) → 1 ≤ d → d ≤ 3 → Some y ≡ factor_of (ltb 1 d) b → Some z ≡ factor_of (ltb 2 d) c →
          (es : List ℕ) × (extents d (a ∷ b ∷ c ∷ rest) ≡ got es rest) × (cells es ≡ x * y * z)
      unfolding extents times zeros
      ex_ok z zero h w ey ez = absurd (omega arith)
      ex_ok z (suc zero) h w ey ez =
          let q = factor_blank b y ey in
          let r = factor_blank c z ez in
          (a ∷ [], rw (fx.0, q.0, r.0), rw (fx.1, q.1, r.1) (omega arith))
      ex_ok z (suc (suc zero)) h w ey ez =
          let q = factor_extent b y ey in
          let r = factor_blank c z ez in
          (a ∷ b ∷ [], rw (fx.0, q.0, r.0), rw (fx.1, q.1, r.1) (by_one a b))
        where
          by_one : (a b : ℕ) → a * (b * 1) ≡ a * b * 1
          by_one a b = rw (mul-one b, mul-one (a * b))
      ex_ok z (suc (suc (suc zero))) h w ey ez =
          let q = factor_extent b y ey in
          let r = factor_extent c z ez in
          (a ∷ b ∷ c ∷ [], rw (fx.0, q.0, r.0), rw (fx.1, q.1, r.1) (by_three a b c))
        where
          by_three : (a b c : ℕ) → a * (b * (c * 1)) ≡ a * b * c
          by_three a b c = rw (mul-one c, mul_assoc a b c)
      ex_ok z (suc (suc (suc (suc d)))) h w ey ez = absurd (omega arith)

module _ (s : List ℕ) (p : ℕ) (h : p + 5 ≤ length s) where
  at_five : drop p s ≡ get_or s p 0 ∷ get_or s (p + 1) 0 ∷ get_or s (p + 2) 0 ∷ get_or s (p + 3) 0 ∷ get_or s (p + 4) 0 ∷ drop (p + 5) s
  at_five =
      let x = at_one s p (omega arith) in
      let y = at_one s (p + 1) (omega arith) in
      let z = at_three s (p + 2) (omega arith) in
      let e : p + 1 + 1 ≡ p + 2 = omega arith in
      let e1 : p + 2 + 1 ≡ p + 3 = omega arith in
      let e2 : p + 2 + 2 ≡ p + 4 = omega arith in
      let e3 : p + 2 + 3 ≡ p + 5 = omega arith in
      x ∙ ap (λ (l : List ℕ). get_or s p 0 ∷ l) (rw e at y ∙ ap (λ (l : List ℕ). get_or s (p + 1) 0 ∷ l) (rw (e1, e2, e3) at z))

  pub dec_bad : (3 < get_or s p 0) ⊎ ((get_or s p 0 ≤ 3 × get_or s (p + 1) 0 < 1) ⊎ (get_or s p 0 ≤ 3 × 1 ≤ get_or s (p + 1) 0 × 3 < get_or s (p + 1) 0)) → Declares s p None
  unfolding array
  dec_bad (inl r) = rw (at_five, within-high 0 3 (get_or s p 0) r)
  dec_bad (inr (inl (r, d))) = rw (at_five, within_true 0 3 (get_or s p 0) (omega arith) r, within_low 1 3 (get_or s (p + 1) 0) d)
  dec_bad (inr (inr (r, l, d))) = rw (at_five, within_true 0 3 (get_or s p 0) (omega arith) r, within-high 1 3 (get_or s (p + 1) 0) d)

  module _ (r : get_or s p 0 ≤ 3) where
    module _ (dl : 1 ≤ get_or s (p + 1) 0) (dh : get_or s (p + 1) 0 ≤ 3) where
      here : array (drop p s) ≡ and_then (extents (get_or s (p + 1) 0) (get_or s (p + 2) 0 ∷ get_or s (p + 3) 0 ∷ get_or s (p + 4) 0 ∷ drop (p + 5) s)) (λ es rest. got (record { role = get_or s p 0; extents = es }) rest)
      unfolding array
      here = rw (at_five, within_true 0 3 (get_or s p 0) (omega arith) r, within_true 1 3 (get_or s (p + 1) 0) dl dh)

      pub dec_first : None ≡ factor_of true (get_or s (p + 2) 0) → Declares s p None
      dec_first e = here ∙ rw (ex_first _ _ _ (drop (p + 5) s) (get_or s (p + 1) 0) dl e)

      module _ (x : ℕ) (ex : Some x ≡ factor_of true (get_or s (p + 2) 0)) where
        pub dec_second : None ≡ factor_of (ltb 1 (get_or s (p + 1) 0)) (get_or s (p + 3) 0) → Declares s p None
        dec_second e = here ∙ rw (ex_second _ _ _ (drop (p + 5) s) x ex (get_or s (p + 1) 0) dl dh e)

        module _ (y : ℕ) (ey : Some y ≡ factor_of (ltb 1 (get_or s (p + 1) 0)) (get_or s (p + 3) 0)) where
          pub dec_third : None ≡ factor_of (ltb 2 (get_or s (p + 1) 0)) (get_or s (p + 4) 0) → Declares s p None
          dec_third e = here ∙ rw (ex_third _ _ _ (drop (p + 5) s) x ex y (get_or s (p + 1) 0) dl dh ey e)

          pub dec_is : (z : ℕ) → Some z ≡ factor_of (ltb 2 (get_or s (p + 1) 0)) (get_or s (p + 4) 0) → x * y * z ≤ 1073741824 → Declares s p (Some (get_or s p 0, x * y * z))
          dec_is z ez l =
              let o = ex_ok _ _ _ (drop (p + 5) s) x ex y z (get_or s (p + 1) 0) dl dh ey ez in
              (record { role = get_or s p 0; extents = o.0 }, here ∙ rw o.1, refl, o.2, r, l)

-- three factors
pub two_fit : (x y : ℕ) → x ≤ 1024 → y ≤ 1024 → x * y ≤ 1048576
two_fit x y a b = mul-le-mul a b

pub three_fit : (x y z : ℕ) → x ≤ 1024 → y ≤ 1024 → z ≤ 1024 → x * y * z ≤ 1073741824
three_fit x y z a b c = mul-le-mul (two_fit x y a b) c
