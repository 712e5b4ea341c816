-- Tables by value: what the code's `Tables` say of an operator or an array.
use mathlib.Core.Path.{◌≡◌, refl, sym, ap, ◌∙◌}
use Prim.Native.Nat.{ℕ, zero, suc, ◌+◌, ◌*◌, ◌≤◌, ◌<◌, min}
use mathlib.Core.List.{List, [], ◌∷◌}
use native.Mathlib.Omega.{arith}
use mathlib.Core.Bool.{Bool, true, false}
use lib.ListN.{length, get_or, get_or-eq_default}
use lib.Dec.{ltb}
use borrow.Author.Tests.{ltb-true, ltb-false}
use Rattle.model.specs.Tables.{Array, array_at}
use Rattle.reader.specs.Entries.{cut, array_of, arrays_of, unpacked}
use Rattle.reader.specs.declared.tables.Tables.{Tables as Packed}

pub length_cut : (n from : ℕ) (l : List ℕ) → length (cut n from l) ≡ n
unfolding cut
length_cut zero from l = refl
length_cut (suc n) from l = ap suc (length_cut n (from + 1) l)

pub get_d_cut : (n from : ℕ) (l : List ℕ) (i : ℕ) → i < n → get_or (cut n from l) i 0 ≡ get_or l (from + i) 0
unfolding cut
get_d_cut zero from l i h = absurd (omega arith)
get_d_cut (suc n) from l zero h = let e : from + 0 ≡ from = omega arith in rw e
get_d_cut (suc n) from l (suc i) h = let e : from + 1 + i ≡ from + suc i = omega arith in get_d_cut n (from + 1) l i (omega arith) ∙ ap (λ (j : ℕ). get_or l j 0) e

module _ (t : Packed) where
  pub length-arrays : (n a : ℕ) → length (arrays_of t n a) ≡ n
  unfolding arrays_of
  length-arrays zero a = refl
  length-arrays (suc n) a = ap suc (length-arrays n (a + 1))

  get_d_arrays : (n a : ℕ) (d : Array) (i : ℕ) → i < n → get_or (arrays_of t n a) i d ≡ array_of t (a + i)
  unfolding arrays_of
  get_d_arrays zero a d i h = absurd (omega arith)
  get_d_arrays (suc n) a d zero h = let e : a + 0 ≡ a = omega arith in rw e
  get_d_arrays (suc n) a d (suc i) h = let e : a + 1 + i ≡ a + suc i = omega arith in get_d_arrays n (a + 1) d i (omega arith) ∙ ap (array_of t) e

  pub operators_are : length (unpacked t).operators ≡ min t.operators 16
  unfolding unpacked
  operators_are = length_cut (min t.operators 16) 0 t.bytes

  pub arrays_are : length (unpacked t).arrays ≡ min t.arrays 16
  unfolding unpacked
  arrays_are = length-arrays (min t.arrays 16) 0

  module _ (o : ℕ) where
    pub operator_in_lem : o < min t.operators 16 → get_or t.bytes o 0 ≡ get_or (unpacked t).operators o 0
    unfolding unpacked
    operator_in_lem h = let e : 0 + o ≡ o = omega arith in sym (get_d_cut (min t.operators 16) 0 t.bytes o h ∙ ap (λ (j : ℕ). get_or t.bytes j 0) e)

    pub operator_out : min t.operators 16 ≤ o → 0 ≡ get_or (unpacked t).operators o 0
    operator_out h = sym (get_or-eq_default (unpacked t).operators 0 (omega (arith, operators_are)))

  module _ (a : ℕ) where
    pub array_in : a < min t.arrays 16 → array_at (unpacked t).arrays a ≡ array_of t a
    unfolding unpacked
    array_in h = let e : 0 + a ≡ a = omega arith in get_d_arrays (min t.arrays 16) 0 _ a h ∙ ap (array_of t) e

    pub array_out : min t.arrays 16 ≤ a → array_at (unpacked t).arrays a ≡ record { role = 3; extents = 0 ∷ [] }
    array_out h = get_or-eq_default (unpacked t).arrays _ (omega (arith, arrays_are))

    pub role_in : a < min t.arrays 16 → get_or t.roles a 0 ≡ (array_at (unpacked t).arrays a).role
    unfolding array_of
    role_in h = sym (ap (λ (x : Array). x.role) (array_in h))

    pub role_out : min t.arrays 16 ≤ a → 3 ≡ (array_at (unpacked t).arrays a).role
    role_out h = sym (ap (λ (x : Array). x.role) (array_out h))

    pub dimensions_in : a < min t.arrays 16 → min (get_or t.dimensions a 0) 3 ≡ length (array_at (unpacked t).arrays a).extents
    unfolding array_of
    dimensions_in h = sym (ap (λ (x : Array). length x.extents) (array_in h) ∙ length_cut (min (get_or t.dimensions a 0) 3) (3 * a) t.extents)

    pub dimensions_out : min t.arrays 16 ≤ a → 1 ≡ length (array_at (unpacked t).arrays a).extents
    dimensions_out h = sym (ap (λ (x : Array). length x.extents) (array_out h))

    pub dimensions-few : length (array_at (unpacked t).arrays a).extents ≤ 3
    dimensions-few = go (ltb a (min t.arrays 16)) refl
      where
        go : (b : Bool) → ltb a (min t.arrays 16) ≡ b → length (array_at (unpacked t).arrays a).extents ≤ 3
        go true e = let h = dimensions_in (ltb-true a (min t.arrays 16) e) in omega arith
        go false e = let h = dimensions_out (ltb-false a (min t.arrays 16) e) in omega arith

    module _ (k : ℕ) where
      pub extent_in : a < length (unpacked t).arrays → k < length (array_at (unpacked t).arrays a).extents → get_or t.extents (3 * a + k) 0 ≡ get_or (array_at (unpacked t).arrays a).extents k 0
      unfolding array_of
      extent_in h g =
          let m = arrays_are in
          let w : a < min t.arrays 16 = omega arith in
          let d = dimensions_in w in
          sym (ap (λ (x : Array). get_or x.extents k 0) (array_in w) ∙ get_d_cut (min (get_or t.dimensions a 0) 3) (3 * a) t.extents k (omega arith))

      pub extent_none : length (unpacked t).arrays ≤ a → 0 ≡ get_or (array_at (unpacked t).arrays a).extents k 0
      extent_none h = let m = arrays_are in sym (ap (λ (x : Array). get_or x.extents k 0) (array_out (omega arith)) ∙ go k)
        where
          go : (k : ℕ) → ◌≡◌ {A = ℕ} (get_or (0 ∷ []) k 0) 0
          go zero = refl
          go (suc k) = refl
