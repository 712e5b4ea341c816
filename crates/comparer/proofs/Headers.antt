-- Questions 22 and 23, from the words of two headers.
use Rattle.std.specs.Prelude.{Result, Ok, Err}
use Prim.Native.Nat.{ℕ, zero, suc, ◌+◌, ◌-◌, ◌*◌, ◌/◌, ◌%◌, ◌≤◌, ◌<◌, min, max}
use native.Mathlib.Omega.{arith}
use mathlib.Core.Path.{◌≡◌, refl, sym, ap, ◌∙◌, subst}
use mathlib.Core.List.{List, [], ◌∷◌}
use mathlib.Core.Bool.{Bool, true, false, ◌||◌, not, and-eq-true_iff}
use lib.ListN.{length, get_or, take}
use lib.Seq.{get_or-take, ext_get_or, length-take-le}
use lib.Dec.{eqb}
use borrow.Author.Count.{below_more}
use borrow.Author.Tests.{eq-eqb, ne_eqb}
use Rattle.model.specs.Test.{every}
use Rattle.model.specs.Tables as model
use Rattle.model.specs.Tables.{Array, array_at, local}
use Rattle.model.specs.Reply.{Reply, refused, both}
use Rattle.unroller.specs.Allowed.{locals_last, allowed_array}
use Rattle.unroller.specs.Stands.{ArrayAt}
use Rattle.unroller.specs.State.{nowhere}
use Rattle.unroller.proofs.Parts as parts
use Rattle.comparer.specs.Match.{same_numbers, same_array, non_local, same_table}
use Rattle.comparer.specs.Headers.{Heads, Counted, Leads, FirstApart, ArraysTell, OperatorsTell, TablesTell}
use Rattle.comparer.specs.declared.tables.Unequal.{Unequal}
use Rattle.comparer.specs.declared.tables.Unequal.TheVariants as unequal
use Rattle.comparer.proofs.SameTables.{same_array_sound, same_numbers_lem, after-local, non_local_none}

-- two tables that are alike before number k, and not at it
module _ {A : Type 0} (alike : A → A → Bool) (question : ℕ) (agreed : Reply) (d : A) where
  abbrev Alike : ℕ → List A → List A → Type 0
  Alike k xs ys =
      (k ≤ length xs) × (k ≤ length ys)
      × ((j : ℕ) → j < k → alike (get_or xs j d) (get_or ys j d) ≡ true)
      × (k < length xs → k < length ys → alike (get_or xs k d) (get_or ys k d) ≡ false)

  later : (k : ℕ) (x y : A) (xs ys : List A) → Alike (suc k) (x ∷ xs) (y ∷ ys) → Alike k xs ys
  later k x y xs ys (a, b, e, f) = (omega arith, omega arith, λ j h. e (suc j) (omega arith), λ h g. f (omega arith) (omega arith))

  table_differs : (s k : ℕ) (xs ys : List A) → Alike k xs ys → k < max (length xs) (length ys) → same_table alike question agreed s xs ys ≡ refused both question (s + k)
  table_differs s zero [] [] h l = absurd (omega arith)
  table_differs s zero [] (y ∷ ys) h l = ap (refused both question) (omega arith)
  table_differs s zero (x ∷ xs) [] h l = ap (refused both question) (omega arith)
  table_differs s zero (x ∷ xs) (y ∷ ys) h l = let e : s + 0 ≡ s = omega arith in rw (h.3 (omega arith) (omega arith), e)
  table_differs s (suc k) [] ys h l = let a = h.0 in absurd (omega arith)
  table_differs s (suc k) (x ∷ xs) [] h l = let a = h.1 in absurd (omega arith)
  table_differs s (suc k) (x ∷ xs) (y ∷ ys) h l =
      let e : s + suc k ≡ suc s + k = omega arith in
      rw (h.2 0 (omega arith), e) (table_differs (suc s) k xs ys (later k x y xs ys h) (omega arith))

  table_agrees : (s k : ℕ) (xs ys : List A) → Alike k xs ys → max (length xs) (length ys) ≤ k → same_table alike question agreed s xs ys ≡ agreed
  table_agrees s k [] [] h l = refl
  table_agrees s k [] (y ∷ ys) h l = let a = h.0 in absurd (omega arith)
  table_agrees s k (x ∷ xs) [] h l = let a = h.1 in absurd (omega arith)
  table_agrees s zero (x ∷ xs) (y ∷ ys) h l = absurd (omega arith)
  table_agrees s (suc k) (x ∷ xs) (y ∷ ys) h l = rw (h.2 0 (omega arith)) (table_agrees (suc s) k xs ys (later k x y xs ys h) (omega arith))

  -- number k, that of the first entry that differs, or the length of both
  pub table_at : (k : ℕ) (xs ys : List A) → Alike k xs ys
      → (k < max (length xs) (length ys) → same_table alike question agreed 0 xs ys ≡ refused both question k)
      × (max (length xs) (length ys) ≤ k → same_table alike question agreed 0 xs ys ≡ agreed)
  table_at k xs ys h = (λ l. let z : 0 + k ≡ k = omega arith in table_differs 0 k xs ys h l ∙ ap (refused both question) z, λ l. table_agrees 0 k xs ys h l)

-- headers
module _ (list : List ℕ) (t : model.Tables) (h : Heads list t) where
  pub counted : Counted list
  counted =
      let p = parts.tables-parts t h.allows in
      let n = parts.within-high 0 16 (length t.operators) p.operators in
      let m = parts.within-high 1 16 (length t.arrays) p.count in
      let a = h.header.operators in
      let b = h.header.count in
      record { room = h.header.room; operators = omega arith; arrays = omega arith }

  -- the leading arrays are the non-local ones
  leading : (n : ℕ) → Leads list n → (non_local t.arrays ≡ take n t.arrays) × (n ≤ length t.arrays)
  leading n l =
      let b = h.header.count in
      let most = l.most in (
        prefix n t.arrays false (parts.tables-parts t h.allows).order (omega arith)
            (λ a k. ne_eqb (array_at t.arrays a).role 3 (λ e. l.before a k ((h.header.array a (omega arith)).role ∙ e)))
            (λ k. eq-eqb (array_at t.arrays n).role 3 (sym (h.header.array n k).role ∙ l.ends (omega arith))),
        omega arith,
      )
    where
      prefix : (n : ℕ) (xs : List Array) (after : Bool) → locals_last after xs ≡ true → n ≤ length xs
          → ((a : ℕ) → a < n → local (array_at xs a) ≡ false) → (n < length xs → local (array_at xs n) ≡ true) → non_local xs ≡ take n xs
      prefix zero [] after o l b e = refl
      prefix zero (x ∷ xs) after o l b e =
          let f : local x ≡ true = e (omega arith) in
          let p = (and-eq-true_iff (not after || local x) (locals_last (local x) xs)).0 o in
          rw (f, non_local_none xs (after-local xs (rw f at p.1)))
      prefix (suc n) [] after o l b e = absurd (omega arith)
      prefix (suc n) (x ∷ xs) after o l b e =
          let f : local x ≡ false = b 0 (omega arith) in
          let p = (and-eq-true_iff (not after || local x) (locals_last (local x) xs)).0 o in
          rw (f, prefix n xs (local x) p.1 (omega arith) (λ a k. b (suc a) (omega arith)) (λ k. e (omega arith)))

-- the five words of two arrays
module _ (left right : List ℕ) (at : ℕ) (x y : Array) (h : ArrayAt left at x) (g : ArrayAt right at y) where
  Same : ℕ → Type 0
  Same d = get_or left (at + d) 0 ≡ get_or right (at + d) 0

  words_same : length x.extents ≤ 3 → ((d : ℕ) → d < 5 → Same d) → same_array x y ≡ true
  unfolding Same
  words_same n e =
      let z : at + 0 ≡ at = omega arith in
      let role : x.role ≡ y.role = sym h.role ∙ (rw z at (e 0 (omega arith))) ∙ g.role in
      let size : length x.extents ≡ length y.extents = sym h.dimensions ∙ e 1 (omega arith) ∙ g.dimensions in
      let extents : x.extents ≡ y.extents = ext_get_or 0 x.extents y.extents size (λ i k. sym (h.extent i (omega arith)) ∙ third i (omega arith) ∙ g.extent i (omega arith)) in
      (and-eq-true_iff (eqb x.role y.role) (same_numbers x.extents y.extents)).1
      (eq-eqb x.role y.role role, rw extents (same_numbers_lem y.extents))
    where
      third : (i : ℕ) → i < 3 → get_or left (at + 2 + i) 0 ≡ get_or right (at + 2 + i) 0
      third i k = let p : at + 2 + i ≡ at + (2 + i) = omega arith in rw p (e (2 + i) (omega arith))

  words-like : same_array x y ≡ true → (d : ℕ) → d < 5 → Same d
  unfolding Same
  words-like e = by (subst (λ (z : Array). ArrayAt right at z) (sym (same_array_sound x y e)) g)
    where
      by : ArrayAt right at x → (d : ℕ) → d < 5 → Same d
      by k zero l = let z : at + 0 ≡ at = omega arith in rw z (h.role ∙ sym k.role)
      by k (suc zero) l = h.dimensions ∙ sym k.dimensions
      by k (suc (suc d)) l = let p : at + suc (suc d) ≡ at + 2 + d = omega arith in rw p (h.extent d (omega arith) ∙ sym (k.extent d (omega arith)))

  words-apart : (d : ℕ) → d < 5 → (Same d → ⊥) → same_array x y ≡ false
  words-apart d l f = by (same_array x y) refl
    where
      by : (b : Bool) → same_array x y ≡ b → same_array x y ≡ false
      by true e = absurd (f (words-like e d l))
      by false e = e

extents-few : (xs : List Array) (a : ℕ) → every allowed_array xs ≡ true → a < length xs → length (array_at xs a).extents ≤ 3
extents-few [] a e l = absurd (omega arith)
extents-few (x ∷ xs) zero e l = parts.within-high 1 3 (length x.extents) (parts.array_parts x (parts.both (allowed_array x) (every allowed_array xs) e).0).dimensions
extents-few (x ∷ xs) (suc a) e l = extents-few xs a (parts.both (allowed_array x) (every allowed_array xs) e).1 (omega arith)

module _ (left right : List ℕ) where
  -- Same non-local arrays? An array is five words.
  module _ (n m end i : ℕ) (p : Leads left n) (q : Leads right m) (f : FirstApart left right 18 end i) (within : end ≡ 18 + 5 * min n m) where
    arrays_at : (agreed : Reply) (x y : model.Tables) → Heads left x → Heads right y → let k = (i - 18) / 5 in
        (k < max n m → same_table same_array 22 agreed 0 (non_local x.arrays) (non_local y.arrays) ≡ refused both 22 k)
        × (max n m ≤ k → same_table same_array 22 agreed 0 (non_local x.arrays) (non_local y.arrays) ≡ agreed)
    unfolding Same
    arrays_at agreed x y h g =
        let k : ℕ = (i - 18) / 5 in
        let xs = x.arrays in
        let ys = y.arrays in
        let a = leading left x h n p in
        let b = leading right y g m q in
        let l = length-take-le n xs a.1 in
        let o = length-take-le m ys b.1 in
        let low = f.low in
        let high = f.high in
        let start : (j : ℕ) → j < length xs → ArrayAt left (18 + 5 * j) (array_at xs j) = h.header.array in
        let other : (j : ℕ) → j < length ys → ArrayAt right (18 + 5 * j) (array_at ys j) = g.header.array in
        let same : (j : ℕ) → j < k → same_array (array_at (take n xs) j) (array_at (take m ys) j) ≡ true =
        λ j c. rw (get_or-take n xs j nowhere (omega arith), get_or-take m ys j nowhere (omega arith))
        (words_same left right (18 + 5 * j) (array_at xs j) (array_at ys j) (start j (omega arith)) (other j (omega arith))
        (extents-few xs j (parts.tables-parts x h.allows).each (omega arith)) (λ d s. f.same (18 + 5 * j + d) (omega arith) (omega arith))) in
        let apart : k < length (take n xs) → k < length (take m ys) → same_array (array_at (take n xs) k) (array_at (take m ys) k) ≡ false =
        λ c s.
        let w : 18 + 5 * k + (i - 18) % 5 ≡ i = omega arith in
        rw (get_or-take n xs k nowhere (omega arith), get_or-take m ys k nowhere (omega arith))
        (words-apart left right (18 + 5 * k) (array_at xs k) (array_at ys k) (start k (omega arith)) (other k (omega arith))
        ((i - 18) % 5) (omega arith) (λ z. f.apart (omega arith) (rw w at z))) in
        rw (a.0, b.0) (rw (l, o) at (table_at same_array 22 agreed nowhere k (take n xs) (take m ys) (omega arith, omega arith, same, apart)))

    pub arrays-differ : (i - 18) / 5 < max n m → ArraysTell left right (Err (unequal.Arrays ((i - 18) / 5)))
    unfolding ArraysTell
    arrays-differ l x y h g agreed = (arrays_at agreed x y h g).0 l

    pub arrays_agree : max n m ≤ (i - 18) / 5 → ArraysTell left right (Ok tt)
    unfolding ArraysTell
    arrays_agree l x y h g agreed = (arrays_at agreed x y h g).1 l

  -- Same operator tables? An operator is one word.
  module _ (i : ℕ) (f : FirstApart left right 1 (1 + min (get_or left 0 0) (get_or right 0 0)) i) where
    operators_at : (agreed : Reply) (x y : model.Tables) → Heads left x → Heads right y
        → (i - 1 < max (get_or left 0 0) (get_or right 0 0) → same_table eqb 23 agreed 0 x.operators y.operators ≡ refused both 23 (i - 1))
        × (max (get_or left 0 0) (get_or right 0 0) ≤ i - 1 → same_table eqb 23 agreed 0 x.operators y.operators ≡ agreed)
    operators_at agreed x y h g =
        let k : ℕ = i - 1 in
        let xs = x.operators in
        let ys = y.operators in
        let n = h.header.operators in
        let m = g.header.operators in
        let c = (counted left x h).operators in
        let d = (counted right y g).operators in
        let low = f.low in
        let high = f.high in
        let same : (j : ℕ) → j < k → eqb (get_or xs j 0) (get_or ys j 0) ≡ true =
        λ j s. eq-eqb (get_or xs j 0) (get_or ys j 0) (sym (h.header.word j (omega arith)) ∙ f.same (1 + j) (omega arith) (omega arith) ∙ g.header.word j (omega arith)) in
        let apart : k < length xs → k < length ys → eqb (get_or xs k 0) (get_or ys k 0) ≡ false =
        λ s t.
        let w : 1 + k ≡ i = omega arith in
        ne_eqb (get_or xs k 0) (get_or ys k 0) (λ z. f.apart (omega arith) (rw w at (h.header.word k (omega arith) ∙ z ∙ sym (g.header.word k (omega arith))))) in
        rw (n, m) (table_at eqb 23 agreed 0 k xs ys (omega arith, omega arith, same, apart))

    pub operators-differ : i - 1 < max (get_or left 0 0) (get_or right 0 0) → OperatorsTell left right (Err (unequal.Operators (i - 1)))
    unfolding OperatorsTell
    operators-differ l x y h g agreed = (operators_at agreed x y h g).0 l

    pub operators_agree : max (get_or left 0 0) (get_or right 0 0) ≤ i - 1 → OperatorsTell left right (Ok tt)
    unfolding OperatorsTell
    operators_agree l x y h g agreed = (operators_at agreed x y h g).1 l

  pub tables_unequal : (a : Unequal) → ArraysTell left right (Err a) → TablesTell left right (Err a)
  unfolding ArraysTell TablesTell
  tables_unequal (unequal.Arrays a) p x y h g agreed = p x y h g (same_table eqb 23 agreed 0 x.operators y.operators)
  tables_unequal (unequal.Operators o) p x y h g agreed = p x y h g (same_table eqb 23 agreed 0 x.operators y.operators)

  pub tables_as : (r : Result Unit Unequal) → ArraysTell left right (Ok tt) → OperatorsTell left right r → TablesTell left right r
  unfolding ArraysTell OperatorsTell TablesTell
  tables_as r p q x y h g agreed = p x y h g (same_table eqb 23 agreed 0 x.operators y.operators) ∙ q x y h g agreed

-- one more word that is the same
pub same_more : (left right : List ℕ) (from i : ℕ) → ((j : ℕ) → from ≤ j → j < i → get_or left j 0 ≡ get_or right j 0) → get_or left i 0 ≡ get_or right i 0
    → (j : ℕ) → from ≤ j → j < i + 1 → get_or left j 0 ≡ get_or right j 0
same_more left right from i f e j h l = below_more (λ k. from ≤ k → get_or left k 0 ≡ get_or right k 0) i (λ k l m. f k m l) (λ _. e) j l h
