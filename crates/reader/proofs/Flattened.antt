-- The tables as 115 numbers: written run by run, and what they say of an operator or an array.
use mathlib.Core.Path.{◌≡◌, refl, sym, ap, ◌∙◌}
use Prim.Native.Nat.{ℕ, zero, suc, ◌+◌, ◌-◌, ◌*◌, ◌≤◌, ◌<◌, min}
use native.Mathlib.Nat.{add-zero}
use native.Mathlib.Omega.{arith}
use mathlib.Core.List.{List, [], ◌∷◌, ◌++◌, append-nil, append_assoc}
use lib.ListN.{length, get_or, set, take, drop, length-append, get_or-map, get_or-eq_default}
use lib.Seq.{sets, sets-eq, get_or_at, take-suc, drop-length}
use Rattle.model.specs.Tables.{array_at, swaps, arity_of, arity_at}
use Rattle.std.specs.List.{AllZip}
use Rattle.std.proofs.Common.{length-take-le, add-one}
use Rattle.std.proofs.lemmas.List.{take_all}
use Rattle.std.proofs.lemmas.List.Elements.{same_from_all_zip}
use Rattle.reader.specs.Entries.{Puts, cut, array_of, arrays_of, unpacked, capped, viewed, tables_in, flattened}
use Rattle.reader.specs.declared.tables.Tables.{Tables as Packed}
use Rattle.reader.proofs.Packing.{length_cut, get_d_cut, operators_are, arrays_are, operator_in_lem, operator_out, role_in, role_out, dimensions_in, dimensions_out, dimensions-few, extent_in, extent_none}
use Rattle.reader.proofs.Stores.{cut_mid}

-- ---- writing
pub sets_append : (l : List ℕ) (i : ℕ) (xs ys : List ℕ) → sets l i (xs ++ ys) ≡ sets (sets l i xs) (i + length xs) ys
sets_append l i [] ys = ap (λ (k : ℕ). sets l k ys) (sym (add-zero i))
sets_append l i (x ∷ xs) ys =
    let e : suc i + length xs ≡ i + suc (length xs) = omega arith in
    sets_append (set l i x) (suc i) xs ys ∙ ap (λ (k : ℕ). sets (sets (set l i x) (suc i) xs) k ys) e

-- n numbers from number k of a list on are still to be written at i
pub cut_more : (l : List ℕ) (i j k n : ℕ) (ar : List ℕ) → 0 < n → j ≡ i + 1 → sets (set l i (get_or ar k 0)) j (cut (n - 1) (k + 1) ar) ≡ sets l i (cut n k ar)
unfolding cut
cut_more l i j k zero ar h e = absurd (omega arith)
cut_more l i j k (suc n) ar h e = let d : suc n - 1 ≡ n = omega arith in let q : j ≡ suc i = omega arith in rw (d, q)

pub cut_end : (l : List ℕ) (i k : ℕ) (ar : List ℕ) (n : ℕ) → n ≡ 0 → sets l i (cut n k ar) ≡ l
unfolding cut
cut_end l i k ar zero e = refl
cut_end l i k ar (suc n) e = absurd (omega arith)

module _ {A : Type 0} (R : A → ℕ → Type 0) where
  zip_snoc : (xs : List A) (ys : List ℕ) (x : A) (y : ℕ) → AllZip R xs ys → R x y → AllZip R (xs ++ (x ∷ [])) (ys ++ (y ∷ []))
  zip_snoc [] [] x y h r = (r, tt)
  zip_snoc [] (b ∷ ys) x y h r = absurd h
  zip_snoc (a ∷ xs) [] x y h r = absurd h
  zip_snoc (a ∷ xs) (b ∷ ys) x y h r = (h.0, zip_snoc xs ys x y h.1 r)

  zip_length : (xs : List A) (ys : List ℕ) → AllZip R xs ys → length ys ≡ length xs
  zip_length [] [] h = refl
  zip_length [] (b ∷ ys) h = absurd h
  zip_length (a ∷ xs) [] h = absurd h
  zip_length (a ∷ xs) (b ∷ ys) h = ap suc (zip_length xs ys h.1)

  module _ (from : List A) (l₀ : List ℕ) (to : ℕ) where
    pub puts_none : Puts R [] l₀ to l₀
    puts_none = record { numbers = []; each = tt; holds = refl }

    pub puts_more : (k : ℕ) (l : List ℕ) (x : A) (n : ℕ) → k < length from → R (get_or from k x) n → Puts R (take k from) l₀ to l → Puts R (take (k + 1) from) l₀ to (set l (to + k) n)
    puts_more k l x n h r p =
        let e : k ≡ length p.numbers = sym (zip_length (take k from) p.numbers p.each ∙ length-take-le k from (omega arith)) in
        record {
          numbers = p.numbers ++ (n ∷ []);
          each = rw (add-one, take-suc from k x h) (zip_snoc (take k from) p.numbers (get_or from k x) n p.each r);
          holds = ap (λ (m : List ℕ). set m (to + k) n) p.holds ∙ ap (λ (j : ℕ). set (sets l₀ to p.numbers) (to + j) n) e ∙ sym (sets_append l₀ to p.numbers (n ∷ []));
        }

    pub puts_all : (k : ℕ) (l : List ℕ) → length from ≤ k → Puts R (take k from) l₀ to l → Puts R from l₀ to l
    puts_all k l h p = rw (take_all k from h) at p

cut-whole : (n from : ℕ) (p l : List ℕ) → length p ≡ from → length l ≡ n → cut n from (p ++ l) ≡ l
cut-whole n from p l e h = ap (λ (m : List ℕ). cut n from (p ++ m)) (sym (append-nil l)) ∙ cut_mid n from p l [] h e

-- numbers that are put as they are
pub put_same : (n : ℕ) (from l₀ : List ℕ) (to : ℕ) (l : List ℕ) → length from ≡ n → Puts (λ x y. y ≡ x) from l₀ to l → l ≡ sets l₀ to (cut n 0 from)
put_same n from l₀ to l h p =
    p.holds ∙ ap (sets l₀ to) (same_from_all_zip (λ x y. y ≡ x) from p.numbers p.each (λ x y e. e) ∙ sym (cut-whole n 0 [] from refl h))

-- numbers of 16 bits
abbrev pub Words : ℕ → List ℕ → Type 0
Words n l = (i : ℕ) → i < n → get_or l i 0 < 65536

sets-whole : (l vs : List ℕ) → length vs ≡ length l → sets l 0 vs ≡ vs
sets-whole l vs e =
    let z : 0 + length vs ≡ length l = omega arith in
    sets-eq vs l 0 (omega arith) ∙ ap (λ (k : ℕ). vs ++ drop k l) z ∙ ap (λ (r : List ℕ). vs ++ r) (drop-length l) ∙ append-nil vs

-- the parts of the 115 numbers
module _ (T : Packed) where
  abbrev A : List ℕ
  A = cut 16 0 T.bytes

  abbrev R : List ℕ
  R = cut 16 0 T.roles

  abbrev D : List ℕ
  D = cut 16 0 T.dimensions

  abbrev E : List ℕ
  E = cut 48 0 T.extents

  abbrev B : List ℕ
  B = cut 17 0 T.bases

  length-flattened : length (flattened T) ≡ 115
  unfolding flattened
  length-flattened =
      let a = length_cut 16 0 T.bytes in
      let r = length_cut 16 0 T.roles in
      let d = length_cut 16 0 T.dimensions in
      let e = length_cut 48 0 T.extents in
      let b = length_cut 17 0 T.bases in
      simp length-append (omega arith)

  pub flat_put : (l : List ℕ) → length l ≡ 115 → sets (sets (sets (sets (set (sets (set l 0 T.operators) 1 A) 17 T.arrays) 18 R) 34 D) 50 E) 98 B ≡ flattened T
  unfolding flattened
  flat_put l h =
      let a : 1 + length A ≡ 17 = omega (arith, length_cut 16 0 T.bytes) in
      let r : 18 + length R ≡ 34 = omega (arith, length_cut 16 0 T.roles) in
      let d : 34 + length D ≡ 50 = omega (arith, length_cut 16 0 T.dimensions) in
      let e : 50 + length E ≡ 98 = omega (arith, length_cut 48 0 T.extents) in
      let l1 = set l 0 T.operators in
      let l2 = set (sets l1 1 A) 17 T.arrays in
      let q : sets l2 18 (R ++ (D ++ (E ++ B))) ≡ sets (sets (sets (sets l2 18 R) 34 D) 50 E) 98 B =
      sets_append l2 18 R (D ++ (E ++ B)) ∙ ap (λ (k : ℕ). sets (sets l2 18 R) k (D ++ (E ++ B))) r
      ∙ sets_append (sets l2 18 R) 34 D (E ++ B) ∙ ap (λ (k : ℕ). sets (sets (sets l2 18 R) 34 D) k (E ++ B)) d
      ∙ sets_append (sets (sets l2 18 R) 34 D) 50 E B ∙ ap (λ (k : ℕ). sets (sets (sets (sets l2 18 R) 34 D) 50 E) k B) e in
      let p : sets l1 1 (A ++ (T.arrays ∷ (R ++ (D ++ (E ++ B))))) ≡ sets l2 18 (R ++ (D ++ (E ++ B))) =
      sets_append l1 1 A (T.arrays ∷ (R ++ (D ++ (E ++ B)))) ∙ ap (λ (k : ℕ). sets (sets l1 1 A) k (T.arrays ∷ (R ++ (D ++ (E ++ B))))) a in
      sym (p ∙ q) ∙ sets-whole l (flattened T) (length-flattened ∙ sym h)

  -- ---- read back
  operators-back : get_or (flattened T) 0 0 ≡ T.operators
  unfolding flattened
  operators-back = refl

  bytes_back : cut 16 1 (flattened T) ≡ A
  unfolding flattened
  bytes_back = cut_mid 16 1 (T.operators ∷ []) A _ (length_cut 16 0 T.bytes) refl

  arrays-back : get_or (flattened T) 17 0 ≡ T.arrays
  unfolding flattened
  arrays-back = get_or_at (T.operators ∷ A) T.arrays _ 0 17 (ap suc (length_cut 16 0 T.bytes))

  abbrev to_roles : List ℕ
  to_roles = T.operators ∷ (A ++ (T.arrays ∷ []))

  roles_back : cut 16 18 (flattened T) ≡ R
  unfolding flattened
  roles_back =
      let q = D ++ (E ++ B) in
      let a = length_cut 16 0 T.bytes in
      let e : T.operators ∷ (A ++ (T.arrays ∷ (R ++ q))) ≡ to_roles ++ (R ++ q) = simp append_assoc in
      ap (cut 16 18) e ∙ cut_mid 16 18 to_roles R q (length_cut 16 0 T.roles) (simp length-append (omega arith))

  dimensions-back : cut 16 34 (flattened T) ≡ D
  unfolding flattened
  dimensions-back =
      let q = E ++ B in
      let a = length_cut 16 0 T.bytes in
      let r = length_cut 16 0 T.roles in
      let e : T.operators ∷ (A ++ (T.arrays ∷ (R ++ (D ++ q)))) ≡ (to_roles ++ R) ++ (D ++ q) = simp append_assoc in
      ap (cut 16 34) e ∙ cut_mid 16 34 (to_roles ++ R) D q (length_cut 16 0 T.dimensions) (simp length-append (omega arith))

  extents-back : cut 48 50 (flattened T) ≡ E
  unfolding flattened
  extents-back =
      let a = length_cut 16 0 T.bytes in
      let r = length_cut 16 0 T.roles in
      let d = length_cut 16 0 T.dimensions in
      let e : T.operators ∷ (A ++ (T.arrays ∷ (R ++ (D ++ (E ++ B))))) ≡ (to_roles ++ (R ++ D)) ++ (E ++ B) = simp append_assoc in
      ap (cut 48 50) e ∙ cut_mid 48 50 (to_roles ++ (R ++ D)) E B (length_cut 48 0 T.extents) (simp length-append (omega arith))

  bases-back : cut 17 98 (flattened T) ≡ B
  unfolding flattened
  bases-back =
      let a = length_cut 16 0 T.bytes in
      let r = length_cut 16 0 T.roles in
      let d = length_cut 16 0 T.dimensions in
      let x = length_cut 48 0 T.extents in
      let e : T.operators ∷ (A ++ (T.arrays ∷ (R ++ (D ++ (E ++ B))))) ≡ (to_roles ++ (R ++ (D ++ E))) ++ (B ++ []) = simp (append_assoc, append-nil) in
      ap (cut 17 98) e ∙ cut_mid 17 98 (to_roles ++ (R ++ (D ++ E))) B [] (length_cut 17 0 T.bases) (simp length-append (omega arith))

get_d_front : (n : ℕ) (l : List ℕ) (i : ℕ) → i < n → get_or (cut n 0 l) i 0 ≡ get_or l i 0
get_d_front n l i h = let z : 0 + i ≡ i = omega arith in get_d_cut n 0 l i h ∙ ap (λ (j : ℕ). get_or l j 0) z

-- a part of a front
cut_front : (n from m : ℕ) (l : List ℕ) → n + from ≤ m → cut n from (cut m 0 l) ≡ cut n from l
unfolding cut
cut_front zero from m l h = refl
cut_front (suc n) from m l h = rw (get_d_front m l from (omega arith), cut_front n (from + 1) m l (omega arith))

capped-words : (l : List ℕ) → ((i : ℕ) → i < length l → get_or l i 0 < 65536) → capped l ≡ l
unfolding capped
capped-words [] h = refl
capped-words (x ∷ l) h =
    let a : x < 65536 = h 0 (omega arith) in
    let e : min x 65535 ≡ x = omega arith in
    rw (e, capped-words l (λ i g. h (suc i) (omega arith)))

-- tables that hold the same in their fronts say the same
module _ (T U : Packed) (roles : U.roles ≡ cut 16 0 T.roles) (dimensions : U.dimensions ≡ cut 16 0 T.dimensions) (extents : U.extents ≡ cut 48 0 T.extents) where
  array_same : (a : ℕ) → a < 16 → array_of U a ≡ array_of T a
  unfolding array_of
  array_same a h =
      let r : get_or U.roles a 0 ≡ get_or T.roles a 0 = ap (λ (l : List ℕ). get_or l a 0) roles ∙ get_d_front 16 T.roles a h in
      let d : get_or U.dimensions a 0 ≡ get_or T.dimensions a 0 = ap (λ (l : List ℕ). get_or l a 0) dimensions ∙ get_d_front 16 T.dimensions a h in
      rw (r, d, extents, cut_front (min (get_or T.dimensions a 0) 3) (3 * a) 48 T.extents (omega arith))

  arrays_same : (n a : ℕ) → n + a ≤ 16 → arrays_of U n a ≡ arrays_of T n a
  unfolding arrays_of
  arrays_same zero a h = refl
  arrays_same (suc n) a h = rw (array_same a (omega arith), arrays_same n (a + 1) (omega arith))

  same : U.operators ≡ T.operators → U.bytes ≡ cut 16 0 T.bytes → U.arrays ≡ T.arrays → unpacked U ≡ unpacked T
  unfolding unpacked
  same o a n =
      let p : cut (min U.operators 16) 0 U.bytes ≡ cut (min T.operators 16) 0 T.bytes =
      ap (λ (k : ℕ). cut (min k 16) 0 U.bytes) o ∙ ap (cut (min T.operators 16) 0) a ∙ cut_front (min T.operators 16) 0 16 T.bytes (omega arith) in
      let q : arrays_of U (min U.arrays 16) 0 ≡ arrays_of T (min T.arrays 16) 0 =
      ap (λ (k : ℕ). arrays_of U (min k 16) 0) n ∙ arrays_same (min T.arrays 16) 0 (omega arith) in
      rw (p, q)

-- the 115 numbers of a `Tables` say what it says
pub tables_flat : (T : Packed) → Words 48 T.extents → tables_in (flattened T) ≡ unpacked T
unfolding tables_in viewed
tables_flat T w =
    let e : capped (cut 48 0 T.extents) ≡ cut 48 0 T.extents =
    capped-words (cut 48 0 T.extents) (λ i h. let k : i < 48 = omega (arith, length_cut 48 0 T.extents) in rw (get_d_front 48 T.extents i k) (w i k)) in
    same T (viewed (flattened T)) (roles_back T) (dimensions-back T) (ap capped (extents-back T) ∙ e) (operators-back T) (bytes_back T) (arrays-back T)

pub bases_flat : (T : Packed) (a : ℕ) → a < 17 → get_or (viewed (flattened T)).bases a 0 ≡ get_or T.bases a 0
unfolding viewed
bases_flat T a h = ap (λ (l : List ℕ). get_or l a 0) (bases-back T) ∙ get_d_front 17 T.bases a h

-- ---- what the numbers say
module _ (l : List ℕ) where
  pub operators_in : length (tables_in l).operators ≡ min (get_or l 0 0) 16
  unfolding tables_in viewed
  operators_in = operators_are (viewed l)

  pub arrays_in : length (tables_in l).arrays ≡ min (get_or l 17 0) 16
  unfolding tables_in viewed
  arrays_in = arrays_are (viewed l)

  module _ (o : ℕ) where
    pub operator_at : (i : ℕ) → i ≡ 1 + o → o < length (tables_in l).operators → get_or l i 0 ≡ get_or (tables_in l).operators o 0
    unfolding tables_in viewed
    operator_at i w h = let e = operators_are (viewed l) in ap (λ (j : ℕ). get_or l j 0) w ∙ sym (get_d_cut 16 1 l o (omega arith)) ∙ operator_in_lem (viewed l) o (omega arith)

    operator_none : length (tables_in l).operators ≤ o → get_or (tables_in l).operators o 0 ≡ 0
    unfolding tables_in
    operator_none h = let e = operators_are (viewed l) in sym (operator_out (viewed l) o (omega arith))

    pub arity_none : length (tables_in l).operators ≤ o → 0 ≡ arity_at (tables_in l).operators o
    unfolding arity_of swaps
    arity_none h = rw (operator_none h)

  module _ (a : ℕ) where
    pub role_at_lem : (i : ℕ) → i ≡ 18 + a → a < length (tables_in l).arrays → get_or l i 0 ≡ (array_at (tables_in l).arrays a).role
    unfolding tables_in viewed
    role_at_lem i w h = let e = arrays_are (viewed l) in ap (λ (j : ℕ). get_or l j 0) w ∙ sym (get_d_cut 16 18 l a (omega arith)) ∙ role_in (viewed l) a (omega arith)

    pub role_none : length (tables_in l).arrays ≤ a → 3 ≡ (array_at (tables_in l).arrays a).role
    unfolding tables_in
    role_none h = let e = arrays_are (viewed l) in role_out (viewed l) a (omega arith)

    pub dimensions_at_lem : (i : ℕ) → i ≡ 34 + a → a < length (tables_in l).arrays → min (get_or l i 0) 3 ≡ length (array_at (tables_in l).arrays a).extents
    unfolding tables_in viewed
    dimensions_at_lem i w h = let e = arrays_are (viewed l) in ap (λ (j : ℕ). min (get_or l j 0) 3) w ∙ ap (λ (n : ℕ). min n 3) (sym (get_d_cut 16 34 l a (omega arith))) ∙ dimensions_in (viewed l) a (omega arith)

    pub dimensions_none : length (tables_in l).arrays ≤ a → 1 ≡ length (array_at (tables_in l).arrays a).extents
    unfolding tables_in
    dimensions_none h = let e = arrays_are (viewed l) in dimensions_out (viewed l) a (omega arith)

    pub dimensions-three : length (array_at (tables_in l).arrays a).extents ≤ 3
    unfolding tables_in
    dimensions-three = dimensions-few (viewed l) a

    pub base_at : (i : ℕ) → i ≡ 98 + a → a < 17 → get_or l i 0 ≡ get_or (viewed l).bases a 0
    unfolding viewed
    base_at i w h = ap (λ (j : ℕ). get_or l j 0) w ∙ sym (get_d_cut 17 98 l a h)

    pub base_none : 17 ≤ a → 0 ≡ get_or (viewed l).bases a 0
    unfolding viewed
    base_none h = sym (get_or-eq_default (cut 17 98 l) 0 (omega (arith, length_cut 17 98 l)))

    module _ (k : ℕ) where
      pub extent_room : a < length (tables_in l).arrays → k < length (array_at (tables_in l).arrays a).extents → 3 * a + k < 48
      unfolding tables_in
      extent_room h g = let m = arrays_are (viewed l) in let n = dimensions-few (viewed l) a in omega arith

      pub extent_at : (i : ℕ) → i ≡ 50 + 3 * a + k → a < length (tables_in l).arrays → k < length (array_at (tables_in l).arrays a).extents →
          min (get_or l i 0) 65535 ≡ get_or (array_at (tables_in l).arrays a).extents k 0
      unfolding tables_in viewed capped
      extent_at i w h g =
          let m = extent_room h g in
          let e : i ≡ 50 + (3 * a + k) = omega arith in
          ap (λ (j : ℕ). min (get_or l j 0) 65535) e
          ∙ ap (λ (n : ℕ). min n 65535) (sym (get_d_cut 48 50 l (3 * a + k) m))
          ∙ sym (get_or-map (λ (e : ℕ). min e 65535) (cut 48 50 l) (3 * a + k) 0)
          ∙ extent_in (viewed l) a k h g

      pub extent_few : length (array_at (tables_in l).arrays a).extents ≤ k → 0 ≡ get_or (array_at (tables_in l).arrays a).extents k 0
      extent_few h = sym (get_or-eq_default (array_at (tables_in l).arrays a).extents 0 h)

      pub extent_not : length (tables_in l).arrays ≤ a → 0 ≡ get_or (array_at (tables_in l).arrays a).extents k 0
      unfolding tables_in
      extent_not h = extent_none (viewed l) a k h
