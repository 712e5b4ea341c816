-- What the functions over the header's words answer, and that their sums are the bases of the tables.
use mathlib.Core.Path.{◌≡◌, refl, sym, ap, ◌∙◌}
use mathlib.Core.Bool.{Bool, true, false, ◌&&◌, ◌||◌, and-false, and-true}
use mathlib.Core.List.{List, [], ◌∷◌}
use Prim.Native.Nat.{ℕ, zero, suc, ◌+◌, ◌*◌, ◌/◌, ◌%◌, ◌^◌, ◌≤◌, ◌<◌}
use native.Mathlib.Nat.{mul-one, mul_assoc}
use native.Mathlib.Omega.{arith}
use lib.ListN.{length, get_or}
use lib.Dec.{eqb, ltb}
use borrow.Author.Tests.{eq-eqb, ne_eqb, le-leb, lt-leb}
use Rattle.model.specs.Test.{within, every}
use Rattle.model.specs.Tables.{Tables, cells, array_at, starts}
use Rattle.unroller.specs.Allowed.{allowed_array}
use Rattle.unroller.specs.Stands.{bases_of, HeaderAt}
use Rattle.unroller.proofs.Parts.{both, within_low, within-high, every_at, array_parts, TablesParts}
use Rattle.unroller.proofs.Stands.{bases-length, bases_first, bases-step, bases_last, bases-sorted}
use Rattle.comparer.specs.Match.{compared}
use Rattle.comparer.specs.Work.{Table}
use Rattle.comparer.proofs.SameTables.{compared-starts}
use Rattle.comparer.specs.Comparing.{record_at, role_at, compared_at, extent_or_one, size_at, Sums}

-- ---- is_compared
module _ (list : List ℕ) (mask a : ℕ) where
  pub compared_off : (b : Bool) → (mask / 2 ^ a % 2 ≡ 1 → ⊥) → b ≡ false → b ≡ compared_at list mask a
  unfolding compared_at
  compared_off b h e = rw (e, ne_eqb (mask / 2 ^ a % 2) 1 h) (sym (and-false (eqb (role_at list a) 1 || eqb (role_at list a) 2)))

  pub compared_on : mask / 2 ^ a % 2 ≡ 1 → (role : ℕ) → role ≡ role_at list a → (b : Bool) → b ≡ (eqb role 1 || eqb role 2) → b ≡ compared_at list mask a
  unfolding compared_at
  compared_on h role e b f = rw (sym e, eq-eqb (mask / 2 ^ a % 2) 1 h) (f ∙ sym (and-true (eqb role 1 || eqb role 2)))

-- ---- extent-or-one and size_of
module _ (used : Bool) (x : ℕ) where
  pub extent_or_one-free : used ≡ false → 1 ≡ extent_or_one used x
  unfolding extent_or_one
  extent_or_one-free e = rw e

  pub extent_or_one_big : used ≡ true → 1024 < x → 0 ≡ extent_or_one used x
  unfolding extent_or_one
  extent_or_one_big e h = rw (e, lt-leb x 1024 h)

  pub extent_or_one_used : used ≡ true → x ≤ 1024 → (n : ℕ) → n ≡ x → n ≡ extent_or_one used x
  unfolding extent_or_one
  extent_or_one_used e h n p = rw (e, le-leb x 1024 h) p

pub size_is : (list : List ℕ) (a x y z : ℕ) → x ≡ extent_or_one true (get_or list (record_at a + 2) 0)
    → y ≡ extent_or_one (ltb 1 (get_or list (record_at a + 1) 0)) (get_or list (record_at a + 3) 0)
    → z ≡ extent_or_one (ltb 2 (get_or list (record_at a + 1) 0)) (get_or list (record_at a + 4) 0) → x * y * z ≡ size_at list a
unfolding size_at
size_is list a x y z p q r = rw (p, q, r)

-- ---- bases_of
pub record SumsTo (list table : List ℕ) (k : ℕ) : Type 0 where
  pub inside : k ≤ 16
  pub long : length table ≡ 17
  pub first : get_or table 0 0 ≡ 0
  pub next : (a : ℕ) → a < k → get_or table (a + 1) 0 ≡ get_or table a 0 + size_at list a
  pub small : get_or table k 0 ≤ 1073741824 * k

-- ---- the words of a table
module _ (list : List ℕ) (t : Tables) (H : HeaderAt list t) (P : TablesParts t) where
  pub count-few : length t.arrays ≤ 16
  count-few = within-high 1 16 (length t.arrays) P.count

  module _ (a : ℕ) (h : a < length t.arrays) where
    pub compared_is : (mask : ℕ) → compared_at list mask a ≡ compared mask a (array_at t.arrays a)
    unfolding compared_at
    compared_is mask = rw (H.array a h).role

    -- of the compared arrays the inout ones start alike on both sides
    pub inout_is : (mask role : ℕ) → role ≡ role_at list a → compared mask a (array_at t.arrays a) ≡ true → eqb role 2 ≡ starts (array_at t.arrays a)
    inout_is mask role r e = rw (r, (H.array a h).role) (compared-starts mask a (array_at t.arrays a) e)

-- an allowed extent is its own extent-or-one
extent_or_one_own : (x : ℕ) → within 1 1024 x ≡ true → extent_or_one true x ≡ x
extent_or_one_own x e = sym (extent_or_one_used true x refl (within-high 1 1024 x e) x refl)

-- the product of an array's words
product : (ws : List ℕ) (d : ℕ) → ℕ
product ws d = extent_or_one true (get_or ws 0 0) * extent_or_one (ltb 1 d) (get_or ws 1 0) * extent_or_one (ltb 2 d) (get_or ws 2 0)

product_cells : (es : List ℕ) → within 1 3 (length es) ≡ true → every (within 1 1024) es ≡ true → product es (length es) ≡ cells es
unfolding product
product_cells [] n e = absurd (omega (arith, within_low 1 3 0 n))
product_cells (x ∷ []) n e =
    let p = both (within 1 1024 x) true e in
    rw (extent_or_one_own x p.0, sym (extent_or_one-free false 0 refl)) (omega arith)
product_cells (x ∷ y ∷ []) n e =
    let p = both (within 1 1024 x) (within 1 1024 y && true) e in
    let q = both (within 1 1024 y) true p.1 in
    rw (extent_or_one_own x p.0, extent_or_one_own y q.0, sym (extent_or_one-free false 0 refl)) (mul-one (x * y) ∙ ap (λ (k : ℕ). x * k) (sym (mul-one y)))
product_cells (x ∷ y ∷ z ∷ []) n e =
    let p = both (within 1 1024 x) (within 1 1024 y && (within 1 1024 z && true)) e in
    let q = both (within 1 1024 y) (within 1 1024 z && true) p.1 in
    let r = both (within 1 1024 z) true q.1 in
    rw (extent_or_one_own x p.0, extent_or_one_own y q.0, extent_or_one_own z r.0) (mul_assoc x y z ∙ ap (λ (k : ℕ). x * (y * k)) (sym (mul-one z)))
product_cells (x ∷ y ∷ z ∷ w ∷ es) n e = absurd (omega (arith, within-high 1 3 (length (x ∷ y ∷ z ∷ w ∷ es)) n))

module _ (list : List ℕ) (t : Tables) (H : HeaderAt list t) (P : TablesParts t) where
  pub size-cells : (a : ℕ) → a < length t.arrays → size_at list a ≡ cells (array_at t.arrays a).extents
  unfolding size_at product
  size-cells a h =
      let A = H.array a h in
      let Q = array_parts (array_at t.arrays a) (every_at allowed_array t.arrays (record { role = 3; extents = 0 ∷ [] }) a P.each h) in
      let z : record_at a + 2 + 0 ≡ record_at a + 2 = omega arith in
      let o : record_at a + 2 + 1 ≡ record_at a + 3 = omega arith in
      let w : record_at a + 2 + 2 ≡ record_at a + 4 = omega arith in
      let e0 : get_or list (record_at a + 2) 0 ≡ get_or (array_at t.arrays a).extents 0 0 = rw z at (A.extent 0 (omega arith)) in
      let e1 : get_or list (record_at a + 3) 0 ≡ get_or (array_at t.arrays a).extents 1 0 = rw o at (A.extent 1 (omega arith)) in
      let e2 : get_or list (record_at a + 4) 0 ≡ get_or (array_at t.arrays a).extents 2 0 = rw w at (A.extent 2 (omega arith)) in
      rw (A.dimensions, e0, e1, e2) (product_cells (array_at t.arrays a).extents Q.dimensions Q.sizes-known)

  -- the sums are the bases, and fit a side's half of the cells
  module _ (table : List ℕ) (S : Sums list table) where
    word_of : (a : ℕ) → a ≤ length t.arrays → get_or table a 0 ≡ get_or (bases_of t.arrays) a 0
    word_of zero h = S.first ∙ sym (bases_first t.arrays)
    word_of (suc a) h =
        let e : suc a ≡ a + 1 = omega arith in
        rw (e, S.next a (omega (arith, count-few list t H P)), bases-step t.arrays a (omega arith), word_of a (omega arith), size-cells a (omega arith))

    pub table_of : Table table (bases_of t.arrays) 2048
    table_of =
        let n = bases-length t.arrays in
        record {
          short = omega (arith, count-few list t H P);
          few = omega arith;
          word = λ a h. word_of a (omega arith);
          fits = λ a h. omega (arith, bases-sorted t.arrays a (length t.arrays) (omega arith) (omega arith), bases_last t.arrays, P.fits);
          sorted = λ a b h k. bases-sorted t.arrays a b h (omega arith);
        }
