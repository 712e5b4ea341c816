-- Things in a row and the tables: read back from their bytes, and the bytes of what was read.
use mathlib.Core.Path.{◌≡◌, refl, sym, ap, ap₂, subst, ◌∙◌}
use Prim.Native.Nat.{ℕ, zero, suc, ◌+◌, ◌*◌, ◌≤◌, ◌<◌}
use mathlib.Core.List.{List, [], ◌∷◌, ◌++◌, map}
use mathlib.Core.Bool.{Bool, true, false, ◌&&◌, ◌||◌, not}
use native.Mathlib.Omega.{arith}
use lib.ListN.{length, get_or}
use lib.Dec.{leb, eqb}
use borrow.Author.Tests.{le-leb, eqb-true}
use Rattle.model.specs.Test.{within, every}
use Rattle.model.specs.Tables.{Array, Tables, cells, local, operator_in}
use Rattle.reader.specs.Field.{Bytes, got, Reader, byte, field, u16, little_endian, times}
use Rattle.reader.specs.Grammar.{mark, head, operator_of, operators, extent, array, arrays, tables}
use Rattle.reader.proofs.Bytes.{u24_is}
use Rattle.reader.proofs.Binds.{read_by, asked_by, got_so}
use Rattle.unroller.specs.Allowed.{locals_last, allowed_array}
use Rattle.unroller.proofs.Parts.{both, join, within-high, ArrayParts, array_parts, room, TablesParts}
use Rattle.writer.specs.File.{little_bytes, in_row, array_bytes, table_bytes}
use Rattle.writer.specs.Claims.{version_in}
use Rattle.writer.proofs.Stands.{Stands, stands_end, stands_here, stands-behind, here-byte, nothing-stands, byte-stands, stands-join, stands-split}
use Rattle.writer.proofs.Fields.{u16_in, field-known, field_out}

module _ (s : List ℕ) where
  module _ {A K : Type 0} (one : Reader A) (value : K → A) (bytes : K → List ℕ) (good : K → Bool) where
    pub times_in : ((k : K) (at next : ℕ) → good k ≡ true → Stands s at (bytes k) next → one s at ≡ got (value k) next)
        → (ks : List K) (at next : ℕ) → every good ks ≡ true → Stands s at (in_row bytes ks) next → times [] ◌∷◌ one (length ks) s at ≡ got (map value ks) next
    unfolding times
    times_in h [] at next g w = ap (got []) (sym (stands_end s at next w))
    times_in h (k ∷ ks) at next g w =
        let p = both (good k) (every good ks) g in
        stands-split s (bytes k) (in_row bytes ks) at next w λ mid a b. rw (h k at mid p.0 a, times_in h ks mid next p.1 b)

  module _ {A : Type 0} (one : Reader A) (bytes : A → List ℕ) (good : A → Bool) where
    abbrev Row : ℕ → ℕ → List A → ℕ → Type 0
    Row n at xs next = Stands s at (in_row bytes xs) next × (every good xs ≡ true) × (length xs ≡ n)

    pub times_out : ((at : ℕ) (x : A) (next : ℕ) → one s at ≡ got x next → Stands s at (bytes x) next × (good x ≡ true))
        → (n at : ℕ) (xs : List A) (next : ℕ) → times [] ◌∷◌ one n s at ≡ got xs next → Stands s at (in_row bytes xs) next × (every good xs ≡ true) × (length xs ≡ n)
    unfolding times
    times_out h zero at xs next e = got_so (Row 0 at) {n = at} e (nothing-stands s at, refl, refl)
    times_out h (suc n) at xs next e =
        read_by (one s at) _ e λ x at1 e1 r1.
        read_by (times [] ◌∷◌ one n s at1) _ r1 λ ys at2 e2 r2.
        let p = h at x at1 e1 in
        let q = times_out h n at1 ys at2 e2 in
        got_so (Row (suc n) at) r2 (stands-join s (bytes x) (in_row bytes ys) at at1 at2 p.0 q.0, join (good x) (every good ys) p.1 q.1, ap suc q.2)

map_same : (l : List ℕ) → map (λ x. x) l ≡ l
map_same [] = refl
map_same (x ∷ l) = ap (λ (m : List ℕ). x ∷ m) (map_same l)

singles : (l : List ℕ) → in_row (λ b. b ∷ []) l ≡ l
singles [] = refl
singles (x ∷ l) = ap (λ (m : List ℕ). x ∷ m) (singles l)

-- read back
module _ (s : List ℕ) where
  mark_in : (at next : ℕ) → Stands s at mark next → field 3 s at ≡ got (little_endian 3 mark 0) next
  unfolding Stands
  mark_in at next h =
      let p : at + 1 + 1 ≡ at + 2 = omega arith in
      let k = rw p at h in
      let a = k.0.is in
      let b = k.1.0.is in
      let c = k.1.1.0.is in
      let r = k.1.1.0.room in
      let v : get_or s at 0 + 256 * (get_or s (at + 1) 0 + 256 * get_or s (at + 2) 0) ≡ little_endian 3 mark 0 = omega arith in
      let n : at + 3 ≡ next = (let e = k.1.1.1 in omega arith) in
      sym (u24_is s at (le-leb (at + 3) (length s) (omega arith))) ∙ ap₂ got v n

  small-version : (version : ℕ) → within 1 2 version ≡ true → version < 65536
  small-version version w = let h = within-high 1 2 version w in omega arith

  head_in : (version at mid next : ℕ) → within 1 2 version ≡ true → Stands s at mark mid → Stands s mid (little_bytes 2 version) next → head s at ≡ got version next
  unfolding head
  head_in version at mid next w h k = rw (mark_in at mid h, u16_in s version mid next (small-version version w) k, w)

  operator_in_lem : (version b at next : ℕ) → operator_in version b ≡ true → Stands s at (b ∷ []) next → operator_of version s at ≡ got b next
  unfolding operator_of
  operator_in_lem version b at next w h = rw (here-byte s (stands_here s at b [] next h), w) (ap (got b) (sym (stands_end s (at + 1) next (stands-behind s at b [] next h))))

  operators_in : (version : ℕ) (ops : List ℕ) (at next : ℕ) → length ops ≤ 16 → every (operator_in version) ops ≡ true → Stands s at (length ops ∷ ops) next → operators version s at ≡ got ops next
  unfolding operators
  operators_in version ops at next few w h =
      let r = subst (λ (l : List ℕ). Stands s (at + 1) l next) (sym (singles ops)) (stands-behind s at (length ops) ops next h) in
      let t = times_in s (operator_of version) (λ x. x) (λ b. b ∷ []) (operator_in version) (operator_in_lem version) ops (at + 1) next w r in
      rw (here-byte s (stands_here s at (length ops) ops next h), le-leb (length ops) 16 few) (t ∙ ap (λ (l : List ℕ). got l next) (map_same ops))

  extent_in : (e at next : ℕ) → within 1 1024 e ≡ true → Stands s at (little_bytes 2 e) next → extent s at ≡ got e next
  unfolding extent
  extent_in e at next w h = let k = within-high 1 1024 e w in rw (u16_in s e at next (omega arith) h, w)

  array_in : (after : Bool) (before : ℕ) (x : Array) (at next : ℕ) → ArrayParts x → (not after || local x) ≡ true → before + cells x.extents ≤ 2048
      → Stands s at (array_bytes x) next → array after before s at ≡ got x next
  unfolding array array_bytes
  array_in after before x at next a o r h =
      let es = x.extents in
      let k = stands-behind s at x.role (length es ∷ in_row (little_bytes 2) es) next h in
      let m = stands-behind s (at + 1) (length es) (in_row (little_bytes 2) es) next k in
      let t = times_in s extent (λ e. e) (little_bytes 2) (within 1 1024) extent_in es (at + 1 + 1) next a.sizes-known m ∙ ap (λ (l : List ℕ). got l next) (map_same es) in
      let p = (both (leb 0 x.role) (leb x.role 3) a.role-known).1 in
      rw (here-byte s (stands_here s at x.role _ next h), p, o, here-byte s (stands_here s (at + 1) (length es) _ next k), a.dimensions, t, le-leb (before + cells es) 2048 r)

  arrays_in : (xs : List Array) (after : Bool) (before at next : ℕ) → every allowed_array xs ≡ true → locals_last after xs ≡ true → before + room xs ≤ 2048
      → Stands s at (in_row array_bytes xs) next → arrays (length xs) after before s at ≡ got xs next
  unfolding arrays
  arrays_in [] after before at next a o r h = ap (got []) (sym (stands_end s at next h))
  arrays_in (x ∷ xs) after before at next a o r h =
      let p = both (allowed_array x) (every allowed_array xs) a in
      let q = both (not after || local x) (locals_last (local x) xs) o in
      stands-split s (array_bytes x) (in_row array_bytes xs) at next h λ mid k m. rw (
        array_in after before x at mid (array_parts x p.0) q.0 (omega arith) k,
        arrays_in xs (local x) (before + cells x.extents) mid next p.1 q.1 (omega arith) m,
      )

  pub tables_in_lem : (version : ℕ) (t : Tables) (at next : ℕ) → TablesParts t → within 1 2 version ≡ true → every (operator_in version) t.operators ≡ true
      → Stands s at (table_bytes version t) next → tables s at ≡ got t next
  unfolding tables table_bytes
  tables_in_lem version t at next a v w h =
      let ops = t.operators in
      let xs = t.arrays in
      let rest = length xs ∷ in_row array_bytes xs in
      stands-split s (mark ++ little_bytes 2 version ++ length ops ∷ ops) rest at next h λ at3 g3 k3.
      stands-split s (mark ++ little_bytes 2 version) (length ops ∷ ops) at at3 g3 λ at2 g2 h3.
      stands-split s mark (little_bytes 2 version) at at2 g2 λ at1 h1 h2.
      let e = arrays_in xs false 0 (at3 + 1) next a.each a.order (let f = a.fits in omega arith) (stands-behind s at3 (length xs) (in_row array_bytes xs) next k3) in
      rw (
        head_in version at at1 at2 v h1 h2,
        operators_in version ops at2 at3 (within-high 0 16 (length ops) a.operators) w h3,
        here-byte s (stands_here s at3 (length xs) (in_row array_bytes xs) next k3),
        a.count,
        e,
      )

-- the version and the operators, whatever the bytes are
module _ (s : List ℕ) where
  head-version : (version next : ℕ) → head s 0 ≡ got version next → (version_in s ≡ version) × (within 1 2 version ≡ true)
  unfolding head u16
  head-version version next e =
      read_by (field 3 s 0) _ e λ m at1 e1 r1.
      asked_by 4 0 (eqb m (little_endian 3 mark 0)) s at1 _ r1 λ q r2.
      read_by (field 2 s at1) _ r2 λ v at2 e2 r3.
      asked_by 5 at1 (within 1 2 v) s at2 _ r3 λ w r4.
      let k = field-known s 3 0 e1 in
      let l = field-known s 2 at1 e2 in
      got_so (λ version next. (version_in s ≡ version) × (within 1 2 version ≡ true)) r4 (ap (little_endian 2 s) k.2 ∙ l.1, w)

  operator_out : (version at x next : ℕ) → operator_of version s at ≡ got x next → Stands s at (x ∷ []) next × (operator_in version x ≡ true)
  unfolding operator_of
  operator_out version at x next e =
      read_by (byte s at) _ e λ y at1 e1 r1.
      asked_by 6 at (operator_in version y) s at1 _ r1 λ w r2.
      got_so (λ x next. Stands s at (x ∷ []) next × (operator_in version x ≡ true)) r2 (byte-stands s at y at1 [] at1 e1 (nothing-stands s at1), w)

  operators_out : (version at : ℕ) (ops : List ℕ) (next : ℕ) → operators version s at ≡ got ops next → Stands s at (length ops ∷ ops) next × (every (operator_in version) ops ≡ true)
  unfolding operators
  operators_out version at ops next e =
      read_by (byte s at) _ e λ n at1 e1 r1.
      asked_by 6 at (leb n 16) s at1 _ r1 λ _ r2.
      let t = times_out s (operator_of version) (λ b. b ∷ []) (operator_in version) (operator_out version) n at1 ops next r2 in
      let k = subst (λ (l : List ℕ). Stands s at1 l next) (singles ops) t.0 in
      (byte-stands s at (length ops) at1 ops next (e1 ∙ ap (λ (m : ℕ). got m at1) (sym t.2)) k, t.1)

  pub tables-version : (t : Tables) (next : ℕ) → tables s 0 ≡ got t next → (within 1 2 (version_in s) ≡ true) × (every (operator_in (version_in s)) t.operators ≡ true)
  unfolding tables
  tables-version t next e =
      read_by (head s 0) _ e λ version at1 e1 r1.
      read_by (operators version s at1) _ r1 λ ops at2 e2 r2.
      read_by (byte s at2) _ r2 λ n at3 _ r3.
      asked_by 7 at2 (within 1 16 n) s at3 _ r3 λ _ r4.
      read_by (arrays n false 0 s at3) _ r4 λ xs at4 _ r5.
      let h = head-version version at1 e1 in
      let o = operators_out version at1 ops at2 e2 in
      got_so (λ t next. (within 1 2 (version_in s) ≡ true) × (every (operator_in (version_in s)) t.operators ≡ true)) r5
      (subst (λ (v : ℕ). within 1 2 v ≡ true) (sym h.0) h.1, subst (λ (v : ℕ). every (operator_in v) ops ≡ true) (sym h.0) o.1)

  pub version_in_lem : (version : ℕ) (t : Tables) (next : ℕ) → within 1 2 version ≡ true → Stands s 0 (table_bytes version t) next → version_in s ≡ version
  unfolding table_bytes
  version_in_lem version t next w h =
      let ops = t.operators in
      stands-split s (mark ++ little_bytes 2 version ++ length ops ∷ ops) (length t.arrays ∷ in_row array_bytes t.arrays) 0 next h λ at3 g3 _.
      stands-split s (mark ++ little_bytes 2 version) (length ops ∷ ops) 0 at3 g3 λ at2 g2 _.
      stands-split s mark (little_bytes 2 version) 0 at2 g2 λ at1 h1 h2.
      (head-version version at2 (head_in s version 0 at1 at2 w h1 h2)).0

-- as they were read
module _ (s : List ℕ) (b : Bytes s) where
  mark-bytes : little_bytes 3 (little_endian 3 mark 0) ≡ mark
  unfolding little_bytes
  mark-bytes = refl

  abbrev Headed : ℕ → ℕ → Type 0
  Headed version next = Stands s 0 (mark ++ little_bytes 2 version) next

  head_out : (version next : ℕ) → head s 0 ≡ got version next → Headed version next
  unfolding head u16
  head_out version next e =
      read_by (field 3 s 0) _ e λ m at1 e1 r1.
      asked_by 4 0 (eqb m (little_endian 3 mark 0)) s at1 _ r1 λ q r2.
      read_by (field 2 s at1) _ r2 λ v at2 e2 r3.
      asked_by 5 at1 (within 1 2 v) s at2 _ r3 λ w r4.
      let p = eqb-true m (little_endian 3 mark 0) q in
      let g = subst (λ (n : ℕ). Stands s 0 (little_bytes 3 n) at1) p (field_out s b 3 0 m at1 e1) in
      got_so Headed r4 (stands-join s mark (little_bytes 2 v) 0 at1 at2 (subst (λ (l : List ℕ). Stands s 0 l at1) mark-bytes g) (field_out s b 2 at1 v at2 e2))

  extent_out : (at x next : ℕ) → extent s at ≡ got x next → Stands s at (little_bytes 2 x) next × (within 1 1024 x ≡ true)
  unfolding extent u16
  extent_out at x next e =
      read_by (field 2 s at) _ e λ y at1 e1 r1.
      asked_by 7 at (within 1 1024 y) s at1 _ r1 λ w r2.
      got_so (λ x next. Stands s at (little_bytes 2 x) next × (within 1 1024 x ≡ true)) r2 (field_out s b 2 at y at1 e1, w)

  array_out : (after : Bool) (before at : ℕ) (x : Array) (next : ℕ) → array after before s at ≡ got x next → Stands s at (array_bytes x) next
  unfolding array array_bytes
  array_out after before at x next e =
      read_by (byte s at) _ e λ role at1 e1 r1.
      asked_by 7 at (leb role 3 && (not after || eqb role 3)) s at1 _ r1 λ _ r2.
      read_by (byte s at1) _ r2 λ n at2 e2 r3.
      asked_by 7 at1 (within 1 3 n) s at2 _ r3 λ _ r4.
      read_by (times [] ◌∷◌ extent n s at2) _ r4 λ es at3 e5 r5.
      asked_by 8 at (leb (before + cells es) 2048) s at3 _ r5 λ _ r6.
      let t = times_out s extent (little_bytes 2) (within 1 1024) extent_out n at2 es at3 e5 in
      let k = byte-stands s at1 (length es) at2 (in_row (little_bytes 2) es) at3 (e2 ∙ ap (λ (m : ℕ). got m at2) (sym t.2)) t.0 in
      got_so (λ x next. Stands s at (x.role ∷ length x.extents ∷ in_row (little_bytes 2) x.extents) next) r6 (byte-stands s at role at1 _ at3 e1 k)

  arrays_out : (n : ℕ) (after : Bool) (before at : ℕ) (xs : List Array) (next : ℕ) → arrays n after before s at ≡ got xs next → Stands s at (in_row array_bytes xs) next × (length xs ≡ n)
  unfolding arrays
  arrays_out zero after before at xs next e = got_so (λ xs next. Stands s at (in_row array_bytes xs) next × (length xs ≡ 0)) {n = at} e (nothing-stands s at, refl)
  arrays_out (suc n) after before at xs next e =
      read_by (array after before s at) _ e λ x at1 e1 r1.
      read_by (arrays n (local x) (before + cells x.extents) s at1) _ r1 λ ys at2 e2 r2.
      let q = arrays_out n (local x) (before + cells x.extents) at1 ys at2 e2 in
      got_so (λ xs next. Stands s at (in_row array_bytes xs) next × (length xs ≡ suc n)) r2
      (stands-join s (array_bytes x) (in_row array_bytes ys) at at1 at2 (array_out after before at x at1 e1) q.0, ap suc q.1)

  pub tables_out : (t : Tables) (next : ℕ) → tables s 0 ≡ got t next → Stands s 0 (table_bytes (version_in s) t) next
  unfolding tables table_bytes
  tables_out t next e =
      read_by (head s 0) _ e λ version at1 e1 r1.
      read_by (operators version s at1) _ r1 λ ops at2 e2 r2.
      read_by (byte s at2) _ r2 λ n at3 e3 r3.
      asked_by 7 at2 (within 1 16 n) s at3 _ r3 λ _ r4.
      read_by (arrays n false 0 s at3) _ r4 λ xs at4 e4 r5.
      let o = operators_out s version at1 ops at2 e2 in
      let a = arrays_out n false 0 at3 xs at4 e4 in
      let k = byte-stands s at2 (length xs) at3 (in_row array_bytes xs) at4 (e3 ∙ ap (λ (m : ℕ). got m at3) (sym a.1)) a.0 in
      let f = stands-join s (mark ++ little_bytes 2 version) (length ops ∷ ops) 0 at1 at2 (head_out version at1 e1) o.0 in
      let g = stands-join s (mark ++ little_bytes 2 version ++ length ops ∷ ops) (length xs ∷ in_row array_bytes xs) 0 at2 at4 f k in
      got_so (λ t next. Stands s 0 (mark ++ little_bytes 2 (version_in s) ++ length t.operators ∷ t.operators ++ length t.arrays ∷ in_row array_bytes t.arrays) next) r5
      (subst (λ (v : ℕ). Stands s 0 (mark ++ little_bytes 2 v ++ length ops ∷ ops ++ length xs ∷ in_row array_bytes xs) at4) (sym (head-version s version at1 e1).0) g)
