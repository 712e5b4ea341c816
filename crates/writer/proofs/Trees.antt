-- Expressions: read back from their bytes, and the bytes of what was read and run.
use mathlib.Core.Path.{◌≡◌, refl, sym, ap, ap₂, subst, ◌∙◌}
use Prim.Native.Nat.{ℕ, zero, suc, ◌+◌, ◌*◌, ◌<◌}
use mathlib.Core.List.{List, [], ◌∷◌}
use mathlib.Core.Bool.{true, false≢true}
use native.Mathlib.Omega.{arith}
use lib.ListN.{length}
use lib.Dec.{ltb, eqb}
use lib.IntN.{ℤ, pos}
use borrow.Author.Tests.{ltb-true, lt-ltb, eqb-true}
use Rattle.model.specs.Test.{within, every}
use Rattle.model.specs.Tables.{Array, Tables, cells, array_at, inside, arity_at}
use Rattle.model.specs.Update.{Tree, Trees, size, sizes}
use Rattle.model.specs.Update.Tree.{cell, number, constant, operator}
use Rattle.model.specs.Update.Trees.{nil, cons}
use Rattle.reader.specs.Field.{Bytes, Outcome, got, Reader, byte, field, u32, times, refuse}
use Rattle.reader.specs.Syntax.{Form, Expr, Exprs, count, counts}
use Rattle.reader.specs.Syntax.Expr.{read, apply, literal, named}
use Rattle.reader.specs.Syntax.Exprs.{none, more}
use Rattle.reader.specs.Grammar.{form, subscripts, index, read_of, literal_of, constant_of, apply_of, node, applied}
use Rattle.reader.proofs.Binds.{read_by, asked_by, choose_by, not-got, got_so}
use Rattle.unroller.specs.Run.{ok, value_at, cell_at, tree, trees, fits16}
use Rattle.unroller.specs.Allowed.{allowed_array, proper, propers}
use Rattle.unroller.proofs.Parts.{both, join, every_at, array_parts}
use Rattle.unroller.proofs.Runs.{run_by, ok_is}
use Rattle.writer.specs.File.{little_bytes, in_row, subscripts_of, form_bytes, cell_bytes, tree_bytes, trees_bytes}
use Rattle.writer.specs.Write.{narrow, narrows}
use Rattle.writer.proofs.Stands.{Here, Stands, stands_end, stands_here, stands-behind, here-byte, nothing-stands, byte-stands, stands-join, stands-split}
use Rattle.writer.proofs.Fields.{constant_form, u32_in, field_out, form_in, form_out}
use Rattle.writer.proofs.Rows.{times_in, times_out}
use Rattle.writer.proofs.Cells.{forms_of, value-alone, subscripts-many, subscripts-narrow, cell_in, cell_out}

-- the expression that is written for a tree
unfoldable mutual
  pub expr_of : Tree → List Array → Expr
  expr_of (cell a c) xs = read a (forms_of (array_at xs a).extents c)
  expr_of (number z) xs = literal (constant_form z)
  expr_of (constant n) xs = named n
  expr_of (operator o ts) xs = apply o (exprs_of ts xs)

  pub exprs_of : Trees → List Array → Exprs
  exprs_of nil xs = none
  exprs_of (cons t ts) xs = more (expr_of t xs) (exprs_of ts xs)

mutual
  unfolding expr_of exprs_of count counts size sizes

  pub counts_same : (x : Tree) (xs : List Array) → count (expr_of x xs) ≡ size x
  counts_same (cell a c) xs = refl
  counts_same (number z) xs = refl
  counts_same (constant n) xs = refl
  counts_same (operator o ts) xs = ap suc (counts_all ts xs)

  counts_all : (ts : Trees) (xs : List Array) → counts (exprs_of ts xs) ≡ sizes ts
  counts_all nil xs = refl
  counts_all (cons t ts) xs = ap₂ ◌+◌ (counts_same t xs) (counts_all ts xs)

pub inside-declared : (xs : List Array) (a c : ℕ) → inside xs a c ≡ true → a < length xs
inside-declared [] a c e = absurd (let h = ltb-true c 0 e in omega arith)
inside-declared (x ∷ xs) zero c e = omega arith
inside-declared (x ∷ xs) (suc a) c e = let h = inside-declared xs a c e in omega arith

-- read back, and run
module _ (t : Tables) (each : every allowed_array t.arrays ≡ true) where
  abbrev xs : List Array
  xs = t.arrays

  extents-known : (a c : ℕ) → inside xs a c ≡ true → every (within 1 1024) (array_at xs a).extents ≡ true
  extents-known a c h = (array_parts (array_at xs a) (every_at allowed_array xs (record { role = 3; extents = 0 ∷ [] }) a each (inside-declared xs a c h))).sizes-known

  cell_below : (a c : ℕ) → inside xs a c ≡ true → c < cells (array_at xs a).extents
  cell_below a c h = ltb-true c (cells (array_at xs a).extents) h

  module _ (s : List ℕ) where
    index_in : (n x at : ℕ) → x < n → Here s at x → index n s at ≡ got x (at + 1)
    unfolding index
    index_in n x at h w = rw (here-byte s w, lt-ltb x n h)

    -- the array and the subscripts of a cell
    pub cell-reads : (a c at next : ℕ) → inside xs a c ≡ true → Stands s at (cell_bytes xs a c) next
        → (index (length xs) s at ≡ got a (at + 1)) × (subscripts t 0 a s (at + 1) ≡ got (forms_of (array_at xs a).extents c) next)
    unfolding subscripts cell_bytes
    cell-reads a c at next h w =
        let es = (array_at xs a).extents in
        let k = extents-known a c h in
        let g = subscripts-narrow es c k (cell_below a c h) in
        let r = stands-behind s at a (in_row (λ k. form_bytes (pos k)) (subscripts_of es c)) next w in
        let m = times_in s (form 0) (λ k. constant_form (pos k)) (λ k. form_bytes (pos k)) (λ k. fits16 (pos k)) (λ k. form_in s (pos k)) (subscripts_of es c) (at + 1) next g r in (
          index_in (length xs) a at (inside-declared xs a c h) (stands_here s at a _ next w),
          ap (λ (n : ℕ). times [] ◌∷◌ (form 0) n s (at + 1)) (sym (subscripts-many es c)) ∙ m,
        )

    mutual
      unfolding node applied apply_of read_of literal_of constant_of times tree_bytes trees_bytes expr_of exprs_of proper propers narrow narrows

      pub tree_in : (x : Tree) (left at next : ℕ) → proper x t left ≡ true → narrow x ≡ true → Stands s at (tree_bytes x xs) next → node t 0 (applied t 0 left) s at ≡ got (expr_of x xs) next
      tree_in (cell a c) left at next p w h =
          let k = cell-reads a c (at + 1) next p (stands-behind s at 16 (cell_bytes xs a c) next h) in
          rw (here-byte s (stands_here s at 16 (cell_bytes xs a c) next h), k.0, k.1)
      tree_in (number z) left at next p w h =
          rw (here-byte s (stands_here s at 18 (form_bytes z) next h), form_in s z (at + 1) next w (stands-behind s at 18 (form_bytes z) next h))
      tree_in (constant n) left at next p w h =
          rw (here-byte s (stands_here s at 19 (little_bytes 4 n) next h), u32_in s n (at + 1) next (ltb-true n 4294967296 p) (stands-behind s at 19 (little_bytes 4 n) next h))
      tree_in (operator o ts) zero at next p w h = absurd (false≢true p)
      tree_in (operator o ts) (suc left) at next p w h =
          let q = both (ltb o (length t.operators)) (propers ts t left (arity_at t.operators o)) p in
          let k = stands-behind s at 17 (o ∷ trees_bytes ts xs) next h in
          rw (
            here-byte s (stands_here s at 17 (o ∷ trees_bytes ts xs) next h),
            index_in (length t.operators) o (at + 1) (ltb-true o (length t.operators) q.0) (stands_here s (at + 1) o (trees_bytes ts xs) next k),
            trees_in ts left (arity_at t.operators o) (at + 1 + 1) next q.1 w (stands-behind s (at + 1) o (trees_bytes ts xs) next k),
          )

      pub trees_in : (ts : Trees) (left n at next : ℕ) → propers ts t left n ≡ true → narrows ts ≡ true → Stands s at (trees_bytes ts xs) next
          → times none more (node t 0 (applied t 0 left)) n s at ≡ got (exprs_of ts xs) next
      trees_in nil left zero at next p w h = ap (got none) (sym (stands_end s at next h))
      trees_in nil left (suc n) at next p w h = absurd (false≢true p)
      trees_in (cons x ts) left zero at next p w h = absurd (false≢true p)
      trees_in (cons x ts) left (suc n) at next p w h =
          let q = both (proper x t left) (propers ts t left n) p in
          let v = both (narrow x) (narrows ts) w in
          stands-split s (tree_bytes x xs) (trees_bytes ts xs) at next h λ mid k m.
          rw (tree_in x left at mid q.0 v.0 k, trees_in ts left n mid next q.1 v.1 m)

  pub cell-runs : (p a c : ℕ) → inside xs a c ≡ true → cell_at t p [] a (forms_of (array_at xs a).extents c) ≡ ok c
  unfolding cell_at
  cell-runs p a c h =
      let e : 0 * cells (array_at xs a).extents + c ≡ c = omega arith in
      cell_in p 0 (array_at xs a).extents c (extents-known a c h) (cell_below a c h) ∙ ap ok e

  mutual
    unfolding tree trees expr_of exprs_of proper propers narrow narrows

    pub tree-runs : (x : Tree) (left p : ℕ) → proper x t left ≡ true → narrow x ≡ true → tree (expr_of x xs) t p [] ≡ ok x
    tree-runs (cell a c) left p h w = rw (cell-runs p a c h)
    tree-runs (number z) left p h w = ap (λ (z : ℤ). ok (number z)) (value-alone (constant_form z))
    tree-runs (constant n) left p h w = refl
    tree-runs (operator o ts) zero p h w = absurd (false≢true h)
    tree-runs (operator o ts) (suc left) p h w =
        let q = both (ltb o (length t.operators)) (propers ts t left (arity_at t.operators o)) h in
        rw (trees-run ts left (arity_at t.operators o) p q.1 w)

    trees-run : (ts : Trees) (left n p : ℕ) → propers ts t left n ≡ true → narrows ts ≡ true → trees (exprs_of ts xs) t p [] ≡ ok ts
    trees-run nil left n p h w = refl
    trees-run (cons x ts) left zero p h w = absurd (false≢true h)
    trees-run (cons x ts) left (suc n) p h w =
        let q = both (proper x t left) (propers ts t left n) h in
        let v = both (narrow x) (narrows ts) w in
        rw (tree-runs x left p q.0 v.0, trees-run ts left n p q.1 v.1)

-- as they were read and run
module _ (t : Tables) (s : List ℕ) (b : Bytes s) (p : ℕ) where
  abbrev ys : List Array
  ys = t.arrays

  index_out : (n at x next : ℕ) → index n s at ≡ got x next → byte s at ≡ got x next
  unfolding index
  index_out n at x next e =
      read_by (byte s at) _ e λ y at1 e1 r1.
      asked_by 10 at (ltb y n) s at1 _ r1 λ _ r2.
      got_so (λ x next. byte s at ≡ got x next) r2 e1

  pub cell-stands : (a c at mid next : ℕ) (fs : List Form) → index (length ys) s at ≡ got a mid → subscripts t 0 a s mid ≡ got fs next → cell_at t p [] a fs ≡ ok c → Stands s at (cell_bytes ys a c) next
  unfolding subscripts cell_at cell_bytes
  cell-stands a c at mid next fs e f r =
      let es = (array_at ys a).extents in
      let m = times_out s (form 0) (λ f. form_bytes f.constant) (λ f. fits16 f.constant) (form_out s b) (length es) mid fs next f in
      let k = cell_out p 0 es fs c m.2 r in
      let w = k.whole in
      let same : k.own ≡ c = omega arith in
      let q = k.bytes ∙ ap (λ (x : ℕ). in_row (λ k. form_bytes (pos k)) (subscripts_of es x)) same in
      byte-stands s at a mid _ next (index_out (length ys) at a mid e) (subst (λ (l : List ℕ). Stands s mid l next) q m.0)

  abbrev Told : ℕ → ℕ → Tree → Type 0
  Told at next x = Stands s at (tree_bytes x ys) next × (narrow x ≡ true)

  abbrev Tolds : ℕ → ℕ → Trees → Type 0
  Tolds at next ts = Stands s at (trees_bytes ts ys) next × (narrows ts ≡ true)

  -- whoever reads from `at` on gives an expression whose tree stands from `from` on
  abbrev Reads : ℕ → Outcome Expr → Type 0
  Reads from m = (e : Expr) (next : ℕ) (x : Tree) → m ≡ got e next → tree e t p [] ≡ ok x → Told from next x

  read_out : (from at : ℕ) → byte s from ≡ got 16 at → Reads from (read_of t 0 s at)
  unfolding read_of tree tree_bytes narrow
  read_out from at h e next x r =
      read_by (index (length ys) s at) _ r λ a at1 e1 r1.
      read_by (subscripts t 0 a s at1) _ r1 λ fs at2 e2 r2.
      got_so (λ e next. tree e t p [] ≡ ok x → Told from next x) r2 λ v.
      run_by (cell_at t p [] a fs) _ v λ c e3 r3.
      ok_is (Told from at2) r3 (byte-stands s from 16 at (cell_bytes ys a c) at2 h (cell-stands a c at at1 at2 fs e1 e2 e3), refl)

  literal_out : (from at : ℕ) → byte s from ≡ got 18 at → Reads from (literal_of t 0 s at)
  unfolding literal_of tree tree_bytes narrow
  literal_out from at h e next x r =
      read_by (form 0 s at) _ r λ f at1 e1 r1.
      got_so (λ e next. tree e t p [] ≡ ok x → Told from next x) r1 λ v.
      let k = form_out s b at f at1 e1 in
      let z = value_at f [] in
      let q = sym (value-alone f) in
      ok_is (Told from at1) v (byte-stands s from 18 at (form_bytes z) at1 h (subst (λ (z : ℤ). Stands s at (form_bytes z) at1) q k.0), subst (λ (z : ℤ). fits16 z ≡ true) q k.1)

  constant_out : (from at : ℕ) → byte s from ≡ got 19 at → Reads from (constant_of t 0 s at)
  unfolding constant_of tree tree_bytes narrow u32
  constant_out from at h e next x r =
      read_by (field 4 s at) _ r λ n at1 e1 r1.
      got_so (λ e next. tree e t p [] ≡ ok x → Told from next x) r1 λ v.
      ok_is (Told from at1) v (byte-stands s from 19 at (little_bytes 4 n) at1 h (field_out s b 4 at n at1 e1), refl)

  node_out : (operates : ℕ → Reader Expr) → ((from at : ℕ) → byte s from ≡ got 17 at → Reads from (operates from s at)) → (at : ℕ) → Reads at (node t 0 operates s at)
  unfolding node
  node_out operates h at e next x r v =
      read_by (byte s at) _ r λ code at1 e1 r1.
      choose_by (eqb code 16) (read_of t 0) _ s at1 r1 (λ q r2. read_out at at1 (e1 ∙ ap (λ (c : ℕ). got c at1) (eqb-true code 16 q)) e next x r2 v) λ _ r2.
      choose_by (eqb code 17) (operates at) _ s at1 r2 (λ q r3. h at at1 (e1 ∙ ap (λ (c : ℕ). got c at1) (eqb-true code 17 q)) e next x r3 v) λ _ r3.
      choose_by (eqb code 18) (literal_of t 0) _ s at1 r3 (λ q r4. literal_out at at1 (e1 ∙ ap (λ (c : ℕ). got c at1) (eqb-true code 18 q)) e next x r4 v) λ _ r4.
      choose_by (eqb code 19) (constant_of t 0) (refuse 9 at) s at1 r4 (λ q r5. constant_out at at1 (e1 ∙ ap (λ (c : ℕ). got c at1) (eqb-true code 19 q)) e next x r5 v) λ _ r5.
      not-got r5

  args_out : (one : Reader Expr) → ((at : ℕ) → Reads at (one s at)) → (n at : ℕ) (es : Exprs) (next : ℕ) (ts : Trees) → times none more one n s at ≡ got es next → trees es t p [] ≡ ok ts → Tolds at next ts
  unfolding times trees trees_bytes narrows
  args_out one h zero at es next ts r = got_so (λ es next. trees es t p [] ≡ ok ts → Tolds at next ts) {n = at} r λ v. ok_is (Tolds at at) v (nothing-stands s at, refl)
  args_out one h (suc n) at es next ts r =
      read_by (one s at) _ r λ e at1 e1 r1.
      read_by (times none more one n s at1) _ r1 λ fs at2 e2 r2.
      got_so (λ es next. trees es t p [] ≡ ok ts → Tolds at next ts) r2 λ v.
      run_by (tree e t p []) _ v λ x e3 r3.
      run_by (trees fs t p []) _ r3 λ us e4 r4.
      let k = h at e at1 x e1 e3 in
      let m = args_out one h n at1 fs at2 us e2 e4 in
      ok_is (Tolds at at2) r4 (stands-join s (tree_bytes x ys) (trees_bytes us ys) at at1 at2 k.0 m.0, join (narrow x) (narrows us) k.1 m.1)

  apply_out : (one : Reader Expr) → ((at : ℕ) → Reads at (one s at)) → (from at : ℕ) → byte s from ≡ got 17 at → Reads from (apply_of t 0 one s at)
  unfolding apply_of tree tree_bytes narrow
  apply_out one h from at w e next x r =
      read_by (index (length t.operators) s at) _ r λ o at1 e1 r1.
      read_by (times none more one (arity_at t.operators o) s at1) _ r1 λ es at2 e2 r2.
      got_so (λ e next. tree e t p [] ≡ ok x → Told from next x) r2 λ v.
      run_by (trees es t p []) _ v λ ts e3 r3.
      let m = args_out one h (arity_at t.operators o) at1 es at2 ts e2 e3 in
      ok_is (Told from at2) r3 (byte-stands s from 17 at (o ∷ trees_bytes ts ys) at2 w (byte-stands s at o at1 (trees_bytes ts ys) at2 (index_out (length t.operators) at o at1 e1) m.0), m.1)

  applied_out : (left from at : ℕ) → byte s from ≡ got 17 at → Reads from (applied t 0 left from s at)
  unfolding applied
  applied_out zero from at w e next x r v = not-got r
  applied_out (suc left) from at w e next x r v =
      apply_out (node t 0 (applied t 0 left)) (λ at e next x r v. node_out (applied t 0 left) (λ from at w e next x r v. applied_out left from at w e next x r v) at e next x r v) from at w e next x r v

  pub tree_out : (left at : ℕ) (e : Expr) (next : ℕ) (x : Tree) → node t 0 (applied t 0 left) s at ≡ got e next → tree e t p [] ≡ ok x → Stands s at (tree_bytes x ys) next × (narrow x ≡ true)
  tree_out left at e next x r v = node_out (applied t 0 left) (applied_out left) at e next x r v
