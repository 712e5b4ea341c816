-- The file of an allowed list is made of bytes.
use mathlib.Core.Path.{◌≡◌, refl}
use Prim.Native.Nat.{ℕ, zero, suc, ◌%◌, ◌/◌, ◌<◌}
use mathlib.Core.List.{List, [], ◌∷◌, ◌++◌}
use mathlib.Core.Bool.{Bool, true, not, false≢true}
use native.Mathlib.Omega.{arith}
use lib.ListN.{length}
use lib.Dec.{ltb, eqb}
use lib.IntN.{pos}
use mir.Syntax.{w16}
use mir.Val.{of_z}
use borrow.Author.Tests.{lt-ltb, ltb-true}
use Rattle.model.specs.Test.{within, every}
use Rattle.model.specs.Tables.{Array, Tables, array_at, inside, operator_byte, arity_at}
use Rattle.model.specs.Update.{Tree, Trees, Update, Listed}
use Rattle.model.specs.Update.Tree.{cell, number, constant, operator}
use Rattle.model.specs.Update.Trees.{nil, cons}
use Rattle.model.proofs.Operators.{in_small}
use Rattle.reader.specs.Field.{Bytes}
use Rattle.reader.specs.Grammar.{mark}
use Rattle.unroller.specs.Allowed.{allowed_array, allowed, proper, propers, may_write, allowed_update}
use Rattle.unroller.proofs.Parts.{both, join, within-high, array_parts, TablesParts, list-parts}
use Rattle.writer.specs.File.{little_bytes, in_row, subscripts_of, form_bytes, cell_bytes, tree_bytes, trees_bytes, update_bytes, dimension_bytes, array_bytes, table_bytes, file_in}
use Rattle.writer.proofs.Trees.{inside-declared}

abbrev is_byte : ℕ → Bool
is_byte b = ltb b 256

abbrev Small : List ℕ → Type 0
Small l = every is_byte l ≡ true

small_bytes : (l : List ℕ) → Small l → Bytes l
small_bytes [] e i = omega arith
small_bytes (b ∷ l) e zero = ltb-true b 256 (both (is_byte b) (every is_byte l) e).0
small_bytes (b ∷ l) e (suc i) = small_bytes l (both (is_byte b) (every is_byte l) e).1 i

small-cons : (b : ℕ) (l : List ℕ) → b < 256 → Small l → Small (b ∷ l)
small-cons b l h e = join (is_byte b) (every is_byte l) (lt-ltb b 256 h) e

small-join : (l m : List ℕ) → Small l → Small m → Small (l ++ m)
small-join [] m e f = f
small-join (b ∷ l) m e f = let p = both (is_byte b) (every is_byte l) e in join (is_byte b) (every is_byte (l ++ m)) p.0 (small-join l m p.1 f)

module _ {A : Type 0} (bytes : A → List ℕ) (good : A → Bool) (each : (x : A) → good x ≡ true → Small (bytes x)) where
  small_row : (xs : List A) → every good xs ≡ true → Small (in_row bytes xs)
  small_row [] e = refl
  small_row (x ∷ xs) e = let p = both (good x) (every good xs) e in small-join (bytes x) (in_row bytes xs) (each x p.0) (small_row xs p.1)

little_small : (n x : ℕ) → Small (little_bytes n x)
unfolding little_bytes
little_small zero x = refl
little_small (suc n) x = small-cons (x % 256) (little_bytes n (x / 256)) (omega arith) (little_small n (x / 256))

forms_small : (ks : List ℕ) → Small (in_row (λ k. form_bytes (pos k)) ks)
unfolding form_bytes
forms_small [] = refl
forms_small (k ∷ ks) = small-join (little_bytes 2 (of_z w16 (pos k))) (in_row (λ k. form_bytes (pos k)) ks) (little_small 2 (of_z w16 (pos k))) (forms_small ks)

operators-small : (ops : List ℕ) → every operator_byte ops ≡ true → Small ops
operators-small [] e = refl
operators-small (b ∷ ops) e = let p = both (operator_byte b) (every operator_byte ops) e in small-cons b ops (in_small 2 b p.0) (operators-small ops p.1)

module _ (t : Tables) (p : TablesParts t) where
  abbrev xs : List Array
  xs = t.arrays

  cell-small : (a c : ℕ) → inside xs a c ≡ true → Small (cell_bytes xs a c)
  unfolding cell_bytes
  cell-small a c h =
      let l = inside-declared xs a c h in
      let few = within-high 1 16 (length xs) p.count in
      small-cons a (in_row (λ k. form_bytes (pos k)) (subscripts_of (array_at xs a).extents c)) (omega arith) (forms_small (subscripts_of (array_at xs a).extents c))

  mutual
    unfolding tree_bytes trees_bytes form_bytes proper propers

    tree-small : (x : Tree) (left : ℕ) → proper x t left ≡ true → Small (tree_bytes x xs)
    tree-small (cell a c) left h = small-cons 16 (cell_bytes xs a c) (omega arith) (cell-small a c h)
    tree-small (number z) left h = small-cons 18 (little_bytes 2 (of_z w16 z)) (omega arith) (little_small 2 (of_z w16 z))
    tree-small (constant n) left h = small-cons 19 (little_bytes 4 n) (omega arith) (little_small 4 n)
    tree-small (operator o ts) zero h = absurd (false≢true h)
    tree-small (operator o ts) (suc left) h =
        let q = both (ltb o (length t.operators)) (propers ts t left (arity_at t.operators o)) h in
        let l = ltb-true o (length t.operators) q.0 in
        let few = within-high 0 16 (length t.operators) p.operators in
        small-cons 17 (o ∷ trees_bytes ts xs) (omega arith) (small-cons o (trees_bytes ts xs) (omega arith) (trees-small ts left (arity_at t.operators o) q.1))

    trees-small : (ts : Trees) (left n : ℕ) → propers ts t left n ≡ true → Small (trees_bytes ts xs)
    trees-small nil left n h = refl
    trees-small (cons x ts) left zero h = absurd (false≢true h)
    trees-small (cons x ts) left (suc n) h =
        let q = both (proper x t left) (propers ts t left n) h in
        small-join (tree_bytes x xs) (trees_bytes ts xs) (tree-small x left q.0) (trees-small ts left n q.1)

  update-small : (u : Update) → allowed_update t u ≡ true → Small (update_bytes xs u)
  unfolding update_bytes allowed_update may_write
  update-small u h =
      let q = both (may_write xs u.array u.target) (proper u.source t 12) h in
      let i = both (inside xs u.array u.target) (not (eqb (array_at xs u.array).role 0)) q.0 in
      small-cons 1 (cell_bytes xs u.array u.target ++ tree_bytes u.source xs) (omega arith)
      (small-join (cell_bytes xs u.array u.target) (tree_bytes u.source xs) (cell-small u.array u.target i.0) (tree-small u.source 12 q.1))

  array-small : (x : Array) → allowed_array x ≡ true → Small (array_bytes x)
  unfolding array_bytes
  array-small x h =
      let a = array_parts x h in
      let role = within-high 0 3 x.role a.role-known in
      let few = within-high 1 3 (length x.extents) a.dimensions in
      small-cons x.role (length x.extents ∷ in_row dimension_bytes x.extents) (omega arith)
      (small-cons (length x.extents) (in_row dimension_bytes x.extents) (omega arith)
      (small_row dimension_bytes (within 1 1024) (λ e _. little_small 2 e) x.extents a.sizes-known))

  table_small : (version : ℕ) → Small (table_bytes version t)
  unfolding table_bytes
  table_small version =
      let ops = t.operators in
      let few = within-high 0 16 (length ops) p.operators in
      let many = within-high 1 16 (length xs) p.count in
      small-join (mark ++ little_bytes 2 version ++ length ops ∷ ops) (length xs ∷ in_row array_bytes xs)
      (small-join (mark ++ little_bytes 2 version) (length ops ∷ ops) (small-join mark (little_bytes 2 version) refl (little_small 2 version))
      (small-cons (length ops) ops (omega arith) (operators-small ops p.bytes)))
      (small-cons (length xs) (in_row array_bytes xs) (omega arith) (small_row array_bytes allowed_array array-small xs p.each))

pub file_bytes_lem : (version : ℕ) (l : Listed) → allowed l ≡ true → Bytes (file_in version l)
unfolding file_in
file_bytes_lem version l a =
    let q = list-parts l a in
    let t = l.tables in
    let own = in_row (update_bytes t.arrays) l.updates in
    small_bytes (table_bytes version t ++ own ++ 0 ∷ []) (small-join (table_bytes version t ++ own) (0 ∷ [])
    (small-join (table_bytes version t) own (table_small t q.tables-allowed version) (small_row (update_bytes t.arrays) (allowed_update t) (update-small t q.tables-allowed) l.updates q.each)) refl)
