-- An allowed list is read back from its words.
use mathlib.Core.Path.{◌≡◌, refl}
use Prim.Native.Nat.{ℕ, zero, suc, ◌+◌, ◌-◌, ◌*◌, ◌≤◌}
use mathlib.Core.List.{List, [], ◌∷◌, ◌++◌, append-nil, append_assoc}
use mathlib.Core.Bool.{Bool, true, false, ◌||◌, not, false≢true}
use native.Mathlib.Omega.{arith}
use mathlib.Core.Option.{some}
use lib.ListN.{length, replicate, length-replicate, length-append}
use lib.Dec.{ltb}
use borrow.Author.Tests.{lt-ltb, le-leb}
use mir.Syntax.{w32}
use mir.Val.{of_z}
use mir.Facts.{to_z-of_z, Fits-of_z}
use Rattle.model.specs.Test.{within, every}
use Rattle.model.specs.Tables.{Array, Tables, cells, local, operator_byte, arity_at}
use Rattle.model.specs.Update.{Tree, Trees, Update, Listed, size, nodes}
use Rattle.model.specs.Update.Tree.{cell, number, constant, operator}
use Rattle.model.specs.Update.Trees.{nil, cons}
use Rattle.unroller.specs.Run.{readable, readables}
use Rattle.unroller.specs.Words.{got, times, zeros, all_zero}
use Rattle.unroller.specs.Allowed.{locals_last, allowed_array, proper, propers, may_write, allowed_update, read_all, allowed}
use Rattle.unroller.specs.Layout.{padded, array_words, arrays_words, table_words, tree_words, trees_words, update_words, updates_words, words, layout}
use Rattle.unroller.specs.Decode.{tested, operators, extents, array, arrays, tables, may_read, applied, node, operates, expr, update, updates, list, decode}
use Rattle.unroller.proofs.Parts.{both, within-high, ArrayParts, array_parts, room, TablesParts, list-parts, signed-fits, nodes_snoc}

zeros_in : (n : ℕ) (rest : List ℕ) → zeros n (replicate n 0 ++ rest) ≡ got 0 rest
unfolding zeros
zeros_in zero rest = refl
zeros_in (suc n) rest = zeros_in n rest

all_zero_lem : (n : ℕ) → all_zero (replicate n 0) ≡ true
unfolding all_zero
all_zero_lem n =
    let e : length {A = ℕ} (replicate n 0) ≡ n = length-replicate n 0 in
    let r : List ℕ = replicate n 0 in
    let p : r ++ [] ≡ r = append-nil r in
    let z = rw p at (zeros_in n []) in
    rw (e, z)

tested_in : (test : ℕ → Bool) (l rest : List ℕ) → every test l ≡ true → times [] ◌∷◌ (tested test) (length l) (l ++ rest) ≡ got l rest
unfolding times
tested_in test [] rest a = refl
tested_in test (x ∷ l) rest a = let p = both (test x) (every test l) a in rw (p.0, tested_in test l rest p.1)

array_in : (x : Array) (rest : List ℕ) → ArrayParts x → array (array_words x ++ rest) ≡ got x rest
unfolding array extents
array_in x rest a =
    let b = tested_in (within 1 1024) x.extents (replicate (3 - length x.extents) 0 ++ rest) a.sizes-known in
    let z = zeros_in (3 - length x.extents) rest in
    rw (a.role-known, a.dimensions, append_assoc x.extents (replicate (3 - length x.extents) 0) rest, b, z)

arrays_in : (xs : List Array) (after : Bool) (before : ℕ) (rest : List ℕ) → every allowed_array xs ≡ true → locals_last after xs ≡ true → before + room xs ≤ 2048 →
    arrays (length xs) after before (arrays_words xs ++ rest) ≡ got xs rest
unfolding arrays
arrays_in [] after before rest a o r = refl
arrays_in (x ∷ xs) after before rest a o r =
    let p = both (allowed_array x) (every allowed_array xs) a in
    let q = both (not after || local x) (locals_last (local x) xs) o in
    rw (
      append_assoc (array_words x) (arrays_words xs) rest,
      array_in x (arrays_words xs ++ rest) (array_parts x p.0),
      q.0,
      le-leb (before + cells x.extents) 2048 (omega arith),
      arrays_in xs (local x) (before + cells x.extents) rest p.1 q.1 (omega arith),
    )

pub padded-length : (n : ℕ) (l : List ℕ) → length l ≤ n → length (padded n l) ≡ n
padded-length n l h =
    let e = length-append l (replicate (n - length l) 0) in
    let f : length {A = ℕ} (replicate (n - length l) 0) ≡ n - length l = length-replicate (n - length l) 0 in
    omega arith

pub arrays-length : (xs : List Array) → every allowed_array xs ≡ true → length (arrays_words xs) ≡ 5 * length xs
arrays-length [] a = refl
arrays-length (x ∷ xs) a =
    let p = both (allowed_array x) (every allowed_array xs) a in
    let e = length-append (array_words x) (arrays_words xs) in
    let f = arrays-length xs p.1 in
    let g = padded-length 3 x.extents (within-high 1 3 (length x.extents) (array_parts x p.0).dimensions) in
    omega arith

tables_in_lem : (t : Tables) (rest : List ℕ) → TablesParts t → tables (table_words t ++ rest) ≡ got t rest
unfolding tables table_words operators
tables_in_lem t rest a =
    let n = length t.operators in
    let m = length t.arrays in
    let l = arrays-length t.arrays a.each in
    let fits = a.fits in
    let j : 80 - length (arrays_words t.arrays) ≡ 5 * (16 - m) = omega arith in
    let tail = replicate (5 * (16 - m)) 0 ++ rest in
    let q = tested_in operator_byte t.operators (replicate (16 - n) 0 ++ (m ∷ (arrays_words t.arrays ++ tail))) a.bytes in
    let z = zeros_in (16 - n) (m ∷ (arrays_words t.arrays ++ tail)) in
    let x = arrays_in t.arrays false 0 tail a.each a.order (omega arith) in
    let y = zeros_in (5 * (16 - m)) rest in
    simp (append_assoc, j, a.operators) (rw (q, z, a.count, x, y))

-- expressions
module _ (t : Tables) (before : List Update) where
  mutual
    unfolding expr node tree_words trees_words proper propers readable readables may_read operates applied times

    tree_in : (x : Tree) (left : ℕ) (rest : List ℕ) → proper x t left ≡ true → readable x t.arrays before ≡ true
        → expr t.operators (may_read t.arrays before) left (tree_words x ++ rest) ≡ got x rest
    tree_in (cell a c) left rest p r = rw (p, r)
    tree_in (number z) left rest p r =
        let f = signed-fits w32 2147483647 refl z p in
        let b = Fits-of_z {w = w32} {z = z} f in
        rw (lt-ltb (of_z w32 z) 4294967296 b.fits, to_z-of_z {w = w32} {z = z} f)
    tree_in (constant n) left rest p r = rw p
    tree_in (operator o ts) zero rest p r = absurd (false≢true p)
    tree_in (operator o ts) (suc left) rest p r =
        let q = both (ltb o (length t.operators)) (propers ts t left (arity_at t.operators o)) p in
        rw (q.0, trees_in ts left (arity_at t.operators o) rest q.1 r)

    trees_in : (xs : Trees) (left n : ℕ) (rest : List ℕ) → propers xs t left n ≡ true → readables xs t.arrays before ≡ true
        → times nil cons (node t.operators (may_read t.arrays before) (operates t.operators (may_read t.arrays before) left)) n (trees_words xs ++ rest) ≡ got xs rest
    trees_in nil left zero rest p r = refl
    trees_in nil left (suc n) rest p r = absurd (false≢true p)
    trees_in (cons x xs) left zero rest p r = absurd (false≢true p)
    trees_in (cons x xs) left (suc n) rest p r =
        let q = both (proper x t left) (propers xs t left n) p in
        let s = both (readable x t.arrays before) (readables xs t.arrays before) r in
        rw (append_assoc (tree_words x) (trees_words xs) rest, tree_in x left (trees_words xs ++ rest) q.0 s.0, trees_in xs left n rest q.1 s.1)

update_in : (t : Tables) (before : List Update) (u : Update) (rest : List ℕ) → allowed_update t u ≡ true → readable u.source t.arrays before ≡ true → nodes before + size u.source ≤ 8192 →
    update t.operators (may_write t.arrays) (may_read t.arrays before) (nodes before) (update_words u ++ rest) ≡ got u rest
unfolding update allowed_update
update_in t before u rest a r n =
    let p = both (may_write t.arrays u.array u.target) (proper u.source t 12) a in
    rw (p.0, tree_in t before u.source 12 rest p.1 r, le-leb (nodes before + size u.source) 8192 n)

one_not : (l : List ℕ) → all_zero (1 ∷ l) ≡ false
unfolding all_zero zeros
one_not l = refl

updates_in : (t : Tables) (us before : List Update) (left k : ℕ) → length us ≤ left → nodes before + nodes us ≤ 8192 → every (allowed_update t) us ≡ true → read_all t.arrays before us ≡ true →
    updates t left before (updates_words us ++ replicate k 0) ≡ got (before ++ us) []
unfolding updates
updates_in t [] before zero k h n a r = rw (all_zero_lem k, append-nil before)
updates_in t [] before (suc left) k h n a r = rw (all_zero_lem k, append-nil before)
updates_in t (u ∷ us) before zero k h n a r = absurd (omega arith)
updates_in t (u ∷ us) before (suc left) k h n a r =
    let p = both (allowed_update t u) (every (allowed_update t) us) a in
    let q = both (readable u.source t.arrays before) (read_all t.arrays (before ++ (u ∷ [])) us) r in
    let s = nodes_snoc before u in
    let e = append_assoc (tree_words u.source) (updates_words us) (replicate k 0) in
    rw (
      e,
      one_not (u.array ∷ u.target ∷ (tree_words u.source ++ (updates_words us ++ replicate k 0))),
      update_in t before u (updates_words us ++ replicate k 0) p.0 q.0 (omega arith),
      updates_in t us (before ++ (u ∷ [])) left k (omega arith) (omega arith) p.1 q.1,
      append_assoc before (u ∷ []) us,
    )

pub decode-layout : (l : Listed) (n : ℕ) → allowed l ≡ true → decode (layout l n) ≡ some l
unfolding decode layout words list
decode-layout l n e =
    let a = list-parts l e in
    let k = n - length (words l) in
    let t = tables_in_lem l.tables (updates_words l.updates ++ replicate k 0) a.tables-allowed in
    let u = updates_in l.tables l.updates [] 2048 k a.few (let s = a.small in omega arith) a.each a.reads in
    rw (append_assoc (table_words l.tables) (updates_words l.updates) (replicate k 0), t, u)
