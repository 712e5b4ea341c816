-- An update list as a program file without loops or guards: one statement for each update, in the lowest version that can hold it.
use Rattle.std.specs.Prelude.{ℕ, zero, suc, ◌/◌, ◌%◌, List, [], ◌∷◌, ◌++◌, length, ℤ, pos, if◌then◌else◌}
use Rattle.std.specs.Int.{w16}
use Rattle.std.proofs.Common.{of_z}
use Rattle.model.specs.Test.{every}
use Rattle.model.specs.Tables.{Array, Tables, cells, array_at, operator_in}
use Rattle.model.specs.Update.{Tree, Trees, Update, Listed}
use Rattle.model.specs.Update.Tree.{cell, number, constant, operator}
use Rattle.model.specs.Update.Trees.{nil, cons}
use Rattle.reader.specs.Grammar.{mark}

-- n bytes of a number, the lowest first
unfoldable pub little_bytes : ℕ → ℕ → List ℕ
little_bytes zero x = []
little_bytes (suc n) x = x % 256 ∷ little_bytes n (x / 256)

-- the bytes of each, one behind the other
abbrev pub in_row : {A : Type 0} → (A → List ℕ) → List A → List ℕ
in_row bytes [] = []
in_row bytes (x ∷ xs) = bytes x ++ in_row bytes xs

-- the subscripts of a cell, over any number of dimensions: last fastest
unfoldable pub subscripts_of : List ℕ → ℕ → List ℕ
subscripts_of [] c = []
subscripts_of (e ∷ es) c = c / cells es ∷ subscripts_of es (c % cells es)

-- a form inside no loop is its constant
unfoldable pub form_bytes : ℤ → List ℕ
form_bytes z = little_bytes 2 (of_z w16 z)

-- an array's number, and a form for each dimension
unfoldable pub cell_bytes : List Array → ℕ → ℕ → List ℕ
cell_bytes xs a c = a ∷ in_row (λ k. form_bytes (pos k)) (subscripts_of (array_at xs a).extents c)

unfoldable mutual
  pub tree_bytes : Tree → List Array → List ℕ
  tree_bytes (cell a c) xs = 0x10 ∷ cell_bytes xs a c
  tree_bytes (operator o ts) xs = 0x11 ∷ o ∷ trees_bytes ts xs
  tree_bytes (number z) xs = 0x12 ∷ form_bytes z
  tree_bytes (constant n) xs = 0x13 ∷ little_bytes 4 n

  pub trees_bytes : Trees → List Array → List ℕ
  trees_bytes nil xs = []
  trees_bytes (cons t ts) xs = tree_bytes t xs ++ trees_bytes ts xs

-- a statement
unfoldable pub update_bytes : List Array → Update → List ℕ
update_bytes xs u = 1 ∷ cell_bytes xs u.array u.target ++ tree_bytes u.source xs

-- a dimension of an array, by its extent
abbrev pub dimension_bytes : ℕ → List ℕ
dimension_bytes e = little_bytes 2 e

unfoldable pub array_bytes : Array → List ℕ
array_bytes x = x.role ∷ length x.extents ∷ in_row dimension_bytes x.extents

unfoldable pub table_bytes : ℕ → Tables → List ℕ
table_bytes version t = mark ++ little_bytes 2 version ++ length t.operators ∷ t.operators ++ length t.arrays ∷ in_row array_bytes t.arrays

-- the file of this version
unfoldable pub file_in : ℕ → Listed → List ℕ
file_in version l = table_bytes version l.tables ++ in_row (update_bytes l.tables.arrays) l.updates ++ 0 ∷ []

-- the lowest version that can hold the list: 1, or 2 where an operator is marked
unfoldable pub version_of : Listed → ℕ
version_of l = if every (operator_in 1) l.tables.operators then 1 else 2

unfoldable pub file_of : Listed → List ℕ
file_of l = file_in (version_of l) l
