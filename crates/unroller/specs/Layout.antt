-- The layout of an update list in words (docs/LAYOUT.md).
use Rattle.std.specs.Prelude.{ℕ, ◌-◌, List, [], ◌∷◌, ◌++◌, length, replicate}
use Rattle.std.specs.Int.{w32}
use Rattle.std.proofs.Common.{of_z}
use Rattle.model.specs.Tables.{Array, Tables}
use Rattle.model.specs.Update.{Tree, Trees, Update, Listed}
use Rattle.model.specs.Update.Tree.{cell, number, constant, operator}
use Rattle.model.specs.Update.Trees.{nil, cons}

-- zeros up to n words
abbrev pub padded : ℕ → List ℕ → List ℕ
padded n l = l ++ replicate (n - length l) 0

abbrev pub array_words : Array → List ℕ
array_words x = x.role ∷ length x.extents ∷ padded 3 x.extents

abbrev pub arrays_words : List Array → List ℕ
arrays_words [] = []
arrays_words (x ∷ xs) = array_words x ++ arrays_words xs

unfoldable pub table_words : Tables → List ℕ
table_words t = length t.operators ∷ padded 16 t.operators ++ length t.arrays ∷ padded 80 (arrays_words t.arrays)

unfoldable mutual
  pub tree_words : Tree → List ℕ
  tree_words (cell a c) = 16 ∷ a ∷ c ∷ []
  tree_words (operator o ts) = 17 ∷ o ∷ 0 ∷ trees_words ts
  tree_words (number z) = 18 ∷ of_z w32 z ∷ 0 ∷ []
  tree_words (constant n) = 19 ∷ n ∷ 0 ∷ []

  pub trees_words : Trees → List ℕ
  trees_words nil = []
  trees_words (cons t ts) = tree_words t ++ trees_words ts

abbrev pub update_words : Update → List ℕ
update_words u = 1 ∷ u.array ∷ u.target ∷ tree_words u.source

abbrev pub updates_words : List Update → List ℕ
updates_words [] = []
updates_words (u ∷ us) = update_words u ++ updates_words us

unfoldable pub words : Listed → List ℕ
words l = table_words l.tables ++ updates_words l.updates

-- the list in a slice of n words
unfoldable pub layout : Listed → ℕ → List ℕ
layout l n = padded n (words l)
