-- Terms (docs/FORMAT.md, "The match"): alike up to the swaps that operators allow, and how many different ones there are. A term is a `Tree`.
use Rattle.std.specs.Prelude.{ℕ, Bool, true, false, cond, ◌&&◌, ◌||◌, List, [], ◌∷◌, ◌++◌, length, ℤ, pos, negsuc, ◌==◌}
use Rattle.model.specs.Update.{Tree, Trees}
use Rattle.model.specs.Update.Tree.{cell, number, constant, operator}
use Rattle.model.specs.Update.Trees.{nil, cons}

abbrev pub same_z : ℤ → ℤ → Bool
same_z (pos m) (pos n) = m == n
same_z (pos m) (negsuc n) = false
same_z (negsuc m) (pos n) = false
same_z (negsuc m) (negsuc n) = m == n

-- two arguments in the other order; any other number of arguments as they are
unfoldable pub turned : Trees → Trees
turned nil = nil
turned (cons x nil) = cons x nil
turned (cons x (cons y nil)) = cons y (cons x nil)
turned (cons x (cons y (cons z ts))) = cons x (cons y (cons z ts))

-- a term and its parts
unfoldable mutual
  pub parts : Tree → List Tree
  parts (cell a c) = cell a c ∷ []
  parts (number z) = number z ∷ []
  parts (constant n) = constant n ∷ []
  parts (operator o ts) = operator o ts ∷ parts_of ts

  pub parts_of : Trees → List Tree
  parts_of nil = []
  parts_of (cons t ts) = parts t ++ parts_of ts

abbrev pub parts_of_all : List Tree → List Tree
parts_of_all [] = []
parts_of_all (t ∷ ts) = parts t ++ parts_of_all ts

-- `swaps o`: operator o may swap its two arguments
module _ (swaps : ℕ → Bool) where
  -- alike part for part, at every depth the two arguments of an operator that swaps in either order
  unfoldable mutual
    pub alike : Tree → Tree → Bool
    alike (cell a c) (cell b d) = a == b && c == d
    alike (cell a c) (number z) = false
    alike (cell a c) (constant n) = false
    alike (cell a c) (operator o ts) = false
    alike (number z) (cell b d) = false
    alike (number z) (number y) = same_z z y
    alike (number z) (constant n) = false
    alike (number z) (operator o ts) = false
    alike (constant n) (cell b d) = false
    alike (constant n) (number z) = false
    alike (constant n) (constant m) = n == m
    alike (constant n) (operator o ts) = false
    alike (operator o ts) (cell b d) = false
    alike (operator o ts) (number z) = false
    alike (operator o ts) (constant n) = false
    alike (operator o ts) (operator p us) = o == p && (alikes ts us || (swaps o && alikes ts (turned us)))

    pub alikes : Trees → Trees → Bool
    alikes nil nil = true
    alikes nil (cons u us) = false
    alikes (cons t ts) nil = false
    alikes (cons t ts) (cons u us) = alike t u && alikes ts us

  abbrev pub among : Tree → List Tree → Bool
  among t [] = false
  among t (u ∷ us) = alike t u || among t us

  -- of terms that are alike, one
  abbrev pub distinct : List Tree → List Tree
  distinct [] = []
  distinct (t ∷ ts) = let r = distinct ts in cond (among t r) r (t ∷ r)

  -- how many different terms occur among these values and their parts
  unfoldable pub term_count : List Tree → ℕ
  term_count values = length (distinct (parts_of_all values))
