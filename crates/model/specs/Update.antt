-- Update lists (docs/FORMAT.md, "The run"), and terms, which are the same kind of tree (docs/FORMAT.md, "The match").
use Rattle.std.specs.Prelude.{ℕ, suc, ◌+◌, List, [], ◌∷◌, Bool, false, ◌&&◌, ◌||◌, eqb, ℤ}
use Rattle.model.specs.Test.{total}
use Rattle.model.specs.Tables.{Tables}

-- An expression with its reads turned into cells and its forms into numbers.
-- A term, which is what docs/FORMAT.md calls a value, is such a tree too: its cells are starting cells.
mutual
  pub data Tree : Type 0 where
    cell : ℕ → ℕ → Tree
    number : ℤ → Tree
    constant : ℕ → Tree
    operator : ℕ → Trees → Tree

  pub data Trees : Type 0 where
    nil : Trees
    cons : Tree → Trees → Trees

-- An update, which is what docs/FORMAT.md calls an executed statement: target cell and expression.
pub record Update : Type 0 where
  pub array : ℕ
  pub target : ℕ
  pub source : Tree

-- An update list: the two tables and the updates.
pub record Listed : Type 0 where
  pub tables : Tables
  pub updates : List Update

-- nodes: operators, reads, literals and constants
unfoldable mutual
  pub size : Tree → ℕ
  size (cell a c) = 1
  size (number z) = 1
  size (constant n) = 1
  size (operator o ts) = suc (sizes ts)

  pub sizes : Trees → ℕ
  sizes nil = 0
  sizes (cons t ts) = size t + sizes ts

-- the nodes of all right sides
abbrev pub nodes : List Update → ℕ
nodes us = total (λ u. size u.source) us

-- the update writes this cell
abbrev pub writes : Update → ℕ → ℕ → Bool
writes u a c = eqb u.array a && eqb u.target c

-- one of the updates writes this cell
abbrev pub written : List Update → ℕ → ℕ → Bool
written [] a c = false
written (u ∷ us) a c = writes u a c || written us a c

-- the expression reads this cell
unfoldable mutual
  pub reads_cell : Tree → ℕ → ℕ → Bool
  reads_cell (cell b d) a c = eqb a b && eqb c d
  reads_cell (number z) a c = false
  reads_cell (constant n) a c = false
  reads_cell (operator o ts) a c = reads_cells ts a c

  pub reads_cells : Trees → ℕ → ℕ → Bool
  reads_cells nil a c = false
  reads_cells (cons t ts) a c = reads_cell t a c || reads_cells ts a c
