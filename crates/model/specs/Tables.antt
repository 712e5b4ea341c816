-- The operator table and the array table, of a file and of an update list.
use Rattle.std.specs.Prelude.{ℕ, ◌*◌, List, [], ◌∷◌, Bool, ◌&&◌, ◌||◌, cond, get_or, ltb, eqb}
use Rattle.model.specs.Test.{within}

-- role: 0 in, 1 out, 2 inout, 3 local
pub record Array : Type 0 where
  pub role : ℕ
  pub extents : List ℕ

-- An operator is kept as its byte in the file: its arity, 1 to 4, or 82 (hex), which is arity 2 and "arguments may swap".
pub record Tables : Type 0 where
  pub operators : List ℕ
  pub arrays : List Array

-- the arguments of an operator of this byte may swap
unfoldable pub swaps : ℕ → Bool
swaps b = eqb b 0x82

-- a file of this version may have this byte for an operator
unfoldable pub operator_in : ℕ → ℕ → Bool
operator_in version b = within 1 4 b || (eqb version 2 && swaps b)

-- a list does not know its file's version: it may have what version 2 has
abbrev pub operator_byte : ℕ → Bool
operator_byte = operator_in 2

-- how many arguments an operator of this byte has
unfoldable pub arity_of : ℕ → ℕ
arity_of b = cond (swaps b) 2 b

-- of operator o
abbrev pub arity_at : List ℕ → ℕ → ℕ
arity_at ops o = arity_of (get_or ops o 0)

unfoldable pub swaps_at : List ℕ → ℕ → Bool
swaps_at ops o = swaps (get_or ops o 0)

-- how many cells an array of these extents has
abbrev pub cells : List ℕ → ℕ
cells [] = 1
cells (e ∷ es) = e * cells es

-- the array of this number; an undeclared one counts as a local without cells
abbrev pub array_at : List Array → ℕ → Array
array_at xs a = get_or xs a (record { role = 3; extents = 0 ∷ [] })

abbrev pub local : Array → Bool
local x = eqb x.role 3

-- an in or inout array: its cells start alike on both sides, and may be read before they are written
abbrev pub starts : Array → Bool
starts x = eqb x.role 0 || eqb x.role 2

-- cell c of array a is declared
abbrev pub inside : List Array → ℕ → ℕ → Bool
inside xs a c = ltb c (cells (array_at xs a).extents)
