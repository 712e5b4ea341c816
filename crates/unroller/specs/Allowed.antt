-- The update lists of question 26: tables that the file allows, and a sequence of updates within the limits,
-- that writes no in array and reads no unwritten out or local cell.
use Rattle.std.specs.Prelude.{ℕ, zero, suc, List, [], ◌∷◌, ◌++◌, Bool, true, false, ◌&&◌, ◌||◌, not, length, ltb, leb, eqb, ℤ}
use Rattle.model.specs.Test.{within, every, total}
use Rattle.model.specs.Tables.{Array, Tables, cells, array_at, local, inside, operator_byte, arity_at}
use Rattle.model.specs.Update.{Tree, Trees, Update, Listed, nodes}
use Rattle.model.specs.Update.Tree.{cell, number, constant, operator}
use Rattle.model.specs.Update.Trees.{nil, cons}
use Rattle.unroller.specs.Run.{signed, readable}

-- no other role after a local; `after`: a local came just before
abbrev pub locals_last : Bool → List Array → Bool
locals_last after [] = true
locals_last after (x ∷ xs) = (not after || local x) && locals_last (local x) xs

abbrev pub allowed_array : Array → Bool
allowed_array x = within 0 3 x.role && (within 1 3 (length x.extents) && every (within 1 1024) x.extents)

-- tables that the file allows: 6, 7, 8
unfoldable pub allowed_tables : Tables → Bool
allowed_tables t =
    within 0 16 (length t.operators)
    && (every operator_byte t.operators
    && (within 1 16 (length t.arrays)
    && (every allowed_array t.arrays && (locals_last false t.arrays && leb (total (λ x. cells x.extents) t.arrays) 2048))))

-- lies in 32 signed bits
abbrev pub fits32 : ℤ → Bool
fits32 = signed 2147483647

-- an expression over these tables: operators at most `left` deep, literals of 32 signed bits
unfoldable mutual
  pub proper : Tree → Tables → ℕ → Bool
  proper (cell a c) t left = inside t.arrays a c
  proper (number z) t left = fits32 z
  proper (constant n) t left = ltb n 4294967296
  proper (operator o ts) t zero = false
  proper (operator o ts) t (suc left) = ltb o (length t.operators) && propers ts t left (arity_at t.operators o)

  -- as many as the arity
  pub propers : Trees → Tables → ℕ → ℕ → Bool
  propers nil t left zero = true
  propers nil t left (suc n) = false
  propers (cons x xs) t left zero = false
  propers (cons x xs) t left (suc n) = proper x t left && propers xs t left n

-- a target in a declared array that is no in array
unfoldable pub may_write : List Array → ℕ → ℕ → Bool
may_write xs a c = inside xs a c && not (eqb (array_at xs a).role 0)

unfoldable pub allowed_update : Tables → Update → Bool
allowed_update t u = may_write t.arrays u.array u.target && proper u.source t 12

-- question 17 of each update, behind those already done
abbrev pub read_all : List Array → List Update → List Update → Bool
read_all xs done [] = true
read_all xs done (u ∷ us) = readable u.source xs done && read_all xs (done ++ (u ∷ [])) us

unfoldable pub allowed : Listed → Bool
allowed l =
    allowed_tables l.tables
    && (leb (length l.updates) 2048
    && (leb (nodes l.updates) 8192 && (every (allowed_update l.tables) l.updates && read_all l.tables.arrays [] l.updates)))
